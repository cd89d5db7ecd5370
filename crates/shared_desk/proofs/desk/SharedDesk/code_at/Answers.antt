use Rattle.std.proofs.Common.{◌<◌, ◌∙◌, sym, subst}
use Rattle.tensor_words.specs.Worlds.{WorldType}
use Rattle.graph_history.specs.History.{state_of, HasVertex, HasSome}
use Rattle.shared_desk.specs.SharedDesks.{DeskValue}
use Rattle.shared_desk.proofs.SharedSteps.{cell_fits, read_none, read_was}
use Rattle.shared_desk.proofs.desk.SharedDesk.code_at.Goals as goal

pub word-requires-clause-cell : goal.word-requires-clause-cell
word-requires-clause-cell c =
    let there = subst (λ (v : DeskValue). HasSome (state_of v.seat.view.front) c.args.cell) (sym c.self.view_is) c.requires in
    subst (λ (w : WorldType). c.args.cell < w.cells) c.self.invariant.0.belongs.world (cell_fits c.self.inside.seat.view.world c.self.inside.seat.view.front c.args.cell c.reveal.ensures.known.legal there)

pub unreachable-requires : goal.unreachable-requires
unreachable-requires c =
    let there = subst (λ (v : DeskValue). HasSome (state_of v.seat.view.front) c.args.cell) (sym c.self.view_is) c.requires in
    read_none c.self.inside.seat.view c.word.new.seat.view c.word.ensures.view c.args.cell there (sym c.word.ensures.exact ∙ c.in-None.is)

pub returns-clause-was : goal.returns-clause-was
returns-clause-was c =
    let there = subst (λ (v : DeskValue). HasSome (state_of v.seat.view.front) c.args.cell) (sym c.self.view_is) c.requires in
    subst (λ (v : DeskValue). HasVertex (state_of v.seat.view.front) c.args.cell c.in-Some.code) c.self.view_is
    (read_was c.self.inside.seat.view c.word.new.seat.view c.word.ensures.view c.args.cell c.in-Some.code there (sym c.word.ensures.exact ∙ c.in-Some.is))
