use Rattle.std.proofs.Common.{◌≡◌, [], sym, subst, None}
use Rattle.tensor_words.specs.Operators.{op}
use Rattle.tensor_words.specs.Worlds.{WorldType}
use Rattle.graph_history.specs.Desks.{Goes}
use Rattle.shared_desk.specs.SharedDesks.{DeskValue, standing_of}
use Rattle.shared_desk.proofs.Drawings.{word_fits, drawing_zero, drawing_after}
use Rattle.shared_desk.proofs.desk.SharedDesk.reach.Goals as goal

pub next-requires-clause-code : goal.next-requires-clause-code
next-requires-clause-code c =
    let v = c.code_at-code.new.self.seat.view in word_fits v.world v.front c.args.cell c.code_at-code.result c.world-world.ensures.known.legal c.code_at-code.ensures.is

pub returns-in-None : goal.returns-in-None
returns-in-None c =
    let goes = subst (λ (d : DeskValue). Goes (standing_of c.args.self.now) (standing_of d) 0 []) (sym c.in-None.ensures.same) c.code_at-code.ensures.goes in
    drawing_zero (standing_of c.args.self.now) (standing_of c.next.new.self) (standing_of c.mark.new.self) c.args.cell c.code_at-code.result c.args.arrow c.mark.result goes c.code_at-code.ensures.was
    (subst (λ (w : WorldType). op w.space c.args.arrow c.code_at-code.result ≡ None) c.code_at-code.ensures.goes.world (sym c.in-None.ensures.value)) c.mark.ensures

pub returns-in-Some : goal.returns-in-Some
returns-in-Some c =
    let goes = subst (λ (d : DeskValue). Goes (standing_of c.args.self.now) (standing_of d) 0 []) (sym c.in-Some.ensures.same) c.code_at-code.ensures.goes in
    drawing_after (standing_of c.args.self.now) (standing_of c.next.new.self) (standing_of c.reach_word.new.self) c.args.cell c.code_at-code.result c.args.arrow c.reach_word.result goes c.code_at-code.ensures.was
    c.reach_word.ensures
