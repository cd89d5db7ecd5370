use Rattle.std.proofs.Common.{◌≡◌, ◌∙◌, sym, ap, subst, rules}
use Rattle.tensor_words.specs.Operators.{IsArrow}
use Rattle.tensor_words.specs.Worlds.{WorldType}
use Rattle.graph_history.specs.History.{state_of, HasSome}
use Rattle.graph_rule.specs.Layout.{arrow_index}
use Rattle.graph_rule.specs.Values.{SeatValue}
use Rattle.graph_rule.proofs.EdgeSteps.{cell_there, in_words, glances}
use Rattle.graph_rule.proofs.arrows.load_edge_as.Goals as goal

pub word_index-index-requires-clause-cell : goal.word_index-index-requires-clause-cell
word_index-index-requires-clause-cell g c = cell_there c.args.seat.now c.args.graph.now c.args.cell c.requires.belongs c.reveal.ensures.known c.requires.there

pub load-requires : goal.load-requires
load-requires g c =
    let is : c.args.graph.now.world ≡ c.seat.inside.token.me.0.world = sym c.requires.belongs.world ∙ ap (λ (q : SeatValue). q.view.world) (sym c.seat.view_is) in
    let index : c.word_index-index.result ≡ arrow_index c.seat.inside.token.me.0.world c.args.cell c.args.arrow = c.word_index-index.ensures ∙ ap (λ (w : WorldType). arrow_index w c.args.cell c.args.arrow) is in
    let there = subst (λ (q : SeatValue). HasSome (state_of q.view.front) c.args.cell) (sym c.seat.view_is) c.requires.there in
    let arrow = subst (λ (q : SeatValue). IsArrow q.view.world.space c.args.arrow) (sym c.seat.view_is) c.requires.arrow in (
      search rules,
      in_words c.args.seat.now c.args.graph.now c.args.cell c.args.arrow c.requires.belongs c.reveal.ensures.known c.requires.there c.requires.arrow _ _ c.word_index-index.ensures (search rules),
      rw (c.requires.asked.0, c.requires.asked.1) (glances _ _ _ _ c.seat.invariant.5.sound.live c.word_index-index.result c.args.cell c.args.arrow index there arrow),
    )
