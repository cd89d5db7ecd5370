use Rattle.std.proofs.Common.{◌∙◌, ◌<◌, ap, sym, subst, ℕ, List, All}
use Rattle.tensor_words.specs.Spaces.{SpaceType, size}
use Rattle.tensor_words.specs.Worlds.{WorldType}
use Rattle.graph_history.specs.declared.event.Event.{Event}
use Rattle.graph_history.specs.History.{state_of, IsClosed}
use Rattle.graph_history.specs.Laws.{IsCodeList}
use Rattle.canonical_graph.specs.Graphs.{IsClosedList}
use Rattle.graph_numbering.proofs.VertexCodes.{codes_below, codes_closed}
use Rattle.graph_numbering.proofs.numbering.finished.Goals as goal

pub of-requires-2-clause-below : goal.of-requires-2-clause-below
of-requires-2-clause-below c =
    let v = c.args.seat.now.view in
    let space = c.space-space.ensures.space ∙ ap (λ (w : WorldType). w.space) (c.world.ensures.value ∙ sym c.requires.belongs.world) in
    let list = subst (λ (l : List ℕ). IsCodeList (state_of v.front) l) (sym c.of.ensures) c.in_ok-codes.ensures.codes in
    subst (λ (s : SpaceType). All (λ x. x < size s) c.of.result) (sym space) (codes_below v.world v.front c.of.result c.reveal.ensures.known.legal list)

pub of-requires-2-clause-closed : goal.of-requires-2-clause-closed
of-requires-2-clause-closed c =
    let v = c.args.seat.now.view in
    let space = c.space-space.ensures.space ∙ ap (λ (w : WorldType). w.space) (c.world.ensures.value ∙ sym c.requires.belongs.world) in
    let list = subst (λ (l : List ℕ). IsCodeList (state_of v.front) l) (sym c.of.ensures) c.in_ok-codes.ensures.codes in
    let closed =
    subst (λ (h : List Event). IsClosed v.world (state_of h)) c.requires.front
    (subst (λ (w : WorldType). IsClosed w (state_of c.args.closed.now.front)) c.requires.world c.front-front.ensures.closed) in
    subst (λ (s : SpaceType). IsClosedList s c.of.result) (sym space) (codes_closed v.world v.front c.of.result c.reveal.ensures.known.legal list closed)
