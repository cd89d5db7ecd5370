use Rattle.std.proofs.Common.{◌∙◌, ap, sym}
use Rattle.tensor_words.specs.Worlds.{WorldType}
use Rattle.shared_desk.proofs.SharedSteps.{shared_first}
use Rattle.shared_desk.proofs.desk.SharedDesk.with_hints.Goals as goal

pub invariant_of-result : goal.invariant_of-result
invariant_of-result c = (
  shared_first _ _ _ _ _ _ c.of.ensures c.requires.belongs c.reveal.ensures.known c.reveal.ensures.complete c.requires.pledge c.in-Ok.ensures.items c.in-Ok.ensures.capacity,
  c.new-last.ensures ∙ c.space.ensures.space ∙ ap (λ (w : WorldType). w.space) (c.world.ensures.value ∙ sym c.requires.belongs.world),
)
