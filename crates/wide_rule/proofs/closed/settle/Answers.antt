use Rattle.std.proofs.Common.{◌∙◌, sym}
use Rattle.wide_rule.proofs.Settling.{settled}
use Rattle.wide_rule.proofs.closed.settle.Goals as goal

pub invariant_of-result : goal.invariant_of-result
invariant_of-result c =
    settled c.args.seat.now.view _ _ c.reveal.ensures.complete c.requires.alone c.requires.finished (c.requires.belongs.world ∙ sym c.world.ensures.value ∙ sym c.of.ensures) (sym c.front.ensures.front)

pub returns-clause-closed : goal.returns-clause-closed
returns-clause-closed c = invariant_of-result c
