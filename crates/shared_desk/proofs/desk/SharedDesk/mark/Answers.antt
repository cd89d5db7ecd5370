use Rattle.std.proofs.Common.{refl}
use Rattle.shared_desk.proofs.SharedSteps.{shared_still, drawn_quiet, told_quiet}
use Rattle.shared_desk.proofs.desk.SharedDesk.mark.Goals as goal

pub invariant_of-self : goal.invariant_of-self
invariant_of-self c = shared_still _ _ _ _ _ _ _ _ c.self.invariant c.set.ensures.table _ _ c.set.ensures.view (drawn_quiet c.args.cell c.args.arrow c.args.to c.set.result).added refl refl

pub returns : goal.returns
returns c = told_quiet _ _ c.self.inside.seat c.set.new.seat _ _ c.self.view_is c.set.ensures.table c.self.invariant.0.worked.pledge _ (drawn_quiet c.args.cell c.args.arrow c.args.to c.set.result) c.set.ensures.view
