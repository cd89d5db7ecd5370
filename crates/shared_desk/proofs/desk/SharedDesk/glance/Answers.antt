use Rattle.std.proofs.Common.{refl}
use Rattle.shared_desk.proofs.SharedSteps.{shared_still, look_quiet, told_quiet}
use Rattle.shared_desk.proofs.desk.SharedDesk.glance.Goals as goal

pub invariant_of-self : goal.invariant_of-self
invariant_of-self c = shared_still _ _ _ _ _ _ _ _ c.self.invariant c.look.ensures.table _ _ c.look.ensures.view (look_quiet c.args.cell c.args.arrow c.look.result).added refl refl

pub returns : goal.returns
returns c = told_quiet _ _ c.self.inside.seat c.look.new.seat _ _ c.self.view_is c.look.ensures.table c.self.invariant.0.worked.pledge _ (look_quiet c.args.cell c.args.arrow c.look.result) c.look.ensures.view
