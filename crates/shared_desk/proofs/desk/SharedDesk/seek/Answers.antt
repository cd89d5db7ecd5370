use Rattle.std.proofs.Common.{refl}
use Rattle.shared_desk.proofs.SharedSteps.{shared_still, find_quiet, told_quiet}
use Rattle.shared_desk.proofs.desk.SharedDesk.seek.Goals as goal

pub invariant_of-self : goal.invariant_of-self
invariant_of-self c = shared_still _ _ _ _ _ _ _ _ c.self.invariant c.find.ensures.table _ _ c.find.ensures.view (find_quiet c.args.code c.find.result).added refl refl

pub returns : goal.returns
returns c = told_quiet _ _ c.self.inside.seat c.find.new.seat _ _ c.self.view_is c.find.ensures.table c.self.invariant.0.worked.pledge _ (find_quiet c.args.code c.find.result) c.find.ensures.view
