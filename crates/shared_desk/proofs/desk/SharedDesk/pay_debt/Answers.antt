use Rattle.std.proofs.Common.{refl}
use Rattle.shared_desk.proofs.SharedSteps.{shared_still, told_paid}
use Rattle.shared_desk.proofs.desk.SharedDesk.pay_debt.Goals as goal

pub invariant_of-self : goal.invariant_of-self
invariant_of-self c = shared_still _ _ _ _ _ _ _ _ c.self.invariant c.pay.ensures.table _ _ c.pay.ensures.view refl refl refl

pub returns : goal.returns
returns c = told_paid _ _ c.self.inside.seat c.pay.new.seat _ _ c.self.view_is c.pay.ensures.table c.self.invariant.0.worked.pledge c.args.cell c.pay.ensures.view
