use Rattle.std.proofs.Common.{refl}
use Rattle.shared_desk.proofs.SharedSteps.{shared_still, tally_quiet, told_quiet}
use Rattle.shared_desk.proofs.desk.SharedDesk.count.Goals as goal

pub invariant_of-self : goal.invariant_of-self
invariant_of-self c = shared_still _ _ _ _ _ _ _ _ c.self.invariant c.tally.ensures.table _ _ c.tally.ensures.view refl refl refl

pub returns-clause-does : goal.returns-clause-does
returns-clause-does c = told_quiet _ _ c.self.inside.seat c.tally.new.seat _ _ c.self.view_is c.tally.ensures.table c.self.invariant.0.worked.pledge _ (tally_quiet c.tally.result) c.tally.ensures.view
