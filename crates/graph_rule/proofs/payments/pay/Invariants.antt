use Rattle.graph_history.specs.declared.event.Origin.TheVariants.{Root}
use Rattle.graph_rule.proofs.payments.pay.Given as goal

abbrev pub ghosts-pay_as : goal.ghosts-pay_as
ghosts-pay_as a = record { cell = a._cell; code = 0; origin = Root }
