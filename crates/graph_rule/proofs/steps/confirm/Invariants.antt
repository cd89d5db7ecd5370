use Rattle.graph_history.specs.declared.event.Origin.TheVariants.{Root}
use Rattle.graph_rule.proofs.steps.confirm.Given as goal

abbrev pub ghosts-confirm_as : goal.ghosts-confirm_as
ghosts-confirm_as a = record { cell = a.cell; code = a.code; origin = Root }
