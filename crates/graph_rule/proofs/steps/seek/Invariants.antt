use Rattle.graph_history.specs.declared.event.Origin.TheVariants.{Root}
use Rattle.graph_rule.proofs.steps.seek.Given as goal

abbrev pub ghosts-seek_as : goal.ghosts-seek_as
ghosts-seek_as a = record { cell = a.cell; code = a.code; origin = Root }
