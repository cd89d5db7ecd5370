use Rattle.graph_history.specs.declared.event.Origin.TheVariants.{Root}
use Rattle.wide_rule.proofs.steps.seek_first.Given as goal

abbrev pub ghosts-seek_first_as : goal.ghosts-seek_first_as
ghosts-seek_first_as a = record { cell = a.cell; code = a.code; origin = Root }
