use Rattle.graph_history.specs.declared.event.Origin.TheVariants.{Root}
use Rattle.wide_rule.proofs.steps.seek_second.Given as goal

abbrev pub ghosts-seek_second_as : goal.ghosts-seek_second_as
ghosts-seek_second_as a = record { cell = a.cell; code = a.code; origin = Root }
