use Rattle.graph_history.specs.declared.event.Origin.TheVariants.{Root}
use Rattle.graph_rule.proofs.steps.load_cell.Given as goal

abbrev pub ghosts-load_cell_as : goal.ghosts-load_cell_as
ghosts-load_cell_as a = record { cell = a.cell; code = 0; origin = Root }
