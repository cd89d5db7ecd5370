use Rattle.std.proofs.Common.{subst}
use Rattle.tableau_reading.specs.Fillings.{IsFilling}
use Rattle.tableau_reading.proofs.FilledRows.{listed_is_filling}
use Rattle.tableau_reading.proofs.fillings.Filling.shape.Goals as goal

pub returns-clause-filling : goal.returns-clause-filling
returns-clause-filling c = subst IsFilling c.self.view_is (listed_is_filling c.self.inside.shape c.self.inside.letters c.boxes-boxes.ensures.shape c.self.invariant)
