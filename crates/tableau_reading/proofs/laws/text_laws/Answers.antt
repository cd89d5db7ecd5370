use Rattle.tableau_reading.proofs.WordTexts.{text_back}
use Rattle.tableau_reading.proofs.laws.text_laws.Goals as goal

pub returns : goal.returns
returns c = text_back
