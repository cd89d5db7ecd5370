use Rattle.tensor_words.proofs.Strings.{arrows_lead_back}
use Rattle.tensor_words.proofs.laws.arrows_lead_back.Goals as goal

pub returns : goal.returns
returns c = arrows_lead_back
