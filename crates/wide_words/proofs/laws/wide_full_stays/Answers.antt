use Rattle.wide_words.proofs.WideSound.{vertices_stay_many}
use Rattle.wide_words.proofs.laws.wide_full_stays.Goals as goal

pub returns : goal.returns
returns c = vertices_stay_many
