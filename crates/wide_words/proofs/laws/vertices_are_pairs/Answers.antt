use Rattle.wide_words.proofs.WideSound.{vertices_are_pairs}
use Rattle.wide_words.proofs.laws.vertices_are_pairs.Goals as goal

pub returns : goal.returns
returns c = vertices_are_pairs
