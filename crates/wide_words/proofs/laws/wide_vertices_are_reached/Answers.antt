use Rattle.wide_words.proofs.WideSound.{wide_vertices_are_reached}
use Rattle.wide_words.proofs.laws.wide_vertices_are_reached.Goals as goal

pub returns : goal.returns
returns c = wide_vertices_are_reached
