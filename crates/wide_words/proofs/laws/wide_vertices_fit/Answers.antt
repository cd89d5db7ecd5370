use Rattle.wide_words.proofs.WideSound.{wide_vertices_fit}
use Rattle.wide_words.proofs.laws.wide_vertices_fit.Goals as goal

pub returns : goal.returns
returns c = wide_vertices_fit
