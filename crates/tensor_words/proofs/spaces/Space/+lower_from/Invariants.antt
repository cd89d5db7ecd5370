use Rattle.std.proofs.Common.{◌-◌, length}
use Rattle.tensor_words.proofs.spaces.Space.+lower_from.Given as goal

abbrev pub decreases-lower_from : goal.decreases-lower_from
decreases-lower_from l = length l.self.now.factors - l.place
