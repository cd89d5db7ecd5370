use Rattle.std.proofs.Common.{◌-◌, length}
use Rattle.tensor_words.proofs.spaces.Space.+raise_from.Given as goal

abbrev pub decreases-raise_from : goal.decreases-raise_from
decreases-raise_from l = length l.self.now.factors - l.place
