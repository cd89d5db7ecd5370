use Rattle.std.proofs.Common.{◌-◌, length}
use Rattle.tensor_words.proofs.spaces.Space.+eps_from.Given as goal

abbrev pub decreases-eps_from : goal.decreases-eps_from
decreases-eps_from l = length l.self.now.factors - l.place
