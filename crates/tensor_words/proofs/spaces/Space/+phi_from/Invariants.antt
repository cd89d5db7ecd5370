use Rattle.std.proofs.Common.{◌-◌, length}
use Rattle.tensor_words.proofs.spaces.Space.+phi_from.Given as goal

abbrev pub decreases-phi_from : goal.decreases-phi_from
decreases-phi_from l = length l.self.now.factors - l.place
