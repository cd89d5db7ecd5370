use Rattle.std.proofs.Common.{◌≡◌, take}
use Rattle.crystal_match.proofs.search.Search.pairs.Given as goal

abbrev pub invariant-found : goal.invariant-found
invariant-found l = l.list.items ≡ take l.k l.self.found
