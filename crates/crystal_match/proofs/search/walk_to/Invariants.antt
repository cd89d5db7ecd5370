use Rattle.std.proofs.Common.{◌≡◌, ◌≤◌, List, [], ◌∷◌, ◌++◌, reverse}
use Rattle.crystal_cartan.specs.declared.types.Arrow.{Arrow}
use Rattle.crystal_match.specs.Search.{AreWalks, walk_at}
use Rattle.crystal_match.proofs.search.walk_to.Given as goal

abbrev pub invariant-steps : goal.invariant-steps
invariant-steps l = record {
  within : l.at ≤ l.place;
  rest :
      (walks : List (List Arrow)) → AreWalks l.origins walks →
      walk_at walks l.at ++ reverse l.list.items ≡ walk_at walks l.place ++ l.fn.arrow ∷ [];
}

abbrev pub decreases-steps : goal.decreases-steps
decreases-steps l = l.at
