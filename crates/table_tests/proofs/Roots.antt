-- The roots of a wide world.
use Rattle.std.proofs.Common.{◌≡◌, sym, subst, ℕ, ◌<◌, List, length, get_or, map, Contains, All}
use Rattle.std.proofs.lemmas.List.Elements.{All-get_or, Contains-get_or}
use Rattle.list_facts.proofs.Lists.{map_contains}
use Rattle.wide_words.specs.declared.spaces.WideCode.{WideCode}
use Rattle.wide_words.specs.WideSpaces.{IsWide, number}
use Rattle.wide_words.specs.WideHistory.{WideWorldType, IsWideWorld, flat}

pub root_at : (w : WideWorldType) (roots : List WideCode) (k : ℕ) (d : WideCode) → IsWideWorld w → roots ≡ w.roots → k < length roots
    → IsWide w.space (get_or roots k d) × Contains (flat w).roots (number w.space (get_or roots k d))
root_at w roots k d world are below = (
  All-get_or (IsWide w.space) roots k d below (subst (λ (l : List WideCode). All (IsWide w.space) l) (sym are) world.words),
  subst (λ (l : List WideCode). Contains (map (number w.space) l) (number w.space (get_or roots k d))) are (map_contains (number w.space) roots (get_or roots k d) (Contains-get_or roots k d below)),
)
