-- Counting the elements that a reflection matches.
use Rattle.std.proofs.Common.{◌≡◌, ◌≢◌, ◌∙◌, sym, refl, ap, subst, ℕ, ◌≤◌, ◌<◌, Bool, true, List, length, map, get_or, nat_eq, Contains, arith}
use Rattle.std.specs.List.{filter, count_by, AllPairs, IsDistinct}
use Rattle.std.specs.List.Sorted.{IsStrictlyIncreasing}
use Rattle.std.specs.Set.{is_member}
use Rattle.std.specs.Cmp.{nat_eq_equiv}
use Rattle.std.proofs.lemmas.Bool.Decides.{Decides-eqb}
use Rattle.std.proofs.lemmas.List.{get_or-map, length-map}
use Rattle.std.proofs.lemmas.List.Elements.{All-contains_itself, All-filter, filter_passes}
use Rattle.std.proofs.lemmas.List.Kept.{AllPairs-filter, AllPairs-from_increasing}
use Rattle.std.proofs.lemmas.List.Sums.{length-filter}
use Rattle.std.proofs.lemmas.Map.Made.{length-le_from_is_member, is_member-Decides, IsDistinct-from_AllPairs}
use Rattle.list_facts.proofs.Lists.{filter_keeps}

-- a map that takes the elements of one kind to elements of another, and back, shows that there are not more of them
pub not_more : (p q : ℕ → Bool) (g : ℕ → ℕ) (xs : List ℕ) → IsStrictlyIncreasing xs
    → ((c : ℕ) → Contains xs c → p c ≡ true → Contains xs (g c) × (q (g c) ≡ true) × (g (g c) ≡ c)) → count_by p xs ≤ count_by q xs
not_more p q g xs up takes =
    let few = length-le_from_is_member nat_eq_equiv images targets distinct members in
    omega (arith, few, length-filter p xs, length-filter q xs, length-map sources g)
  where
    sources : List ℕ
    sources = filter p xs

    images : List ℕ
    images = map g sources

    targets : List ℕ
    targets = filter q xs

    taken : (c : ℕ) (k d : ℕ) → k < length sources → get_or sources k d ≡ c → Contains xs (g c) × (q (g c) ≡ true) × (g (g c) ≡ c)
    taken c k d lt at = takes c (subst (Contains xs) at (All-filter p (Contains xs) xs (All-contains_itself xs) k d lt)) (ap p (sym at) ∙ filter_passes p xs k d lt)

    apart : AllPairs (λ x y. x ≢ y) images
    apart i j d less lt same =
        let low : j < length sources = omega (arith, length-map sources g) in
        let before = AllPairs-filter (λ x y. x < y) p xs (AllPairs-from_increasing xs up) i j d less low in
        let left = get_or-map g sources i d d (omega arith) in
        let right = get_or-map g sources j d d low in
        let one = (taken (get_or sources i d) i d (omega arith) refl).2 in
        let other = (taken (get_or sources j d) j d low refl).2 in
        let equal : get_or sources i d ≡ get_or sources j d = sym one ∙ ap g (sym left ∙ same ∙ right) ∙ other in
        omega (arith, equal, before)

    distinct : IsDistinct nat_eq images
    distinct = IsDistinct-from_AllPairs Decides-eqb images apart

    members : (k : ℕ) → is_member nat_eq images k ≡ true → is_member nat_eq targets k ≡ true
    members k is =
        let there = (is_member-Decides Decides-eqb images k).0 is in
        let low : there.0 < length sources = omega (arith, there.1, length-map sources g) in
        let at : g (get_or sources there.0 k) ≡ k = sym (get_or-map g sources there.0 k k low) ∙ there.2 in
        let takes_it = taken (get_or sources there.0 k) there.0 k low refl in
        (is_member-Decides Decides-eqb targets k).1 (filter_keeps q xs k (subst (Contains xs) at takes_it.0) (ap q (sym at) ∙ takes_it.1))
