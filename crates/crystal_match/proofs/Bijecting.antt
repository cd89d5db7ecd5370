-- Where no list of arrows tells the marks apart: the pairs that were found are a bijection that keeps all arrows.
use Rattle.std.proofs.Common.{◌≡◌, refl, sym, ap, subst, ◌∙◌, ℕ, zero, suc, ◌<◌, ◌≤◌, ◌↔◌, ◌≢◌, inl, inr, true, false, true≢false, nat_eq, List, [], ◌∷◌, ◌++◌, map, length, get_or, Option, Some, None, Contains, arith}
use Rattle.std.specs.List.{IsDistinct}
use Rattle.std.specs.List.Sorted.{IsPermutation, IsNonDecreasing, IsNonDecreasingBy}
use Rattle.std.proofs.lemmas.Bool.{cases_eq, ne_eqb}
use Rattle.std.proofs.lemmas.Bool.Decides.{nat_tests}
use Rattle.std.proofs.lemmas.List.{get_or-map, length-map}
use Rattle.std.proofs.lemmas.List.Elements.{Contains-get_or}
use Rattle.std.proofs.lemmas.List.Sorted.{Contains-permutation, IsPermutation-sym, IsPermutation-map}
use Rattle.std.proofs.lemmas.Map.Keys.{apart_from_distinct, IsDistinct-from_apart, IsStrictlyIncreasing-from_distinct, IsDistinct-IsPermutation}
use Rattle.crystal_cartan.specs.declared.types.Arrow.{Arrow}
use Rattle.tensor_words.specs.Spaces.{SpaceType, IsSpace, size}
use Rattle.tensor_words.specs.Operators.{IsArrow, op}
use Rattle.tensor_words.specs.Reach.{IsPath, walk, IsReachedFrom}
use Rattle.tensor_words.proofs.Walks.{walk-nil, walk-cons, walk-none}
use Rattle.crystal_match.specs.declared.search.PairOrigin.{PairOrigin}
use Rattle.crystal_match.specs.declared.search.Search.{Search}
use Rattle.crystal_match.specs.declared.search.SearchEnd.TheVariants.{Closed, Telling, TooMany}
use Rattle.crystal_match.specs.Relabelling.{relabelled}
use Rattle.crystal_match.specs.Listings.{pair_at, pair_eq, firsts, seconds}
use Rattle.crystal_match.specs.Telling.{PointedType, IsPointed, IsFirstTelling}
use Rattle.crystal_match.specs.Matching.{AreSame, PairsOutnumber}
use Rattle.crystal_match.specs.Search.{walk_at, AreWalks, number_from, number, IsFollowed, IsSearch, IsSearchEnded}
use Rattle.crystal_match.proofs.PairLists.{pair_equiv, same_pair, pair_place, in_map, from_map}
use Rattle.crystal_match.proofs.Relabels.{rank_some, relabelled_path, path_twice}
use Rattle.crystal_match.proofs.Back.{back, back_path, walk_below, walk_back, back_relabelled}
use Rattle.crystal_match.proofs.Following.{follows_path}
use Rattle.crystal_match.proofs.Answering.{none_open, closed_alike, closed_few, telling_first, telling_few, too_many}

-- two walks by one list to one word begin at one word
walks_meet : (s : SpaceType) (path : List Arrow) (c d e : ℕ) → IsSpace s → IsPath s path → c < size s → d < size s → walk s path c ≡ Some e
    → walk s path d ≡ Some e → c ≡ d
walks_meet s path c d e space arrows low lower first second =
    let one = walk_back s path c e space arrows low first in
    let two = walk_back s path d e space arrows lower second in
    let same : Some c ≡ Some d = sym one ∙ two in
    cc

module _ (m : PointedType) (is : IsPointed m) (at end : ℕ) (found : List (ℕ × ℕ)) (origins : List PairOrigin) (s : IsSearch m 0 at end found origins) (all : at ≡ length found) where
  some : 1 ≤ m.space.cartan.rank
  some = rank_some m is

  first_there : 0 < length found
  first_there = omega (arith, s.count)

  first_below : (j : ℕ) → j < length found → (pair_at found j).0 < size m.space
  first_below j low = walk_below m.space (walk_at s.walks j) m.first (pair_at found j).0 is.space (s.leads j low).arrows is.first (s.leads j low).first

  second_below : (j : ℕ) → j < length found → (pair_at found j).1 < size m.space
  second_below j low =
      walk_below m.space (map (relabelled m.relabel) (walk_at s.walks j)) m.second (pair_at found j).1 is.space
      (relabelled_path m is (walk_at s.walks j) (s.leads j low).arrows) is.second (s.leads j low).second

  -- from a pair that was found each list leads to none, or to a pair that was found
  leads_on : (path : List Arrow) (j : ℕ) → IsPath m.space path → j < length found
      → IsFollowed m found s.walks (number_from m.space.cartan.rank (number m (walk_at s.walks j)) path) (walk m.space path (pair_at found j).0)
      (walk m.space (map (relabelled m.relabel) path) (pair_at found j).1)
  leads_on path j arrows low = elim (follows_path m 0 at end found origins s some path j (number m (walk_at s.walks j)) arrows low (omega arith)) [
    | inl known ↦ known
    | inr left ↦ absurd (none_open m is at end found origins s all (number_from m.space.cartan.rank (number m (walk_at s.walks j)) path) left)
  ]

  -- one of the two ends is known
  by_first : (k : ℕ) (first second : Option ℕ) (x : ℕ) → IsFollowed m found s.walks k first second → first ≡ Some x
      → (j : ℕ) × (j < length found) × ((pair_at found j).0 ≡ x) × (second ≡ Some (pair_at found j).1)
  by_first k first second x (inl none) at_x = let clash : None ≡ Some x = sym none.0 ∙ at_x in cc
  by_first k first second x (inr f) at_x = let same : Some (pair_at found f.place).0 ≡ Some x = sym f.is_first ∙ at_x in (f.place, f.within, cc, f.is_second)

  by_second : (k : ℕ) (first second : Option ℕ) (y : ℕ) → IsFollowed m found s.walks k first second → second ≡ Some y
      → (j : ℕ) × (j < length found) × ((pair_at found j).1 ≡ y) × (first ≡ Some (pair_at found j).0)
  by_second k first second y (inl none) at_y = let clash : None ≡ Some y = sym none.1 ∙ at_y in cc
  by_second k first second y (inr f) at_y = let same : Some (pair_at found f.place).1 ≡ Some y = sym f.is_second ∙ at_y in (f.place, f.within, cc, f.is_first)

  -- of a pair that was found both are the marks or none
  second_mark : (j : ℕ) → j < length found → (pair_at found j).0 ≡ m.first → (pair_at found j).1 ≡ m.second
  second_mark j low same = elim (cases_eq (pair_at found j).1 m.second) [
    | inl is ↦ is
    | inr other ↦ absurd (s.never_apart j low (inl (same, other)))
  ]

  first_mark : (j : ℕ) → j < length found → (pair_at found j).1 ≡ m.second → (pair_at found j).0 ≡ m.first
  first_mark j low same = elim (cases_eq (pair_at found j).0 m.first) [
    | inl is ↦ is
    | inr other ↦ absurd (s.never_apart j low (inr (other, same)))
  ]

  -- the list that leads back from a pair that was found to the marks
  home_path : (j : ℕ) → j < length found → IsPath m.space (back (walk_at s.walks j))
  home_path j low = back_path m.space (walk_at s.walks j) (s.leads j low).arrows

  first_home : (j : ℕ) → j < length found → walk m.space (back (walk_at s.walks j)) (pair_at found j).0 ≡ Some m.first
  first_home j low = walk_back m.space (walk_at s.walks j) m.first (pair_at found j).0 is.space (s.leads j low).arrows is.first (s.leads j low).first

  second_home : (j : ℕ) → j < length found → walk m.space (map (relabelled m.relabel) (back (walk_at s.walks j))) (pair_at found j).1 ≡ Some m.second
  second_home j low =
      ap (λ (p : List Arrow). walk m.space p (pair_at found j).1) (back_relabelled m (walk_at s.walks j))
      ∙ walk_back m.space (map (relabelled m.relabel) (walk_at s.walks j)) m.second (pair_at found j).1 is.space
      (relabelled_path m is (walk_at s.walks j) (s.leads j low).arrows) is.second (s.leads j low).second

  -- each first word has one partner, and each second word is the partner of one
  one_second : (i j : ℕ) → i < length found → j < length found → (pair_at found i).0 ≡ (pair_at found j).0 → (pair_at found i).1 ≡ (pair_at found j).1
  one_second i j low lower same =
      let arrows = home_path j lower in
      let h = by_first (number_from m.space.cartan.rank (number m (walk_at s.walks i)) (back (walk_at s.walks j))) (walk m.space (back (walk_at s.walks j)) (pair_at found i).0)
      (walk m.space (map (relabelled m.relabel) (back (walk_at s.walks j))) (pair_at found i).1) m.first (leads_on (back (walk_at s.walks j)) i arrows low)
      (ap (λ x. walk m.space (back (walk_at s.walks j)) x) same ∙ first_home j lower) in
      let mark : (pair_at found h.0).1 ≡ m.second = second_mark h.0 h.1 h.2 in
      walks_meet m.space (map (relabelled m.relabel) (back (walk_at s.walks j))) (pair_at found i).1 (pair_at found j).1 m.second is.space
      (relabelled_path m is (back (walk_at s.walks j)) arrows) (second_below i low) (second_below j lower) (h.3 ∙ ap Some mark) (second_home j lower)

  one_first : (i j : ℕ) → i < length found → j < length found → (pair_at found i).1 ≡ (pair_at found j).1 → (pair_at found i).0 ≡ (pair_at found j).0
  one_first i j low lower same =
      let arrows = home_path j lower in
      let h = by_second (number_from m.space.cartan.rank (number m (walk_at s.walks i)) (back (walk_at s.walks j))) (walk m.space (back (walk_at s.walks j)) (pair_at found i).0)
      (walk m.space (map (relabelled m.relabel) (back (walk_at s.walks j))) (pair_at found i).1) m.second (leads_on (back (walk_at s.walks j)) i arrows low)
      (ap (λ y. walk m.space (map (relabelled m.relabel) (back (walk_at s.walks j))) y) same ∙ second_home j lower) in
      let mark : (pair_at found h.0).0 ≡ m.first = first_mark h.0 h.1 h.2 in
      walks_meet m.space (back (walk_at s.walks j)) (pair_at found i).0 (pair_at found j).0 m.first is.space
      arrows (first_below i low) (first_below j lower) (h.3 ∙ ap Some mark) (first_home j lower)

  -- two pairs with one word in common are one
  one_pair : (i j : ℕ) → i < length found → j < length found → (pair_at found i).0 ≡ (pair_at found j).0 → pair_at found i ≡ pair_at found j
  one_pair i j low lower same = same_pair (pair_at found i) (pair_at found j) same (one_second i j low lower same)

  -- reached words have pairs
  first_reached : (c : ℕ) → IsReachedFrom m.space (m.first ∷ []) c → (j : ℕ) × (j < length found) × ((pair_at found j).0 ≡ c)
  first_reached c r =
      let root : m.first ≡ r.root = one_root m.first r.root r.rooted in
      let start : (pair_at found 0).0 ≡ m.first = ap (λ (p : ℕ × ℕ). p.0) s.marks in
      let h = by_first (number_from m.space.cartan.rank (number m (walk_at s.walks 0)) r.path) (walk m.space r.path (pair_at found 0).0)
      (walk m.space (map (relabelled m.relabel) r.path) (pair_at found 0).1) c (leads_on r.path 0 r.arrows first_there)
      (ap (λ x. walk m.space r.path x) (start ∙ root) ∙ r.leads) in
      (h.0, h.1, h.2)
    where
      one_root : (a b : ℕ) → Contains (a ∷ []) b → a ≡ b
      one_root a b (zero, low, is) = is
      one_root a b (suc k, low, is) = absurd (omega (arith, low))

  second_reached : (c : ℕ) → IsReachedFrom m.space (m.second ∷ []) c → (j : ℕ) × (j < length found) × ((pair_at found j).1 ≡ c)
  second_reached c r =
      let root : m.second ≡ r.root = one_root m.second r.root r.rooted in
      let start : (pair_at found 0).1 ≡ m.second = ap (λ (p : ℕ × ℕ). p.1) s.marks in
      let arrows = relabelled_path m is r.path r.arrows in
      let h = by_second (number_from m.space.cartan.rank (number m (walk_at s.walks 0)) (map (relabelled m.relabel) r.path)) (walk m.space (map (relabelled m.relabel) r.path) (pair_at found 0).0)
      (walk m.space (map (relabelled m.relabel) (map (relabelled m.relabel) r.path)) (pair_at found 0).1) c (leads_on (map (relabelled m.relabel) r.path) 0 arrows first_there)
      (ap (λ (p : List Arrow). walk m.space p (pair_at found 0).1) (path_twice m is r.path r.arrows) ∙ ap (λ y. walk m.space r.path y) (start ∙ root) ∙ r.leads) in
      (h.0, h.1, h.2)
    where
      one_root : (a b : ℕ) → Contains (a ∷ []) b → a ≡ b
      one_root a b (zero, low, is) = is
      one_root a b (suc k, low, is) = absurd (omega (arith, low))

  -- and pairs have reached words
  first_from : (j : ℕ) → j < length found → IsReachedFrom m.space (m.first ∷ []) (pair_at found j).0
  first_from j low = record {
    root = m.first;
    rooted = (0, omega arith, refl);
    path = walk_at s.walks j;
    arrows = (s.leads j low).arrows;
    leads = (s.leads j low).first;
  }

  second_from : (j : ℕ) → j < length found → IsReachedFrom m.space (m.second ∷ []) (pair_at found j).1
  second_from j low = record {
    root = m.second;
    rooted = (0, omega arith, refl);
    path = map (relabelled m.relabel) (walk_at s.walks j);
    arrows = relabelled_path m is (walk_at s.walks j) (s.leads j low).arrows;
    leads = (s.leads j low).second;
  }

  -- one arrow
  arrow_on : (i : ℕ) (a : Arrow) → i < length found → IsArrow m.space a
      → IsFollowed m found s.walks (number_from m.space.cartan.rank (number m (walk_at s.walks i)) (a ∷ [])) (op m.space a (pair_at found i).0) (op m.space (relabelled m.relabel a) (pair_at found i).1)
  arrow_on i a low fits =
      let here = leads_on (a ∷ []) i (fits, tt) low in
      rw (one_step m.space a (pair_at found i).0, one_step m.space (relabelled m.relabel a) (pair_at found i).1) at here
    where
      one_step : (sp : SpaceType) (b : Arrow) (c : ℕ) → walk sp (b ∷ []) c ≡ op sp b c
      one_step sp b c = by (op sp b c) refl
        where
          by : (o : Option ℕ) → op sp b c ≡ o → walk sp (b ∷ []) c ≡ op sp b c
          by None is = walk-none sp b [] c is ∙ sym is
          by (Some x) is = walk-cons sp b [] c x is ∙ walk-nil sp x ∙ sym is

  arrow_there : (i j : ℕ) (a : Arrow) → i < length found → j < length found → IsArrow m.space a → op m.space a (pair_at found i).0 ≡ Some (pair_at found j).0
      → op m.space (relabelled m.relabel a) (pair_at found i).1 ≡ Some (pair_at found j).1
  arrow_there i j a low lower fits leads =
      let h = by_first (number_from m.space.cartan.rank (number m (walk_at s.walks i)) (a ∷ [])) (op m.space a (pair_at found i).0) (op m.space (relabelled m.relabel a) (pair_at found i).1)
      (pair_at found j).0 (arrow_on i a low fits) leads in
      h.3 ∙ ap Some (one_second h.0 j h.1 lower h.2)

  arrow_here : (i j : ℕ) (a : Arrow) → i < length found → j < length found → IsArrow m.space a
      → op m.space (relabelled m.relabel a) (pair_at found i).1 ≡ Some (pair_at found j).1 → op m.space a (pair_at found i).0 ≡ Some (pair_at found j).0
  arrow_here i j a low lower fits leads =
      let h = by_second (number_from m.space.cartan.rank (number m (walk_at s.walks i)) (a ∷ [])) (op m.space a (pair_at found i).0) (op m.space (relabelled m.relabel a) (pair_at found i).1)
      (pair_at found j).1 (arrow_on i a low fits) leads in
      h.3 ∙ ap Some (one_first h.0 j h.1 lower h.2)

  module _ (distinct : IsDistinct pair_eq found) (pairs : List (ℕ × ℕ)) (order : IsPermutation found pairs) (rising : IsNonDecreasingBy (λ x. x.0) pairs) where
    -- places of listed pairs among those found
    from_listed : (p : ℕ × ℕ) → Contains pairs p → (j : ℕ) × (j < length found) × (pair_at found j ≡ p)
    from_listed p h = pair_place found p (Contains-permutation pairs found p (IsPermutation-sym found pairs order) h)

    to_listed : (j : ℕ) → j < length found → Contains pairs (pair_at found j)
    to_listed j low = Contains-permutation found pairs (pair_at found j) order (Contains-get_or found j (0, 0) low)

    apart_found : (i j : ℕ) → i < j → j < length found → pair_at found i ≡ pair_at found j → ⊥
    apart_found i j less low same =
        let apart : pair_eq (pair_at found i) (pair_at found j) ≡ false = apart_from_distinct pair_eq found i j (0, 0) distinct less low in
        let itself : pair_eq (pair_at found i) (pair_at found j) ≡ true = ap (λ (p : ℕ × ℕ). pair_eq p (pair_at found j)) same ∙ pair_equiv.refl (pair_at found j) in
        true≢false (sym itself ∙ apart)

    -- the codes on one side differ, where two pairs that share one are one
    side_distinct : (f : ℕ × ℕ → ℕ) → ((i j : ℕ) → i < length found → j < length found → f (pair_at found i) ≡ f (pair_at found j) → pair_at found i ≡ pair_at found j)
        → IsDistinct nat_eq (map f found)
    side_distinct f one = IsDistinct-from_apart nat_eq (map f found) apart
      where
        apart : (i j d : ℕ) → i < j → j < length (map f found) → nat_eq (get_or (map f found) i d) (get_or (map f found) j d) ≡ false
        apart i j d less low =
            let high : j < length found = omega (arith, low, length-map found f) in
            let before : i < length found = omega (arith, less, high) in
            let ne : f (pair_at found i) ≢ f (pair_at found j) = λ same. apart_found i j less high (one i j before high same) in
            rw (get_or-map f found i (0, 0) d before, get_or-map f found j (0, 0) d high) (ne_eqb (f (pair_at found i)) (f (pair_at found j)) ne)

    sorted_distinct : (f : ℕ × ℕ → ℕ) → IsDistinct nat_eq (map f found) → IsDistinct nat_eq (map f pairs)
    sorted_distinct f h = IsDistinct-IsPermutation nat_eq flips (map f found) (map f pairs) (IsPermutation-map f found pairs order) h
      where
        flips : (x y : ℕ) → nat_eq x y ≡ nat_eq y x
        flips x y = grind (arith, nat_tests)

    firsts_distinct : IsDistinct nat_eq (firsts pairs)
    firsts_distinct = sorted_distinct (λ x. x.0) (side_distinct (λ x. x.0) one_pair)

    seconds_distinct : IsDistinct nat_eq (seconds pairs)
    seconds_distinct =
        sorted_distinct (λ x. x.1)
        (side_distinct (λ x. x.1) (λ i j low lower same. same_pair (pair_at found i) (pair_at found j) (one_first i j low lower same) same))

    firsts_rise : IsNonDecreasing (firsts pairs)
    firsts_rise i j d le low =
        let size : length (firsts pairs) ≡ length pairs = length-map pairs (λ x. x.0) in
        let high : j < length pairs = omega (arith, low, size) in
        let before : i < length pairs = omega (arith, le, high) in
        rw (get_or-map (λ x. x.0) pairs i (0, 0) d before, get_or-map (λ x. x.0) pairs j (0, 0) d high) (rising i j (0, 0) le high)

    side_all : (f : ℕ × ℕ → ℕ) (mark c : ℕ) → ((j : ℕ) → j < length found → IsReachedFrom m.space (mark ∷ []) (f (pair_at found j)))
        → (IsReachedFrom m.space (mark ∷ []) c → (j : ℕ) × (j < length found) × (f (pair_at found j) ≡ c))
        → Contains (map f pairs) c ↔ IsReachedFrom m.space (mark ∷ []) c
    side_all f mark c reached place_of = (to, from)
      where
        to : Contains (map f pairs) c → IsReachedFrom m.space (mark ∷ []) c
        to h =
            let p = from_map f pairs c h in
            let place = from_listed p.0 p.1 in
            subst (λ x. IsReachedFrom m.space (mark ∷ []) x) (ap f place.2 ∙ p.2) (reached place.0 place.1)

        from : IsReachedFrom m.space (mark ∷ []) c → Contains (map f pairs) c
        from r =
            let h = place_of r in
            subst (λ x. Contains (map f pairs) x) h.2 (in_map f pairs (pair_at found h.0) (to_listed h.0 h.1))

    first_all : (c : ℕ) → Contains (firsts pairs) c ↔ IsReachedFrom m.space (m.first ∷ []) c
    first_all c = side_all (λ x. x.0) m.first c first_from (first_reached c)

    second_all : (c : ℕ) → Contains (seconds pairs) c ↔ IsReachedFrom m.space (m.second ∷ []) c
    second_all c = side_all (λ x. x.1) m.second c second_from (second_reached c)

    arrows_kept : (a : Arrow) (x y u v : ℕ) → IsArrow m.space a → Contains pairs (x, y) → Contains pairs (u, v)
        → (op m.space a x ≡ Some u) ↔ (op m.space (relabelled m.relabel a) y ≡ Some v)
    arrows_kept a x y u v fits one two =
        let i = from_listed (x, y) one in
        let j = from_listed (u, v) two in
        let left = arrow_there i.0 j.0 a i.1 j.1 fits in
        let right = arrow_here i.0 j.0 a i.1 j.1 fits in
        (rw (i.2, j.2) at left, rw (i.2, j.2) at right)

    -- the components are the same
    pub same : AreSame m pairs
    same = record {
      matching = record {
        ascending = IsStrictlyIncreasing-from_distinct (firsts pairs) firsts_rise firsts_distinct;
        first = first_all;
        distinct = seconds_distinct;
        second = second_all;
        marks = subst (λ (p : ℕ × ℕ). Contains pairs p) s.marks (to_listed 0 first_there);
        arrows = arrows_kept;
      };
      never_apart = closed_alike m is at end found origins s all;
    }

-- what a search that has ended answers
pub closed_answer : (m both : PointedType) (limit : ℕ) (s : Search) (pairs : List (ℕ × ℕ)) → both ≡ m → IsPointed both → IsSearchEnded both limit Closed s
    → IsPermutation s.found pairs → IsNonDecreasingBy (λ x. x.0) pairs → AreSame m pairs × (PairsOutnumber m limit → ⊥)
closed_answer m both limit s pairs own is ended order rising =
    let P : PointedType → Type 0 = λ b. AreSame b pairs × (PairsOutnumber b limit → ⊥) in
    subst P own (
      same both is s.at s.end s.found s.origins.items ended.0 ended.1 ended.3 pairs order rising,
      closed_few both is s.at s.end s.found s.origins.items ended.0 ended.1 limit ended.2,
    )

pub telling_answer : (m both : PointedType) (limit : ℕ) (a : Arrow) (s : Search) (walk : List Arrow) → both ≡ m → IsPointed both → IsSearchEnded both limit (Telling a) s
    → ((walks : List (List Arrow)) → AreWalks s.origins.items walks → walk ≡ walk_at walks s.at ++ a ∷ []) → IsFirstTelling m walk × (PairsOutnumber m limit → ⊥)
telling_answer m both limit a s walk own is ended kept =
    let P : PointedType → Type 0 = λ b. IsFirstTelling b walk × (PairsOutnumber b limit → ⊥) in
    subst P own (
      subst (λ (w : List Arrow). IsFirstTelling both w) (sym (kept ended.0.search.walks ended.0.search.are_walks)) (telling_first both is a s ended.0),
      telling_few both is a s ended.0 limit ended.1,
    )

pub many_answer : (m both : PointedType) (limit : ℕ) (s : Search) → both ≡ m → IsPointed both → IsSearchEnded both limit TooMany s → PairsOutnumber m limit
many_answer m both limit s own is ended =
    subst (λ (b : PointedType). PairsOutnumber b limit) own
    (too_many both is limit s.at s.end s.found s.origins.items ended.0 ended.1 ended.2 ended.3 ended.4)
