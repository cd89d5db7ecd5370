-- What a search that has ended answers: the first telling list, and the pairs that count.
use Rattle.std.proofs.Common.{◌≡◌, sym, ap, subst, ◌∙◌, ℕ, ◌+◌, ◌<◌, ◌≤◌, ◌⊎◌, inl, inr, true, false, List, [], ◌∷◌, ◌++◌, map, length, length-append, take, get_or, Option, Some, None, Contains, arith}
use Rattle.std.specs.List.{IsDistinct}
use Rattle.std.specs.Set.{is_member}
use Rattle.std.proofs.lemmas.Bool.{cases_lt}
use Rattle.std.proofs.lemmas.List.{get_or-take, length-take-le}
use Rattle.std.proofs.lemmas.List.Elements.{Contains-get_or}
use Rattle.std.proofs.lemmas.Map.Keys.{apart_from_distinct, IsDistinct-from_apart}
use Rattle.std.proofs.lemmas.Map.Made.{length-le_from_is_member}
use Rattle.std.proofs.lemmas.Map.Views.{list_any-from_Contains, Contains-from_any}
use Rattle.crystal_cartan.specs.declared.types.Arrow.{Arrow}
use Rattle.tensor_words.specs.Operators.{op}
use Rattle.tensor_words.specs.Reach.{IsPath, walk}
use Rattle.crystal_match.specs.declared.search.PairOrigin.{PairOrigin}
use Rattle.crystal_match.specs.declared.search.Search.{Search}
use Rattle.crystal_match.specs.Relabelling.{relabelled}
use Rattle.crystal_match.specs.Listings.{pair_at, pair_eq}
use Rattle.crystal_match.specs.Telling.{PointedType, IsPointed, Tells, first_end, second_end, IsFirstTelling}
use Rattle.signature_rule.specs.ArrowOrder.{arrow_place}
use Rattle.crystal_match.specs.Matching.{IsCountedPair, PairsOutnumber}
use Rattle.crystal_match.specs.Search.{walk_at, number, step_number, IsFollowed, IsSearch, IsTelling}
use Rattle.crystal_match.proofs.PairLists.{pair_equiv, pair_exact, same_pair, pair_place}
use Rattle.crystal_match.proofs.Numbers.{place_below, numbered-push, no_longer, not_behind}
use Rattle.crystal_match.proofs.Relabels.{rank_some}
use Rattle.crystal_match.proofs.Back.{map-push}
use Rattle.crystal_match.proofs.Following.{IsOpen, follows_first, tells_open, open_late}
use Rattle.tensor_words.proofs.Walks.{path-push, walk-push}

-- more pairs than the limit were found, and each of them counts
pub many_pairs : (m : PointedType) (limit : ℕ) (found : List (ℕ × ℕ)) → IsDistinct pair_eq found → limit < length found
    → ((j : ℕ) → j < length found → IsCountedPair m (pair_at found j)) → PairsOutnumber m limit
many_pairs m limit found distinct over counted = record {
  pairs = take (limit + 1) found;
  many = many;
  distinct = IsDistinct-from_apart pair_eq (take (limit + 1) found) apart;
  sound = sound;
}
  where
    many : length (take (limit + 1) found) ≡ limit + 1
    many = length-take-le (limit + 1) found (omega (arith, over))

    apart : (i j : ℕ) (d : ℕ × ℕ) → i < j → j < length (take (limit + 1) found) → pair_eq (get_or (take (limit + 1) found) i d) (get_or (take (limit + 1) found) j d) ≡ false
    apart i j d low high =
        let first : get_or (take (limit + 1) found) i d ≡ get_or found i d = get_or-take (limit + 1) found i d (omega (arith, many, low, high)) in
        let second : get_or (take (limit + 1) found) j d ≡ get_or found j d = get_or-take (limit + 1) found j d (omega (arith, many, high)) in
        rw (first, second) (apart_from_distinct pair_eq found i j d distinct low (omega (arith, many, high, over)))

    sound : (p : ℕ × ℕ) → Contains (take (limit + 1) found) p → IsCountedPair m p
    sound p h =
        let place = pair_place (take (limit + 1) found) p h in
        let same : pair_at (take (limit + 1) found) place.0 ≡ pair_at found place.0 = get_or-take (limit + 1) found place.0 (0, 0) (omega (arith, many, place.1)) in
        subst (λ (q : ℕ × ℕ). IsCountedPair m q) (sym same ∙ place.2) (counted place.0 (omega (arith, many, place.1, over)))

-- each pair that counts is among the first ones that were found, up to the limit
pub few_pairs : (m : PointedType) (limit end : ℕ) (found : List (ℕ × ℕ)) → end ≤ limit → end ≤ length found
    → ((p : ℕ × ℕ) → IsCountedPair m p → (j : ℕ) × (j < end) × (pair_at found j ≡ p)) → PairsOutnumber m limit → ⊥
few_pairs m limit end found few within among o = omega (arith, o.many, few, counted, size)
  where
    size : length (take end found) ≡ end
    size = length-take-le end found within

    there : (p : ℕ × ℕ) → Contains o.pairs p → Contains (take end found) p
    there p h =
        let place = among p (o.sound p h) in
        let same : pair_at (take end found) place.0 ≡ pair_at found place.0 = get_or-take end found place.0 (0, 0) place.1 in
        subst (λ (q : ℕ × ℕ). Contains (take end found) q) (same ∙ place.2) (Contains-get_or (take end found) place.0 (0, 0) (omega (arith, size, place.1)))

    member : (p : ℕ × ℕ) → is_member pair_eq o.pairs p ≡ true → is_member pair_eq (take end found) p ≡ true
    member p h = list_any-from_Contains pair_equiv p (take end found) (there p (Contains-from_any pair_exact p o.pairs h))

    counted : length o.pairs ≤ length (take end found)
    counted = length-le_from_is_member pair_equiv o.pairs (take end found) o.distinct member

module _ (m : PointedType) (is : IsPointed m) (n at end : ℕ) (found : List (ℕ × ℕ)) (origins : List PairOrigin) (s : IsSearch m n at end found origins) where
  some : 1 ≤ m.space.cartan.rank
  some = rank_some m is

  first_there : 0 < length found
  first_there = omega (arith, s.count)

  -- a kept list and then an arrow
  pushed_number : (j : ℕ) (a : Arrow) → number m (walk_at s.walks j ++ a ∷ []) ≡ step_number m s.walks j (arrow_place m.space.cartan.rank a)
  pushed_number j a = numbered-push m.space.cartan.rank 1 (walk_at s.walks j) a

  pushed_length : (j : ℕ) (a : Arrow) → length (walk_at s.walks j ++ a ∷ []) ≡ length (walk_at s.walks j) + 1
  pushed_length j a = length-append (walk_at s.walks j) (a ∷ [])

  -- the walk of a list that counts leads to a pair that was found, or it is as late as an arrow that is not followed
  counted_place : (p : ℕ × ℕ) (c : IsCountedPair m p) → ((j : ℕ) × (j < length found) × (pair_at found j ≡ p) × (number m (walk_at s.walks j) ≤ number m c.path)) ⊎ IsOpen m n at end found origins s (number m c.path)
  counted_place p c = elim (follows_first m n at end found origins s some c.path c.counts.arrows first_there) [
    | inl known ↦ inl (by (first_end m c.path) (second_end m c.path) c.first c.second known)
    | inr left ↦ inr left
  ]
    where
      by : (first second : Option ℕ) → first ≡ Some p.0 → second ≡ Some p.1 → IsFollowed m found s.walks (number m c.path) first second
          → (j : ℕ) × (j < length found) × (pair_at found j ≡ p) × (number m (walk_at s.walks j) ≤ number m c.path)
      by first second is_first is_second (inl none) = let clash : None ≡ Some p.0 = sym none.0 ∙ is_first in cc
      by first second is_first is_second (inr f) =
          let left : (pair_at found f.place).0 ≡ p.0 = cc in
          let right : (pair_at found f.place).1 ≡ p.1 = cc in
          (f.place, f.within, same_pair (pair_at found f.place) p left right, f.early)

-- no list tells the marks apart before the search has come to its end, so each pair that was found counts
pub too_many : (m : PointedType) → IsPointed m → (limit at end : ℕ) (found : List (ℕ × ℕ)) (origins : List PairOrigin) → IsSearch m 0 at end found origins
    → at ≡ end → at < length found → limit < length found → IsDistinct pair_eq found → PairsOutnumber m limit
too_many m is limit at end found origins s here within over distinct = many_pairs m limit found distinct over counted
  where
    short : (j : ℕ) → j < length found → length (walk_at s.walks j) ≤ s.level
    short j low = elim (cases_lt j end) [
      | inl old ↦ omega (arith, s.shorter j old)
      | inr next ↦ omega (arith, s.longer j next low)
    ]

    long : (first : List Arrow) → IsFirstTelling m first → s.level + 1 ≤ length first
    long first telling =
        let left = tells_open m 0 at end found origins s (rank_some m is) first (omega (arith, s.count)) telling.tells in
        let behind : end ≤ left.place = elim left.later [ inl after ↦ omega (arith, after, here) | inr own ↦ omega (arith, own.0, here) ] in
        let up = no_longer m.space (walk_at s.walks left.place ++ left.arrow ∷ []) first (rank_some m is) telling.tells.arrows
        (omega (arith, pushed_number m is 0 at end found origins s left.place left.arrow, left.early)) in
        omega (arith, up, pushed_length m is 0 at end found origins s left.place left.arrow, s.longer left.place behind left.within)

    counted : (j : ℕ) → j < length found → IsCountedPair m (pair_at found j)
    counted j low =
        let leads = s.leads j low in
        record {
          path = walk_at s.walks j;
          counts = record { arrows = leads.arrows; shorter = λ first telling. omega (arith, short j low, long first telling) };
          first = leads.first;
          second = leads.second;
        }

module _ (m : PointedType) (is : IsPointed m) (a : Arrow) (s : Search) (t : IsTelling m a s) where
  -- the list that is kept for the pair at `at`, and then the arrow
  abbrev telling_walk : List Arrow
  telling_walk = walk_at t.search.walks s.at ++ a ∷ []

  there : s.at < length s.found
  there = omega (arith, t.at, t.search.within)

  telling_late : (k : ℕ) → IsOpen m (arrow_place m.space.cartan.rank a) s.at s.end s.found s.origins.items t.search k → number m telling_walk ≤ k
  telling_late k left =
      let late = open_late m (arrow_place m.space.cartan.rank a) s.at s.end s.found s.origins.items t.search k (place_below m.space a t.arrow) left in
      omega (arith, late, pushed_number m is (arrow_place m.space.cartan.rank a) s.at s.end s.found s.origins.items t.search s.at a)

  telling_arrows : IsPath m.space telling_walk
  telling_arrows = path-push m.space (walk_at t.search.walks s.at) a (t.search.leads s.at there).arrows t.arrow

  telling_tells : Tells m telling_walk
  telling_tells =
      let before = t.search.leads s.at there in
      let first : first_end m telling_walk ≡ op m.space a (pair_at s.found s.at).0 = walk-push m.space (walk_at t.search.walks s.at) a m.first (pair_at s.found s.at).0 before.first in
      let second : second_end m telling_walk ≡ op m.space (relabelled m.relabel a) (pair_at s.found s.at).1 =
      ap (λ (p : List Arrow). walk m.space p m.second) (map-push m (walk_at t.search.walks s.at) a)
      ∙ walk-push m.space (map (relabelled m.relabel) (walk_at t.search.walks s.at)) (relabelled m.relabel a) m.second (pair_at s.found s.at).1 before.second in
      record { arrows = telling_arrows; apart = rw (first, second) t.apart }

  telling_before : (other : List Arrow) → Tells m other → number m telling_walk ≤ number m other
  telling_before other tells =
      telling_late (number m other) (tells_open m (arrow_place m.space.cartan.rank a) s.at s.end s.found s.origins.items t.search (rank_some m is) other (omega (arith, there)) tells)

  -- it is the first list that tells the marks apart
  pub telling_first : IsFirstTelling m telling_walk
  telling_first = record {
    tells = telling_tells;
    shortest = λ other tells. no_longer m.space telling_walk other (rank_some m is) tells.arrows (telling_before other tells);
    least = λ other tells same before. not_behind m.space telling_walk other tells.arrows (telling_before other tells) same before;
  }

  -- and the pairs that count were found before its level
  pub telling_few : (limit : ℕ) → s.end ≤ limit → PairsOutnumber m limit → ⊥
  telling_few limit few = few_pairs m limit s.end s.found few t.search.within among
    where
      among : (p : ℕ × ℕ) → IsCountedPair m p → (j : ℕ) × (j < s.end) × (pair_at s.found j ≡ p)
      among p c = elim (counted_place m is (arrow_place m.space.cartan.rank a) s.at s.end s.found s.origins.items t.search p c) [
        | inl h ↦
            let up = no_longer m.space (walk_at t.search.walks h.0) c.path (rank_some m is) c.counts.arrows h.3 in
            let short = c.counts.shorter telling_walk telling_first in
            let size = pushed_length m is (arrow_place m.space.cartan.rank a) s.at s.end s.found s.origins.items t.search s.at a in
            let own = t.search.same s.at (omega arith) t.at in
            elim (cases_lt h.0 s.end) [
              | inl below ↦ (h.0, below, h.2)
              | inr above ↦ absurd (omega (arith, t.search.longer h.0 above h.1, up, short, size, own))
            ]
        | inr left ↦
            let up = no_longer m.space telling_walk c.path (rank_some m is) c.counts.arrows (telling_late (number m c.path) left) in
            absurd (omega (arith, up, c.counts.shorter telling_walk telling_first))
      ]

-- where all arrows of all pairs are followed
module _ (m : PointedType) (is : IsPointed m) (at end : ℕ) (found : List (ℕ × ℕ)) (origins : List PairOrigin) (s : IsSearch m 0 at end found origins) (all : at ≡ length found) where
  pub none_open : (k : ℕ) → IsOpen m 0 at end found origins s k → ⊥
  none_open k left = elim left.later [
    | inl after ↦ omega (arith, after, all, left.within)
    | inr own ↦ omega (arith, own.0, all, left.within)
  ]

  pub closed_alike : (path : List Arrow) → Tells m path → ⊥
  closed_alike path tells = none_open (number m path) (tells_open m 0 at end found origins s (rank_some m is) path (omega (arith, s.count)) tells)

  pub closed_few : (limit : ℕ) → length found ≤ limit → PairsOutnumber m limit → ⊥
  closed_few limit few = few_pairs m limit (length found) found few (omega arith) among
    where
      among : (p : ℕ × ℕ) → IsCountedPair m p → (j : ℕ) × (j < length found) × (pair_at found j ≡ p)
      among p c = elim (counted_place m is 0 at end found origins s p c) [
        | inl h ↦ (h.0, h.1, h.2)
        | inr left ↦ absurd (none_open (number m c.path) left)
      ]
