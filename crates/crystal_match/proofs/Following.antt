-- Where a list of arrows leads from the pairs that a search has found.
use Rattle.std.proofs.Common.{◌≡◌, ap, ℕ, ◌+◌, ◌*◌, ◌<◌, ◌≤◌, ◌⊎◌, inl, inr, List, [], ◌∷◌, map, length, Option, arith}
use Rattle.std.proofs.lemmas.Bool.{cases_lt, cases_eq}
use Rattle.crystal_cartan.specs.declared.types.Arrow.{Arrow}
use Rattle.tensor_words.specs.Operators.{IsArrow}
use Rattle.tensor_words.specs.Reach.{IsPath, walk}
use Rattle.tensor_words.proofs.Walks.{walk-nil, walk-none, walk-cons}
use Rattle.crystal_match.specs.declared.search.PairOrigin.{PairOrigin}
use Rattle.crystal_match.specs.Relabelling.{relabelled}
use Rattle.crystal_match.specs.Listings.{pair_at}
use Rattle.crystal_match.specs.Telling.{PointedType, AreEndsApart, Tells, first_end, second_end}
use Rattle.signature_rule.specs.ArrowOrder.{arrow_place}
use Rattle.crystal_match.specs.Search.{walk_at, number_from, number, step_number, IsFollowed, IsTried, IsSearch}
use Rattle.crystal_match.proofs.Numbers.{digit_less, digit_most, numbered_grows}

-- whether the search has followed an arrow from a pair
followed_or_not : (n at j place : ℕ) → IsTried n at j place ⊎ ((at < j) ⊎ ((j ≡ at) × (n ≤ place)))
followed_or_not n at j place = elim (cases_lt j at) [
  | inl before ↦ inl (inl before)
  | inr over ↦ elim (cases_eq j at) [
    | inl here ↦ elim (cases_lt place n) [
      | inl done ↦ inl (inr (here, done))
      | inr left ↦ inr (inr (here, left))
    ]
    | inr other ↦ inr (inl (omega (arith, over, other)))
  ]
]

module _ (m : PointedType) (n at end : ℕ) (found : List (ℕ × ℕ)) (origins : List PairOrigin) (s : IsSearch m n at end found origins) where
  abbrev rank : ℕ
  rank = m.space.cartan.rank

  -- an arrow that the search has not followed yet, behind a kept list, has a number up to k
  pub record IsOpen (k : ℕ) : Type 0 where
    pub place : ℕ
    pub arrow : Arrow
    pub within : place < length found
    pub fits : IsArrow m.space arrow
    pub later : (at < place) ⊎ ((place ≡ at) × (n ≤ arrow_place m.space.cartan.rank arrow))
    pub early : step_number m s.walks place (arrow_place m.space.cartan.rank arrow) ≤ k

  -- a list of arrows from a pair that was found leads to none or to a pair that was found, unless the search has not
  -- come so far
  pub follows_path : 1 ≤ m.space.cartan.rank → (path : List Arrow) (j k : ℕ) → IsPath m.space path → j < length found → number m (walk_at s.walks j) ≤ k
      → IsFollowed m found s.walks (number_from m.space.cartan.rank k path) (walk m.space path (pair_at found j).0)
      (walk m.space (map (relabelled m.relabel) path) (pair_at found j).1)
      ⊎ IsOpen (number_from m.space.cartan.rank k path)
  follows_path some [] j k arrows within most = inl (inr (record {
    place = j;
    within = within;
    is_first = walk-nil m.space (pair_at found j).0;
    is_second = walk-nil m.space (pair_at found j).1;
    early = most;
  }))
  follows_path some (a ∷ path) j k arrows within most =
      elim (followed_or_not n at j (arrow_place m.space.cartan.rank a)) [
        | inl done ↦ elim (s.followed j a within arrows.0 done) [
          | inl none ↦ inl (inl (walk-none m.space a path (pair_at found j).0 none.0, walk-none m.space (relabelled m.relabel a) (map (relabelled m.relabel) path) (pair_at found j).1 none.1))
          | inr f ↦
              let first = walk-cons m.space a path (pair_at found j).0 (pair_at found f.place).0 f.is_first in
              let second = walk-cons m.space (relabelled m.relabel a) (map (relabelled m.relabel) path) (pair_at found j).1 (pair_at found f.place).1 f.is_second in
              let next = digit_most (m.space.cartan.rank + m.space.cartan.rank) (number m (walk_at s.walks j)) k (arrow_place m.space.cartan.rank a) most in
              rw (first, second) (follows_path some path f.place (k * (m.space.cartan.rank + m.space.cartan.rank) + arrow_place m.space.cartan.rank a) arrows.1 f.within (omega (arith, f.early, next)))
        ]
        | inr later ↦
            let next = digit_most (m.space.cartan.rank + m.space.cartan.rank) (number m (walk_at s.walks j)) k (arrow_place m.space.cartan.rank a) most in
            let grows = numbered_grows m.space.cartan.rank (k * (m.space.cartan.rank + m.space.cartan.rank) + arrow_place m.space.cartan.rank a) path some in
            inr (record { place = j; arrow = a; within = within; fits = arrows.0; later = later; early = omega (arith, next, grows) })
      ]

  -- what is not followed yet comes no earlier than the next arrow
  pub open_late : (k : ℕ) → n < rank + rank → IsOpen k → step_number m s.walks at n ≤ k
  open_late k below left = elim left.later [
    | inl after ↦
        let up = digit_less (rank + rank) (number m (walk_at s.walks at)) (number m (walk_at s.walks left.place)) n (arrow_place rank left.arrow) (s.rising at left.place after left.within) below in
        omega (arith, up, left.early)
    | inr here ↦
        let same : number m (walk_at s.walks left.place) * (rank + rank) ≡ number m (walk_at s.walks at) * (rank + rank) =
        ap (λ j. number m (walk_at s.walks j) * (rank + rank)) here.0 in
        omega (arith, same, here.1, left.early)
  ]

  -- what was followed does not tell the marks apart
  pub followed_alike : (k : ℕ) (first second : Option ℕ) → IsFollowed m found s.walks k first second → AreEndsApart m first second → ⊥
  followed_alike k first second (inl none) apart = let here = rw (none.0, none.1) at apart in here
  followed_alike k first second (inr f) apart = let here = rw (f.is_first, f.is_second) at apart in s.never_apart f.place f.within here

  -- from the marks
  pub follows_first : 1 ≤ m.space.cartan.rank → (path : List Arrow) → IsPath m.space path → 0 < length found
      → IsFollowed m found s.walks (number m path) (first_end m path) (second_end m path) ⊎ IsOpen (number m path)
  follows_first some path arrows within =
      let here = follows_path some path 0 1 arrows within (let start : number m (walk_at s.walks 0) ≡ 1 = ap (λ (p : List Arrow). number m p) s.are_walks.first in omega (arith, start)) in
      rw s.marks at here

  pub tells_open : 1 ≤ m.space.cartan.rank → (path : List Arrow) → 0 < length found → Tells m path → IsOpen (number m path)
  tells_open some path within tells = elim (follows_first some path tells.arrows within) [
    | inl known ↦ absurd (followed_alike (number m path) (first_end m path) (second_end m path) known tells.apart)
    | inr left ↦ left
  ]
