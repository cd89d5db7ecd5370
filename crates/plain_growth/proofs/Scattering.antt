-- The ranks of codes, written at the places at which the codes were found.
use Rattle.std.proofs.Common.{◌≡◌, ◌∙◌, sym, ap, ℕ, ◌+◌, ◌<◌, ◌≢◌, inl, inr, nat_eq, List, length, get_or, slice_set, Some, All, Contains, arith}
use Rattle.std.specs.List.{IsDistinct}
use Rattle.std.specs.List.Sorted.{IsPermutation, IsNonDecreasingBy}
use Rattle.std.proofs.lemmas.Bool.{cases_lt, eq-eqb}
use Rattle.std.proofs.lemmas.List.{get_or_default, get_or-map, length-map, get_or-set_other, get_or-set_same}
use Rattle.std.proofs.lemmas.List.Elements.{Contains-get_or}
use Rattle.std.proofs.lemmas.List.Kept.{AllPairs-from_increasing}
use Rattle.std.proofs.lemmas.List.Sorted.{IsPermutation-map}
use Rattle.std.proofs.lemmas.Map.Keys.{apart_from_distinct}
use Rattle.plain_growth.specs.declared.sorting.PlacedCode.{PlacedCode}
use Rattle.canonical_graph.specs.Graphs.{rank_in}
use Rattle.plain_growth.specs.Growth.{IsPlacedCode, IsSortedFrom, AreRanks, codes_in}
use Rattle.plain_growth.proofs.Growing.{sorted_from}
use Rattle.canonical_graph.proofs.Ranks.{rank_of_place}

abbrev pub no_code : PlacedCode
no_code = record { code = 0; place = 0 }

-- a code stands at one place of those found
same_place : (found : List ℕ) (i j : ℕ) → IsDistinct nat_eq found → i < length found → j < length found → get_or found i 0 ≡ get_or found j 0 → i ≡ j
same_place found i j distinct low high same = elim (cases_lt i j) [
  | inl before ↦
      let apart = apart_from_distinct nat_eq found i j 0 distinct before high in
      let equal = eq-eqb (get_or found i 0) (get_or found j 0) same in
      cc
  | inr over ↦ elim (cases_lt j i) [
    | inl after ↦
        let apart = apart_from_distinct nat_eq found j i 0 distinct after low in
        let equal = eq-eqb (get_or found j 0) (get_or found i 0) (sym same) in
        cc
    | inr under ↦ omega arith
  ]
]

code_in : (list : List PlacedCode) (n : ℕ) → n < length list → get_or (codes_in list) n 0 ≡ (get_or list n no_code).code
code_in list n lt = get_or-map (λ x. x.code) list n no_code 0 lt

pub placed_within : (found : List ℕ) (list : List PlacedCode) (n : ℕ) → All (IsPlacedCode found) list → n < length list → (get_or list n no_code).place < length found
placed_within found list n placed lt = (placed n no_code lt).within

pub placed_code : (found : List ℕ) (list : List PlacedCode) (n : ℕ) → All (IsPlacedCode found) list → n < length list
    → get_or found (get_or list n no_code).place 0 ≡ get_or (codes_in list) n 0
placed_code found list n placed lt = (placed n no_code lt).here ∙ sym (code_in list n lt)

-- one more rank
pub more_ranked : (found ranks : List ℕ) (list : List PlacedCode) (n : ℕ) → n < length list → IsDistinct nat_eq found → length ranks ≡ length found
    → IsSortedFrom found (codes_in list) → All (IsPlacedCode found) list
    → ((k r : ℕ) → k < length found → r < n → get_or (codes_in list) r 0 ≡ get_or found k 0 → get_or ranks k 0 ≡ r)
    → (k r : ℕ) → k < length found → r < n + 1 → get_or (codes_in list) r 0 ≡ get_or found k 0 → get_or (slice_set ranks (get_or list n no_code).place n) k 0 ≡ r
more_ranked found ranks list n lt distinct size sorted placed ranked k r within below here =
    elim (cases_lt r n) [
      | inl before ↦
          let up : get_or (codes_in list) r 0 < get_or (codes_in list) n 0 = AllPairs-from_increasing (codes_in list) sorted.ascending r n 0 before (omega (arith, lt, length-map list (λ x. x.code))) in
          let apart : k ≢ x.place = λ same. let there : get_or found k 0 ≡ get_or found x.place 0 = ap (λ j. get_or found j 0) same in omega (arith, up, own, there, here, at.here) in
          get_or-set_other ranks x.place k n 0 apart ∙ ranked k r within before here
      | inr after ↦
          let last : r ≡ n = omega arith in
          let code : get_or (codes_in list) n 0 ≡ get_or found k 0 = rw last at here in
          let same : k ≡ x.place = same_place found k x.place distinct within at.within (sym code ∙ own ∙ sym at.here) in
          rw (same, last) (get_or-set_same ranks x.place n 0 (omega (arith, size, at.within)))
    ]
  where
    x : PlacedCode
    x = get_or list n no_code

    at : IsPlacedCode found (get_or list n no_code)
    at = placed n no_code lt

    own : get_or (codes_in list) n 0 ≡ (get_or list n no_code).code
    own = code_in list n lt

-- all ranks
pub all_ranked : (found ranks codes : List ℕ) → length ranks ≡ length found → IsSortedFrom found codes
    → ((k r : ℕ) → k < length found → r < length codes → get_or codes r 0 ≡ get_or found k 0 → get_or ranks k 0 ≡ r) → AreRanks codes found ranks
all_ranked found ranks codes size sorted ranked = record { size = size; rank = rank }
  where
    by : (k : ℕ) → k < length found → Contains codes (get_or found k 0) → rank_in codes (get_or found k 0) ≡ Some (get_or ranks k 0)
    by k lt (r, below, is) =
        let here : get_or codes r 0 ≡ get_or found k 0 = get_or_default codes r 0 (get_or found k 0) below ∙ is in
        rank_of_place codes r (get_or found k 0) sorted.ascending below here ∙ ap Some (sym (ranked k r lt below here))

    rank : (k : ℕ) → k < length found → rank_in codes (get_or found k 0) ≡ Some (get_or ranks k 0)
    rank k lt = by k lt (sorted.all (get_or found k 0) (Contains-get_or found k 0 lt))

-- the codes that were found, sorted
pub sorted_codes : (found : List ℕ) (list moved : List PlacedCode) → codes_in list ≡ found → IsDistinct nat_eq (codes_in list) → IsPermutation list moved
    → IsNonDecreasingBy (λ x. x.code) moved → IsSortedFrom found (codes_in moved)
sorted_codes found list moved codes distinct order up =
    sorted_from found (codes_in list) (codes_in moved) codes distinct (IsPermutation-map (λ x. x.code) list moved order)
    (λ i j d le lt.
    let size : length (codes_in moved) ≡ length moved = length-map moved (λ x. x.code) in
    rw (get_or-map (λ x. x.code) moved i no_code d (omega arith), get_or-map (λ x. x.code) moved j no_code d (omega arith)) (up i j no_code le (omega arith)))
