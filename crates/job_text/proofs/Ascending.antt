-- Codes in ascending order, each once.
use Rattle.std.proofs.Common.{◌≡◌, sym, refl, ◌∙◌, ℕ, zero, suc, ◌+◌, ◌<◌, ◌≤◌, nat_lt, nat_eq, ◌==◌, true, false, if◌then◌else◌, List, [], ◌∷◌, length, get_or, All, Contains, inl, inr, arith}
use Rattle.std.specs.List.{dedup}
use Rattle.std.specs.List.Retain.{IsFiltered, DiffersFromLast}
use Rattle.std.specs.List.Sorted.{IsStrictlyIncreasing, IsPermutation, IsSorted}
use Rattle.std.specs.Ordering.{nat_cmp}
use Rattle.std.proofs.lemmas.Bool.Decides.{nat_tests}
use Rattle.std.proofs.lemmas.List.Elements.{All-contains, Contains-get_or}
use Rattle.std.proofs.lemmas.List.Filters.{dedup_is}
use Rattle.std.proofs.lemmas.List.Kept.{AllPairs-from_increasing, Contains-dedup_nat, Contains-from_dedup}
use Rattle.std.proofs.lemmas.List.Sorted.{Contains-permutation, IsPermutation-sym}
use Rattle.std.proofs.lemmas.Map.Keys.{IsStrictlyIncreasing-dedup}
use Rattle.std.proofs.lemmas.Bool.{ltb-true}
use Rattle.list_facts.proofs.Lists.{in_cons, in_rest}
use Rattle.list_facts.proofs.Rising.{rising-cons, same_members}
use Rattle.job_text.specs.Jobs.{with_code, ascending}

-- the code stands in its place, and the list stays ascending

single : (c : ℕ) → IsStrictlyIncreasing (c ∷ [])
single c = λ k lt. absurd (omega arith)

later_rise : (c : ℕ) (cs : List ℕ) → IsStrictlyIncreasing (c ∷ cs) → IsStrictlyIncreasing cs
later_rise c cs rise = λ k lt. let next : suc k + 1 ≡ suc (k + 1) = omega arith in rw next at (rise (suc k) (omega arith))

first_rise : (c d : ℕ) (ds : List ℕ) → IsStrictlyIncreasing (c ∷ d ∷ ds) → c < d
first_rise c d ds rise = rise 0 (omega arith)

above_by_tests : (c d : ℕ) → nat_lt c d ≡ false → (c == d) ≡ false → d < c
above_by_tests c d over other = grind (arith, nat_tests)

same_by_test : (c d : ℕ) → (c == d) ≡ true → c ≡ d
same_by_test c d same = grind (arith, nat_tests)

above_kept : (d c : ℕ) (ds : List ℕ) → d < c → IsStrictlyIncreasing (d ∷ ds) → IsStrictlyIncreasing (d ∷ with_code c ds)
above_kept d c [] lt rise = rising-cons d c [] lt (single c)
above_kept d c (e ∷ es) lt rise =
    elim (nat_lt c e) as (λ b. nat_lt c e ≡ b → IsStrictlyIncreasing (d ∷ (if b then c ∷ e ∷ es else if c == e then e ∷ es else e ∷ with_code c es))) [
      | true ↦ λ below. rising-cons d c (e ∷ es) lt (rising-cons c e es (ltb-true c e below) (later_rise d (e ∷ es) rise))
      | false ↦ λ over.
          elim (c == e) as (λ b. (c == e) ≡ b → IsStrictlyIncreasing (d ∷ (if b then e ∷ es else e ∷ with_code c es))) [
            | true ↦ λ same. rise
            | false ↦ λ other.
                rising-cons d e (with_code c es) (first_rise d e es rise) (above_kept e c es (above_by_tests c e over other) (later_rise d (e ∷ es) rise))
          ] refl
    ] refl

with_code_rises : (c : ℕ) (ds : List ℕ) → IsStrictlyIncreasing ds → IsStrictlyIncreasing (with_code c ds)
with_code_rises c [] rise = single c
with_code_rises c (d ∷ ds) rise =
    elim (nat_lt c d) as (λ b. nat_lt c d ≡ b → IsStrictlyIncreasing (if b then c ∷ d ∷ ds else if c == d then d ∷ ds else d ∷ with_code c ds)) [
      | true ↦ λ below. rising-cons c d ds (ltb-true c d below) rise
      | false ↦ λ over.
          elim (c == d) as (λ b. (c == d) ≡ b → IsStrictlyIncreasing (if b then d ∷ ds else d ∷ with_code c ds)) [
            | true ↦ λ same. rise
            | false ↦ λ other. above_kept d c ds (above_by_tests c d over other) rise
          ] refl
    ] refl

pub ascending_rises : (cs : List ℕ) → IsStrictlyIncreasing (ascending cs)
ascending_rises [] = λ k lt. absurd (omega arith)
ascending_rises (c ∷ cs) = with_code_rises c (ascending cs) (ascending_rises cs)

-- the members stay

first : (y : ℕ) (ys : List ℕ) (x : ℕ) → y ≡ x → Contains (y ∷ ys) x
first y ys x is = (zero, omega arith, is)

put_in : (c x : ℕ) (ds : List ℕ) → Contains (c ∷ ds) x → Contains (with_code c ds) x
put_in c x [] there = there
put_in c x (d ∷ ds) there =
    elim (nat_lt c d) as (λ b. nat_lt c d ≡ b → Contains (if b then c ∷ d ∷ ds else if c == d then d ∷ ds else d ∷ with_code c ds) x) [
      | true ↦ λ below. there
      | false ↦ λ over.
          elim (c == d) as (λ b. (c == d) ≡ b → Contains (if b then d ∷ ds else d ∷ with_code c ds) x) [
            | true ↦ λ same. elim (in_cons c (d ∷ ds) x there) [
              | inl is ↦ first d ds x (sym (same_by_test c d same) ∙ is)
              | inr behind ↦ behind
            ]
            | false ↦ λ other. elim (in_cons c (d ∷ ds) x there) [
              | inl is ↦ in_rest d (with_code c ds) x (put_in c x ds (first c ds x is))
              | inr behind ↦ elim (in_cons d ds x behind) [
                | inl is ↦ first d (with_code c ds) x is
                | inr deep ↦ in_rest d (with_code c ds) x (put_in c x ds (in_rest c ds x deep))
              ]
            ]
          ] refl
    ] refl

taken_out : (c x : ℕ) (ds : List ℕ) → Contains (with_code c ds) x → Contains (c ∷ ds) x
taken_out c x [] there = there
taken_out c x (d ∷ ds) there =
    elim (nat_lt c d) as (λ b. nat_lt c d ≡ b → Contains (if b then c ∷ d ∷ ds else if c == d then d ∷ ds else d ∷ with_code c ds) x → Contains (c ∷ d ∷ ds) x) [
      | true ↦ λ below here. here
      | false ↦ λ over.
          elim (c == d) as (λ b. (c == d) ≡ b → Contains (if b then d ∷ ds else d ∷ with_code c ds) x → Contains (c ∷ d ∷ ds) x) [
            | true ↦ λ same here. in_rest c (d ∷ ds) x here
            | false ↦ λ other here. elim (in_cons d (with_code c ds) x here) [
              | inl is ↦ in_rest c (d ∷ ds) x (first d ds x is)
              | inr behind ↦ elim (in_cons c ds x (taken_out c x ds behind)) [
                | inl is ↦ first c (d ∷ ds) x is
                | inr deep ↦ in_rest c (d ∷ ds) x (in_rest d ds x deep)
              ]
            ]
          ] refl
    ] refl there

pub ascending_has : (cs : List ℕ) (x : ℕ) → Contains cs x → Contains (ascending cs) x
ascending_has [] x there = there
ascending_has (c ∷ cs) x there = elim (in_cons c cs x there) [
  | inl is ↦ put_in c x (ascending cs) (first c (ascending cs) x is)
  | inr behind ↦ put_in c x (ascending cs) (in_rest c (ascending cs) x (ascending_has cs x behind))
]

pub ascending_had : (cs : List ℕ) (x : ℕ) → Contains (ascending cs) x → Contains cs x
ascending_had [] x there = there
ascending_had (c ∷ cs) x there = elim (in_cons c (ascending cs) x (taken_out c x (ascending cs) there)) [
  | inl is ↦ first c cs x is
  | inr behind ↦ in_rest c cs x (ascending_had cs x behind)
]

pub ascending_all : (P : ℕ → Type 0) (cs : List ℕ) → All P cs → All P (ascending cs)
ascending_all P cs all = λ k d within.
    All-contains P cs (get_or (ascending cs) k d) all (ascending_had cs (get_or (ascending cs) k d) (Contains-get_or (ascending cs) k d within))

-- as many at the most, and one where there was one

with_code_length : (c : ℕ) (ds : List ℕ) → (0 < length (with_code c ds)) × (length (with_code c ds) ≤ length ds + 1)
with_code_length c [] = (omega arith, omega arith)
with_code_length c (d ∷ ds) =
    elim (nat_lt c d) as (λ b. nat_lt c d ≡ b → (0 < length (if b then c ∷ d ∷ ds else if c == d then d ∷ ds else d ∷ with_code c ds)) × (length (if b then c ∷ d ∷ ds else if c == d then d ∷ ds else d ∷ with_code c ds) ≤ length (d ∷ ds) + 1)) [
      | true ↦ λ below. (omega arith, omega arith)
      | false ↦ λ over.
          elim (c == d) as (λ b. (c == d) ≡ b → (0 < length (if b then d ∷ ds else d ∷ with_code c ds)) × (length (if b then d ∷ ds else d ∷ with_code c ds) ≤ length (d ∷ ds) + 1)) [
            | true ↦ λ same. (omega arith, omega arith)
            | false ↦ λ other. let next = with_code_length c ds in (omega arith, omega (arith, next.1))
          ] refl
    ] refl

pub ascending_few : (cs : List ℕ) → length (ascending cs) ≤ length cs
ascending_few [] = omega arith
ascending_few (c ∷ cs) = omega (arith, (with_code_length c (ascending cs)).1, ascending_few cs)

pub ascending_some : (cs : List ℕ) → 0 < length cs → 0 < length (ascending cs)
ascending_some [] some = some
ascending_some (c ∷ cs) some = (with_code_length c (ascending cs)).0

-- a list that is sorted, and then has each element once
pub sorted_once : (cs sorted once : List ℕ) → IsPermutation cs sorted → IsSorted nat_cmp sorted → IsFiltered (DiffersFromLast nat_eq) [] sorted once →
    once ≡ ascending cs
sorted_once cs sorted once moved rise kept =
    let is : once ≡ dedup nat_eq sorted = dedup_is nat_eq sorted once kept in
    rw is
    (same_members (dedup nat_eq sorted) (ascending cs)
    (AllPairs-from_increasing (dedup nat_eq sorted) (IsStrictlyIncreasing-dedup sorted rise))
    (AllPairs-from_increasing (ascending cs) (ascending_rises cs))
    (λ x there. ascending_has cs x (Contains-permutation sorted cs x (IsPermutation-sym cs sorted moved) (Contains-from_dedup nat_eq sorted x there)))
    (λ x there. Contains-dedup_nat sorted x (Contains-permutation cs sorted x moved (ascending_had cs x there))))
