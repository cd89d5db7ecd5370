-- One box of the listing: its two bounds, and the digits between them one after another.
use Rattle.std.proofs.Common.{◌≡◌, ◌∙◌, refl, sym, ap, ap₂, ℕ, zero, suc, ◌+◌, ◌-◌, ◌≤◌, ◌<◌, List, [], ◌∷◌, ◌++◌, length, get_or, set, inl, inr, append_assoc, append-nil, length-append, Err, arith}
use Rattle.std.specs.List.{range_with_len, flat_map}
use Rattle.std.proofs.lemmas.Bool.{cases_lt}
use Rattle.vector_crystals.specs.Letters.{letter_count}
use Rattle.tensor_words.specs.Codes.{code_of}
use Rattle.tableau_reading.specs.Shapes.{ShapeType, IsShape, shape_space}
use Rattle.tableau_reading.specs.Readings.{Box, box, height}
use Rattle.tableau_reading.proofs.Boxes.{in_row, in_column}
use Rattle.tableau_census.specs.Semistandard.{entry}
use Rattle.tableau_census.specs.Listing.{low_at, bound_at, box_of, low_in, bound_in, completion_codes}
use Rattle.tableau_census.specs.declared.counting.CensusFault.{CensusFault}
use Rattle.tableau_census.specs.declared.counting.CensusFault.TheVariants.{NotTypeA, TooMany, NoMemory}
use Rattle.tableau_census.specs.Outcomes.{IsCompleted}
use Rattle.tableau_census.proofs.Bounded.{bound_beneath, bound_lowest}

-- ---- the box beneath

pub beneath : (s : ShapeType) (r c : ℕ) → IsShape s → r + 1 < height s.rows c → c < get_or s.rows (r + 1) 0
beneath s r c h lt = in_row s.rows (r + 1) c h.falling lt

pub bound_from_beneath : (s : ShapeType) (w : List ℕ) (r c : ℕ) → IsShape s → r + 1 < height s.rows c → entry s w (r + 1) c ≡ bound_at s w r c
bound_from_beneath s w r c h lt =
    let next : r + 1 ≡ suc r = omega arith in
    ap (λ q. entry s w q c) next ∙ sym (bound_beneath s w r c (in_row s.rows (suc r) c h.falling (omega arith)))

pub bound_from_count : (s : ShapeType) (w : List ℕ) (r c : ℕ) → IsShape s → height s.rows c ≤ r + 1 → letter_count s.cartan ≡ bound_at s w r c
bound_from_count s w r c h le = elim (cases_lt c (get_or s.rows (suc r) 0)) [
  | inl more ↦ absurd (omega (arith, in_column s.rows (suc r) c h.falling more))
  | inr none ↦ sym (bound_lowest s w r c none)
]

-- ---- lists one after another

part_more : (f : ℕ → List ℕ) (a n : ℕ) → flat_map f (range_with_len a (suc n)) ≡ flat_map f (range_with_len a n) ++ f (a + n)
part_more f a zero = append-nil (f a) ∙ ap f (omega arith)
part_more f a (suc n) =
    let next : a + 1 + n ≡ a + suc n = omega arith in
    ap (λ xs. f a ++ xs) (part_more f (a + 1) n ∙ ap (λ d. flat_map f (range_with_len (a + 1) n) ++ f d) next)
    ∙ sym (append_assoc (f a) (flat_map f (range_with_len (a + 1) n)) (f (a + suc n)))

part_le : (f : ℕ → List ℕ) (a n m : ℕ) → n ≤ m → length (flat_map f (range_with_len a n)) ≤ length (flat_map f (range_with_len a m))
part_le f a n zero le = let none : n ≡ 0 = omega arith in rw none (omega arith)
part_le f a n (suc m) le = elim (cases_lt n (suc m)) [
  | inl less ↦
      let grows : length (flat_map f (range_with_len a (suc m))) ≡ length (flat_map f (range_with_len a m)) + length (f (a + m)) =
      ap length (part_more f a m) ∙ length-append (flat_map f (range_with_len a m)) (f (a + m)) in
      omega (arith, part_le f a n m (omega arith), grows)
  | inr over ↦ let same : n ≡ suc m = omega arith in rw same (omega arith)
]

-- the lists of the numbers from `low` on, below `at`, stand behind the old list; there is room for them
pub record IsPartial (f : ℕ → List ℕ) (limit low bound at : ℕ) (old now : List ℕ) : Type 0 where
  pub is : now ≡ old ++ flat_map f (range_with_len low (at - low))
  pub room : length now ≤ limit
  pub within : at - low ≤ bound - low

pub partial_start : (f : ℕ → List ℕ) (limit low bound : ℕ) (old : List ℕ) → length old ≤ limit → IsPartial f limit low bound low old old
partial_start f limit low bound old room =
    let none : low - low ≡ 0 = omega arith in
    record { is = sym (ap (λ n. old ++ flat_map f (range_with_len low n)) none ∙ append-nil old); room = room; within = omega arith }

pub partial_next : (f : ℕ → List ℕ) (limit low bound at : ℕ) (old now new : List ℕ) → low ≤ at → at < bound → IsPartial f limit low bound at old now
    → new ≡ now ++ f at → length new ≤ limit → IsPartial f limit low bound (at + 1) old new
partial_next f limit low bound at old now new le lt p is room =
    let count : at + 1 - low ≡ suc (at - low) = omega arith in
    let here : low + (at - low) ≡ at = omega arith in
    let more : flat_map f (range_with_len low (at + 1 - low)) ≡ flat_map f (range_with_len low (at - low)) ++ f at =
    ap (λ n. flat_map f (range_with_len low n)) count ∙ (part_more f low (at - low) ∙ ap (λ d. flat_map f (range_with_len low (at - low)) ++ f d) here) in
    record {
      is = is ∙ (ap (λ xs. xs ++ f at) p.is ∙ (append_assoc old (flat_map f (range_with_len low (at - low))) (f at) ∙ ap (λ xs. old ++ xs) (sym more)));
      room = room;
      within = omega arith;
    }

pub partial_done : (f : ℕ → List ℕ) (limit low bound at : ℕ) (old now : List ℕ) → bound ≤ at → IsPartial f limit low bound at old now
    → now ≡ old ++ flat_map f (range_with_len low (bound - low))
partial_done f limit low bound at old now le p =
    let count : at - low ≡ bound - low = omega (arith, p.within) in
    p.is ∙ ap (λ n. old ++ flat_map f (range_with_len low n)) count

pub partial_many : (f : ℕ → List ℕ) (limit low bound at : ℕ) (old now : List ℕ) → low ≤ at → at < bound → IsPartial f limit low bound at old now
    → limit < length now + length (f at) → limit < length old + length (flat_map f (range_with_len low (bound - low)))
partial_many f limit low bound at old now le lt p many =
    let here : low + (at - low) ≡ at = omega arith in
    let size : length now ≡ length old + length (flat_map f (range_with_len low (at - low))) = ap length p.is ∙ length-append old (flat_map f (range_with_len low (at - low))) in
    let more : length (flat_map f (range_with_len low (suc (at - low)))) ≡ length (flat_map f (range_with_len low (at - low))) + length (f at) =
    ap length (part_more f low (at - low) ∙ ap (λ d. flat_map f (range_with_len low (at - low)) ++ f d) here) ∙ length-append (flat_map f (range_with_len low (at - low))) (f at) in
    omega (arith, size, more, part_le f low (suc (at - low)) (bound - low) (omega arith))

-- ---- the completions of a word, n boxes being listed

-- what the digit d at the place k adds
abbrev pub next_codes : ShapeType → ℕ → ℕ → List ℕ → ℕ → List ℕ
next_codes s n k w d = completion_codes s (n - (k + 1)) (k + 1) (set w k d)

pub codes_by_digit : (s : ShapeType) (n k : ℕ) (w : List ℕ) → k < n
    → completion_codes s (n - k) k w ≡ flat_map (next_codes s n k w) (range_with_len (low_in s w k) (bound_in s w k - low_in s w k))
unfolding completion_codes
codes_by_digit s n k w lt = let count : n - k ≡ suc (n - (k + 1)) = omega arith in rw count refl

pub codes_listed : (s : ShapeType) (n k : ℕ) (w : List ℕ) (row column low bound : ℕ) → k < n → box_of s k ≡ box row column
    → low ≡ low_at s w row column → bound ≡ bound_at s w row column → flat_map (next_codes s n k w) (range_with_len low (bound - low)) ≡ completion_codes s (n - k) k w
codes_listed s n k w row column low bound lt there first last =
    let least : low ≡ low_in s w k = first ∙ ap (λ (b : Box). low_at s w b.row b.column) (sym there) in
    let most : bound ≡ bound_in s w k = last ∙ ap (λ (b : Box). bound_at s w b.row b.column) (sym there) in
    ap₂ (λ a b. flat_map (next_codes s n k w) (range_with_len a (b - a))) least most ∙ sym (codes_by_digit s n k w lt)

pub codes_at_end : (s : ShapeType) (n k code : ℕ) (w : List ℕ) → n ≤ k → code ≡ code_of (shape_space s) w → code ∷ [] ≡ completion_codes s (n - k) k w
unfolding completion_codes
codes_at_end s n k code w le is = let none : n - k ≡ 0 = omega arith in rw (none, is) refl

-- a fault at one digit is a fault of the whole listing
pub fault_passed : (fault : CensusFault) (f : ℕ → List ℕ) (limit low bound at : ℕ) (old now new : List ℕ) → low ≤ at → at < bound → IsPartial f limit low bound at old now
    → IsCompleted now (f at) limit new (Err fault) → IsCompleted old (flat_map f (range_with_len low (bound - low))) limit new (Err fault)
fault_passed NotTypeA f limit low bound at old now new le lt p h = h
fault_passed TooMany f limit low bound at old now new le lt p h = partial_many f limit low bound at old now le lt p h
fault_passed NoMemory f limit low bound at old now new le lt p h = tt
