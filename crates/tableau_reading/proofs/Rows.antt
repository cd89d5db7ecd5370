-- Lists of row lengths.
use Rattle.std.proofs.Common.{◌≡◌, ◌∙◌, refl, sym, ℕ, suc, ◌+◌, ◌-◌, ◌^◌, ◌≤◌, ◌<◌, nat_le, nat_lt, true, false, ◌&&◌, if◌then◌else◌, List, [], ◌∷◌, ◌++◌, length, take, drop, set, get_or, replicate, append_assoc, length-take, length-drop, arith}
use Rattle.std.specs.Prelude.{sum}
use Rattle.std.proofs.Math.Seq.{set-append_seam}
use Rattle.std.proofs.lemmas.Bool.Decides.{nat_tests}
use Rattle.std.proofs.lemmas.List.{drop_more, take_more, take_all}
use Rattle.std.proofs.lemmas.List.Sums.{sum_by_push, sum_by-take-le, get_or-le-sum_by}
use Rattle.crystal_cartan.specs.Types.{CartanType}
use Rattle.vector_crystals.specs.Letters.{letter_count}
use Rattle.tableau_reading.specs.Shapes.{is_falling, is_large}

-- ---- the number of boxes

pub sum_more : (rows : List ℕ) (k : ℕ) → k < length rows → sum (take (k + 1) rows) ≡ sum (take k rows) + get_or rows k 0
sum_more rows k lt = rw (take_more rows k 0 lt) (sum_by_push (λ n. n) (take k rows) (get_or rows k 0))

pub sum_within : (rows : List ℕ) (k : ℕ) → sum (take k rows) ≤ sum rows
sum_within rows k = sum_by-take-le (λ n. n) rows k

pub row_within : (rows : List ℕ) (k : ℕ) → k < length rows → get_or rows k 0 ≤ sum rows
row_within rows k lt = get_or-le-sum_by (λ n. n) rows k 0 lt

pub few_boxes : (t : CartanType) (n : ℕ) → is_large t n ≡ false → n ≤ 40
few_boxes t n small =
    elim (nat_lt 40 n) as (λ b. nat_lt 40 n ≡ b → (if b then true else nat_lt (2 ^ 63) (letter_count t ^ n)) ≡ false → n ≤ 40) [
      | true ↦ λ is many. cc
      | false ↦ λ is few. grind (arith, nat_tests, is)
    ] refl small

pub few_words : (t : CartanType) (n : ℕ) → is_large t n ≡ false → letter_count t ^ n ≤ 2 ^ 63
few_words t n small =
    elim (nat_lt 40 n) as (λ b. (if b then true else nat_lt (2 ^ 63) (letter_count t ^ n)) ≡ false → letter_count t ^ n ≤ 2 ^ 63) [
      | true ↦ λ many. cc
      | false ↦ λ few. not_above (letter_count t ^ n) (2 ^ 63) few
    ] small
  where
    not_above : (a b : ℕ) → nat_lt b a ≡ false → a ≤ b
    not_above a b is = grind (arith, nat_tests)

-- ---- whether the rows fall

split_two : (rows : List ℕ) (p q : ℕ) → q ≡ p + 1 → q < length rows →
    is_falling (drop p rows) ≡ (nat_le (get_or rows q 0) (get_or rows p 0) && is_falling (drop q rows))
split_two rows p q next lt =
    let first : drop p rows ≡ get_or rows p 0 ∷ drop (p + 1) rows = drop_more rows p 0 (omega arith) in
    let second : drop q rows ≡ get_or rows q 0 ∷ drop (q + 1) rows = drop_more rows q 0 lt in
    rw (first, ← next, second) refl

pub falls_on : (rows : List ℕ) (p q : ℕ) → q ≡ p + 1 → q < length rows → get_or rows q 0 ≤ get_or rows p 0 →
    is_falling rows ≡ is_falling (drop p rows) → is_falling rows ≡ is_falling (drop q rows)
falls_on rows p q next lt le before =
    let test : nat_le (get_or rows q 0) (get_or rows p 0) ≡ true = grind (arith, nat_tests) in
    before ∙ rw (split_two rows p q next lt, test) refl

pub falls_not : (rows : List ℕ) (p q : ℕ) → q ≡ p + 1 → q < length rows → get_or rows p 0 < get_or rows q 0 →
    is_falling rows ≡ is_falling (drop p rows) → false ≡ is_falling rows
falls_not rows p q next lt above before =
    let test : nat_le (get_or rows q 0) (get_or rows p 0) ≡ false = grind (arith, nat_tests) in
    sym (before ∙ rw (split_two rows p q next lt, test) refl)

short_falls : (rows : List ℕ) → length rows ≤ 1 → is_falling rows ≡ true
short_falls [] few = refl
short_falls (m ∷ []) few = refl
short_falls (m ∷ n ∷ rows) few = absurd (omega arith)

pub falls_all : (rows : List ℕ) (p q : ℕ) → q ≡ p + 1 → length rows ≤ q → is_falling rows ≡ is_falling (drop p rows) → true ≡ is_falling rows
falls_all rows p q next last before =
    let few : length (drop p rows) ≤ 1 = omega (arith, length-drop p rows) in
    sym (before ∙ short_falls (drop p rows) few)

-- ---- rows filled up to nine

pub padded_more : (rows padded new : List ℕ) (k x : ℕ) → k < length rows → length rows ≤ 9 → x ≡ get_or rows k 0 →
    padded ≡ take k rows ++ replicate (9 - k) 0 → new ≡ set padded k x → new ≡ take (k + 1) rows ++ replicate (9 - (k + 1)) 0
padded_more rows padded new k x lt few here before is =
    let left : 9 - k ≡ suc (9 - (k + 1)) = omega arith in
    let size : length (take k rows) ≡ k = grind (arith, length-take) in
    let seam : set (take k rows ++ 0 ∷ replicate (9 - (k + 1)) 0) (length (take k rows)) x ≡ take k rows ++ x ∷ replicate (9 - (k + 1)) 0 =
    set-append_seam (take k rows) 0 (replicate (9 - (k + 1)) 0) x in
    let there = rw size at seam in
    rw (is, before, left, take_more rows k 0 lt, append_assoc, ← here) there

pub padded_all : (rows padded : List ℕ) (k : ℕ) → length rows ≡ k → padded ≡ take k rows ++ replicate (9 - k) 0 → padded ≡ rows ++ replicate (9 - length rows) 0
padded_all rows padded k all before =
    let whole : take k rows ≡ rows = take_all k rows (omega arith) in
    let here = rw whole at before in
    rw all here
