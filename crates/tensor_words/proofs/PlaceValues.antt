-- The tables of a space: codes by differences, and words from the left.
use Rattle.std.proofs.Common.{◌≡◌, ◌∙◌, sym, ap, refl, subst, ℕ, zero, suc, ◌+◌, ◌-◌, ◌*◌, ◌/◌, ◌%◌, ◌^◌, ◌≤◌, ◌<◌, List, [], ◌∷◌, ◌++◌, length, take, drop, map, replicate, get_or, set, inl, inr, append_assoc, add-one, arith, length-set}
use Rattle.std.proofs.Math.Nat.{div-lt_iff_lt-mul, mod-lt, mul-le-mul_right}
use Rattle.std.proofs.Math.Seq.{take-suc-set, get_or-append_seam}
use Rattle.std.proofs.lemmas.Bool.{cases_lt}
use Rattle.std.proofs.lemmas.Nat.{div-add-mod', div-mul-add, mod-mul-add, mul-add-lt}
use Rattle.std.proofs.lemmas.List.{drop_more, drop_all, drop-set-lt, append-nil, get_or_append_left}
use Rattle.std.proofs.lemmas.Grind.{get_or-set_at}
use Rattle.crystal_cartan.specs.Padded.{IsPadded}
use Rattle.crystal_cartan.specs.Types.{CartanType, IsCartan}
use Rattle.tensor_words.specs.declared.spaces.Factor.{Factor}
use Rattle.tensor_words.specs.declared.tables.Row.{Row}
use Rattle.tensor_words.specs.Spaces.{SpaceType, IsSpace, base_size, sizes, size, size_at, product}
use Rattle.tensor_words.specs.Codes.{AreDigits, IsWord, code, word, code_of}
use Rattle.tensor_words.specs.Steps.{IsRow}
use Rattle.tensor_words.specs.Tables.{place_value, AreValues, no_row, IsRowAt, AreRows}
use Rattle.tensor_words.proofs.Digits.{factor_positive}
use Rattle.tensor_words.proofs.Sizes.{base_positive}
use Rattle.tensor_words.proofs.SpaceWords.{length_sizes, sizes_at, length_word, IsWord-set, code_below}

-- the code with one digit changed
code_set :
    (bs ds : List ℕ) (k e : ℕ) → AreDigits bs ds → k < length bs →
    code bs (set ds k e) + get_or ds k 0 * product (drop (suc k) bs) ≡ code bs ds + e * product (drop (suc k) bs)
code_set [] ds k e h lt = absurd (omega arith)
code_set (b ∷ bs) [] k e h lt = absurd h
code_set (b ∷ bs) (d ∷ ds) zero e h lt = omega arith
code_set (b ∷ bs) (d ∷ ds) (suc k) e h lt =
    let rest : code bs (set ds k e) + get_or ds k 0 * product (drop (suc k) bs) ≡ code bs ds + e * product (drop (suc k) bs) =
    code_set bs ds k e h.1 (omega arith) in
    omega arith

-- what one digit adds to the code
digit_part : (bs ds : List ℕ) (k : ℕ) → AreDigits bs ds → k < length bs → get_or ds k 0 * product (drop (suc k) bs) ≤ code bs ds
digit_part [] ds k h lt = absurd (omega arith)
digit_part (b ∷ bs) [] k h lt = absurd h
digit_part (b ∷ bs) (d ∷ ds) zero h lt = omega arith
digit_part (b ∷ bs) (d ∷ ds) (suc k) h lt =
    let rest : get_or ds k 0 * product (drop (suc k) bs) ≤ code bs ds = digit_part bs ds k h.1 (omega arith) in
    omega arith

-- the code n of the word w with its digit at the place k, whose value is v, changed to d
pub record IsMoved (s : SpaceType) (w : List ℕ) (k v d n : ℕ) : Type 0 where
  pub from : get_or w k 0 * v ≤ n
  pub to : d * v < size s
  pub value : n - get_or w k 0 * v + d * v ≡ code_of s (set w k d)
  pub below : n - get_or w k 0 * v + d * v < size s

moved_code :
    (s : SpaceType) (w : List ℕ) (k v d n : ℕ) → IsWord s w → n ≡ code_of s w → k < length s.factors → v ≡ place_value s k → d < size_at s k → IsMoved s w k v d n
unfolding code_of
moved_code s w k v d n h is lt value below =
    let inside : k < length (sizes s) = omega (arith, length_sizes s) in
    let place : v ≡ product (drop (suc k) (sizes s)) = value ∙ ap (λ m. product (drop m (sizes s))) (add-one k) in
    let word_is : IsWord s (set w k d) = IsWord-set s w k d h lt below in
    let changed : code (sizes s) (set w k d) + get_or w k 0 * v ≡ code (sizes s) w + d * v = rw place (code_set (sizes s) w k d h inside) in
    let from : get_or w k 0 * v ≤ code (sizes s) w = rw place (digit_part (sizes s) w k h inside) in
    let to : get_or (set w k d) k 0 * v ≤ code (sizes s) (set w k d) = rw place (digit_part (sizes s) (set w k d) k word_is inside) in
    let less : code (sizes s) (set w k d) < size s = code_below s (set w k d) word_is in
    let long : k < length w = omega (arith, length_word s w h) in
    let written : get_or (set w k d) k 0 ≡ d = get_or-set_at w k k d 0 refl long in
    let new : d * v ≤ code (sizes s) (set w k d) = rw written at to in
    record {
      from = omega arith;
      to = omega arith;
      value = omega arith;
      below = omega arith;
    }

-- the same where the values are those of the space, and that it is narrow
pub moved_by : {s inside : SpaceType} {values w : List ℕ} {k d n : ℕ} → AreValues inside values → inside ≡ s → IsWord s w → n ≡ code_of s w → k < length s.factors → d < size_at s k
    → IsMoved s w k (get_or values k 0) d n × (size s ≤ 2 ^ 63)
moved_by {s} {inside} {values} {w} {k} {d} {n} are same word code place digit =
    let here : AreValues s values = subst (λ x. AreValues x values) same are in
    (moved_code s w k (get_or values k 0) d n word code place (here.each k place) digit, here.space.narrow)

-- the digits before the place k are split off from the number, and `rest` is left of it
pub record IsSplit (bs ds : List ℕ) (k rest total : ℕ) : Type 0 where
  pub fits : k ≤ length bs
  pub few : length bs ≤ 40
  pub whole : length ds ≡ 40
  pub below : rest < product (drop k bs)
  pub blank : drop k ds ≡ replicate (40 - k) 0
  pub read : take k ds ++ word (drop k bs) rest ≡ word bs total

-- one digit more
pub record IsDigitOf (bs : List ℕ) (k rest q v : ℕ) : Type 0 where
  pub some : 0 < v
  pub below : q < get_or bs k 0
  pub left : rest - q * v ≡ rest % v
  pub part : q * v ≤ rest

split_rest : (bs : List ℕ) (k rest : ℕ) → k < length bs → rest < product (drop k bs) → rest < get_or bs k 0 * product (drop (k + 1) bs)
split_rest bs k rest lt below = rw (drop_more bs k 0 lt) at below

pub value_positive : (bs ds : List ℕ) (k rest total v : ℕ) → IsSplit bs ds k rest total → k < length bs → v ≡ product (drop (k + 1) bs) → 0 < v
value_positive bs ds k rest total v p lt is = rw is (factor_positive rest (get_or bs k 0) (product (drop (k + 1) bs)) (split_rest bs k rest lt p.below))

pub split_digit :
    (bs ds : List ℕ) (k rest total q v : ℕ) → IsSplit bs ds k rest total → k < length bs → v ≡ product (drop (k + 1) bs) → q ≡ rest / v → IsDigitOf bs k rest q v
split_digit bs ds k rest total q v p lt is quotient =
    let some : 0 < v = value_positive bs ds k rest total v p lt is in
    let within : rest < get_or bs k 0 * v = rw is (split_rest bs k rest lt p.below) in
    let parts : rest / v * v + rest % v ≡ rest = div-add-mod' rest v in
    let same : q * v ≡ rest / v * v = ap (λ m. m * v) quotient in
    record {
      some = some;
      below = rw quotient ((div-lt_iff_lt-mul some).1 within);
      left = omega arith;
      part = omega arith;
    }

blank_more : (ds : List ℕ) (k : ℕ) → k < 40 → length ds ≡ 40 → drop k ds ≡ replicate (40 - k) 0 → drop (k + 1) ds ≡ replicate (40 - (k + 1)) 0
blank_more ds k lt whole blank =
    let count : 40 - k ≡ suc (40 - (k + 1)) = omega arith in
    let split : drop k ds ≡ get_or ds k 0 ∷ drop (k + 1) ds = drop_more ds k 0 (omega arith) in
    let zeros : drop k ds ≡ 0 ∷ replicate (40 - (k + 1)) 0 = blank ∙ ap (λ m. replicate m 0) count in
    cc

pub split_more :
    (bs ds : List ℕ) (k rest total q v left : ℕ) → IsSplit bs ds k rest total → k < length bs → v ≡ product (drop (k + 1) bs) → q ≡ rest / v → left ≡ rest - q * v
    → IsSplit bs (set ds k q) (k + 1) left total
split_more bs ds k rest total q v left p lt is quotient left_is =
    let digit : IsDigitOf bs k rest q v = split_digit bs ds k rest total q v p lt is quotient in
    let remains : left ≡ rest % v = left_is ∙ digit.left in
    let inside : k < length ds = omega (arith, p.few, p.whole) in
    let more : take (k + 1) (set ds k q) ≡ take k ds ++ q ∷ [] = ap (λ m. take m (set ds k q)) (add-one k) ∙ take-suc-set ds k q inside in
    let split : word (drop k bs) rest ≡ q ∷ word (drop (k + 1) bs) left = rw (drop_more bs k 0 lt, remains, quotient, is) refl in
    record {
      fits = omega arith;
      few = p.few;
      whole = length-set ds k q ∙ p.whole;
      below = rw (remains, ← is) (mod-lt rest digit.some);
      blank = drop-set-lt (k + 1) ds k q (omega arith) ∙ blank_more ds k (omega (arith, p.few)) p.whole p.blank;
      read = rw (more, append_assoc) (ap (λ xs. take k ds ++ xs) (sym split) ∙ p.read);
    }

-- all digits are split off
pub split_end : (bs ds : List ℕ) (k rest total : ℕ) → length bs ≤ k → IsSplit bs ds k rest total → IsPadded 0 40 k ds × (take k ds ≡ word bs total)
split_end bs ds k rest total all p =
    let none : drop k bs ≡ [] = drop_all k bs all in
    (record { fits = omega (arith, p.fits, p.few); whole = p.whole; rest = p.blank }, sym (append-nil (take k ds)) ∙ (rw none at p.read))

rest_fits : (t : CartanType) (fs : List Factor) (k : ℕ) → IsCartan t → product (drop k (map (base_size t) fs)) ≤ product (map (base_size t) fs)
rest_fits t [] zero c = omega arith
rest_fits t [] (suc k) c = omega arith
rest_fits t (f ∷ fs) zero c = omega arith
rest_fits t (f ∷ fs) (suc k) c =
    let rest : product (drop k (map (base_size t) fs)) ≤ product (map (base_size t) fs) = rest_fits t fs k c in
    let more : 1 * product (map (base_size t) fs) ≤ base_size t f * product (map (base_size t) fs) = mul-le-mul_right (product (map (base_size t) fs)) (base_positive t f c) in
    omega arith

-- one place to the left
pub value_more :
    (s : SpaceType) (j k v b : ℕ) → j ≡ k + 1 → k < length s.factors → v ≡ product (drop j (sizes s)) → b ≡ size_at s k → v * b ≡ product (drop k (sizes s))
value_more s j k v b next lt value base =
    let at : get_or (sizes s) k 0 ≡ b = sizes_at s k lt ∙ sym base in
    let value_is : v ≡ product (drop (k + 1) (sizes s)) = rw next at value in
    let split : product (drop k (sizes s)) ≡ get_or (sizes s) k 0 * product (drop (k + 1) (sizes s)) = rw (drop_more (sizes s) k 0 (omega (arith, length_sizes s))) refl in
    let whole : product (drop k (sizes s)) ≡ b * v = rw (value_is, ← at) split in
    omega arith

pub value_fits : (s : SpaceType) (k : ℕ) → IsSpace s → product (drop k (sizes s)) ≤ 2 ^ 63
value_fits s k space =
    let narrow : size s ≤ 2 ^ 63 = space.narrow in
    omega (arith, rest_fits s.cartan s.factors k space.cartan)

-- the row of an element in the table
pub row_there :
    (s : SpaceType) (width : ℕ) (rows : List Row) (k d : ℕ) (r : Row) → AreRows s width rows → k < length s.factors → d < size_at s k
    → r ≡ get_or rows (k * width + d) no_row → IsRow s k d r
row_there s width rows k d r table lt below is =
    let narrow : d < width = omega (arith, table.wide k lt) in
    let place : (k * width + d) / width ≡ k = div-mul-add k width d narrow in
    let digit : (k * width + d) % width ≡ d = mod-mul-add k width d narrow in
    let inside : k * width + d < length rows = omega (arith, table.count, mul-add-lt k width d (length s.factors) lt narrow) in
    let there : IsRow s ((k * width + d) / width) ((k * width + d) % width) (get_or rows (k * width + d) no_row) =
    table.each (k * width + d) inside (rw (place, digit) below) in
    rw is (rw (place, digit) at there)

-- one row more in a table
pub row_more :
    (s : SpaceType) (width n : ℕ) (rows more : List Row) (r : Row) → length rows ≡ n → more ≡ rows ++ r ∷ []
    → ((m : ℕ) → m < n → IsRowAt s width m (get_or rows m no_row)) → IsRowAt s width n r → (m : ℕ) → m < n + 1 → IsRowAt s width m (get_or more m no_row)
row_more s width n rows more r count is before here m lt =
    elim (cases_lt m n) as (λ o. IsRowAt s width m (get_or more m no_row)) [
      | inl inside ↦
          let there : get_or more m no_row ≡ get_or rows m no_row = ap (λ rs. get_or rs m no_row) is ∙ get_or_append_left rows (r ∷ []) no_row m (omega arith) in
          rw there (before m inside)
      | inr last ↦
          let place : m ≡ n = omega arith in
          let there : get_or more (length rows) no_row ≡ r = ap (λ rs. get_or rs (length rows) no_row) is ∙ get_or-append_seam rows r [] no_row in
          rw (place, ← count, there) (rw (← count) at here)
    ]
