-- The rows of fillings.
use Rattle.std.proofs.Common.{◌≡◌, ◌∙◌, refl, sym, ap, ap₂, subst, ℕ, zero, suc, ◌+◌, ◌≤◌, ◌<◌, ◌==◌, ◌&&◌, Bool, true, false, if◌then◌else◌, List, [], ◌∷◌, length, map, set, get_or, replicate, ℤ, pos, inl, inr, arith}
use Rattle.std.specs.List.{range_with_len}
use Rattle.std.proofs.lemmas.Bool.{cases_lt, cases_eq, and_parts, eqb-true, eq-eqb}
use Rattle.std.proofs.lemmas.List.{get_or-replicate, get_or-set_other, ext_get_or, get_or-map, length-map}
use Rattle.std.proofs.lemmas.Grind.{get_or-set_at}
use Rattle.std.proofs.lemmas.List.FromFn.{get_or-map-range_with_len}
use Rattle.crystal_cartan.specs.Types.{CartanType, IsCartan, coordinates_of, least_rank}
use Rattle.crystal_cartan.specs.declared.types.Kind.{Kind}
use Rattle.crystal_cartan.specs.declared.types.Kind.TheVariants.{A, B, C, D}
use Rattle.vector_crystals.specs.Letters.{IsLetter, letter_count, letter_count_of, letter_at, letter_digit}
use Rattle.vector_crystals.proofs.Digits.{letter_at-letter, letter_at-unbarred, letter_digit-letter_at, letter_at-letter_digit}
use Rattle.tensor_words.specs.Codes.{IsWord}
use Rattle.tensor_words.proofs.SpaceWords.{length_word, digit_small}
use Rattle.tableau_reading.specs.Shapes.{ShapeType, IsShape, box_count, shape_space}
use Rattle.tableau_reading.specs.Readings.{Box, box, boxes_read, place}
use Rattle.tableau_reading.specs.Fillings.{FillingType, filling, letter_in, rows_from, IsFilling, first_filling, with_letter, filling_word, filling_of, filling_listed, AreLetters}
use Rattle.tableau_reading.proofs.Rows.{few_boxes}
use Rattle.tableau_reading.proofs.Boxes.{row_there}
use Rattle.tableau_reading.proofs.Orders.{IsPlaced, placed, read_at, length-boxes_read}
use Rattle.tableau_reading.proofs.VectorSpaces.{vector_size, length-shape_space}

-- ---- rows by their letters

map_same : {X : Type 0} (f g : ℕ → X) (a n : ℕ) → ((k : ℕ) → k < a + n → f k ≡ g k) → map f (range_with_len a n) ≡ map g (range_with_len a n)
map_same f g a zero same = refl
map_same f g a (suc n) same = ap₂ (λ x xs. x ∷ xs) (same a (omega arith)) (map_same f g (a + 1) n (λ k lt. same k (omega arith)))

pub rows_same : (s : ShapeType) (f g : ℕ → ℕ → ℤ) → ((r c : ℕ) → c < get_or s.rows r 0 → f r c ≡ g r c) → rows_from s f ≡ rows_from s g
rows_same s f g same =
    map_same (λ r. map (f r) (range_with_len 0 (get_or s.rows r 0))) (λ r. map (g r) (range_with_len 0 (get_or s.rows r 0))) 0 (length s.rows)
    (λ r lt. map_same (f r) (g r) 0 (get_or s.rows r 0) (λ c within. same r c (omega arith)))

pub letter_from : (s : ShapeType) (fill : ℕ → ℕ → ℤ) (r c : ℕ) → c < get_or s.rows r 0 → letter_in (filling s (rows_from s fill)) r c ≡ fill r c
letter_from s fill r c lt =
    let row : get_or (rows_from s fill) r [] ≡ map (fill r) (range_with_len 0 (get_or s.rows r 0)) =
    get_or-map-range_with_len (λ i. map (fill i) (range_with_len 0 (get_or s.rows i 0))) 0 (length s.rows) r r [] (row_there s.rows r c lt) (omega arith) in
    rw row (get_or-map-range_with_len (fill r) 0 (get_or s.rows r 0) c c (pos 0) lt (omega arith))

pub rows_again : (s : ShapeType) (fill : ℕ → ℕ → ℤ) → rows_from s fill ≡ rows_from s (letter_in (filling s (rows_from s fill)))
rows_again s fill = rows_same s fill (letter_in (filling s (rows_from s fill))) (λ r c lt. sym (letter_from s fill r c lt))

-- ---- letters that are listed in the order of the reading

pub listed_letter : (s : ShapeType) (letters : List ℤ) (r c : ℕ) → c < get_or s.rows r 0 → letter_in (filling_listed s letters) r c ≡ get_or letters (place s r c) (pos 0)
listed_letter s letters r c lt = letter_from s (λ i j. get_or letters (place s i j) (pos 0)) r c lt

pub listed_at : (s : ShapeType) (letters : List ℤ) (k : ℕ) → IsShape s → k < box_count s →
    get_or letters k (pos 0) ≡ letter_in (filling_listed s letters) (get_or (boxes_read s) k (box 0 0)).row (get_or (boxes_read s) k (box 0 0)).column
listed_at s letters k h lt =
    let known = read_at s k h lt in
    sym (listed_letter s letters _ _ known.within ∙ ap (λ i. get_or letters i (pos 0)) known.place)

pub listed_is_filling : (s : ShapeType) (letters : List ℤ) → IsShape s → AreLetters s.cartan (box_count s) letters → IsFilling (filling_listed s letters)
listed_is_filling s letters h good = record {
  shape = h;
  rows = rows_again s (λ i j. get_or letters (place s i j) (pos 0));
  letters = λ r c lt. subst (IsLetter s.cartan) (sym (listed_letter s letters r c lt)) (good.at (place s r c) (placed s r c h lt).below);
}

pub letters_set :
    (t : CartanType) (n : ℕ) (letters : List ℤ) (p : ℕ) (x : ℤ) → p < length letters → IsLetter t x → AreLetters t n letters → AreLetters t n (set letters p x)
letters_set t n letters p x lt good before = record {
  at = λ k below. elim (cases_eq k p) [
    | inl same ↦ subst (IsLetter t) (sym (get_or-set_at letters p k x (pos 0) same lt)) good
    | inr other ↦ subst (IsLetter t) (sym (get_or-set_other letters p k x (pos 0) other)) (before.at k below)
  ];
}

-- one letter more is written
pub letters_more :
    (t : CartanType) (n : ℕ) (letters : List ℤ) (x : ℤ) → n < length letters → IsLetter t x → AreLetters t n letters → AreLetters t (n + 1) (set letters n x)
letters_more t n letters x lt good before = record {
  at = λ k below. elim (cases_lt k n) [
    | inl less ↦ subst (IsLetter t) (sym (get_or-set_other letters n k x (pos 0) (λ same. omega arith))) (before.at k less)
    | inr over ↦ let same : k ≡ n = omega arith in subst (IsLetter t) (sym (get_or-set_at letters n k x (pos 0) same lt)) good
  ];
}

differs : (r c i j : ℕ) → ((i == r) && (j == c)) ≡ false → box i j ≡ box r c → ⊥
differs r c i j is same =
    let row : i ≡ r = ap (λ (b : Box). b.row) same in
    let column : j ≡ c = ap (λ (b : Box). b.column) same in
    let test = rw (row, column, eq-eqb r r refl, eq-eqb c c refl) at is in
    cc

pub listed_put :
    (s : ShapeType) (letters : List ℤ) (r c : ℕ) (x : ℤ) → IsShape s → c < get_or s.rows r 0 → length letters ≡ 40 →
    filling_listed s (set letters (place s r c) x) ≡ with_letter (filling_listed s letters) r c x
listed_put s letters r c x h lt size =
    ap (filling s) (rows_same s (λ i j. get_or (set letters (place s r c) x) (place s i j) (pos 0))
    (λ i j. if (i == r) && (j == c) then x else letter_in (filling_listed s letters) i j) (λ i j within. each i j within ((i == r) && (j == c)) refl))
  where
    here : IsPlaced s r c
    here = placed s r c h lt

    few : box_count s ≤ 40
    few = few_boxes s.cartan (box_count s) h.small

    each : (i j : ℕ) → j < get_or s.rows i 0 → (b : Bool) → ((i == r) && (j == c)) ≡ b →
        get_or (set letters (place s r c) x) (place s i j) (pos 0) ≡ (if b then x else letter_in (filling_listed s letters) i j)
    each i j within true is =
        let row : i ≡ r = eqb-true i r (and_parts _ _ is).0 in
        let column : j ≡ c = eqb-true j c (and_parts _ _ is).1 in
        let same : place s i j ≡ place s r c = ap₂ (λ a b. place s a b) row column in
        get_or-set_at letters (place s r c) (place s i j) x (pos 0) same (omega (arith, here.below, few, size))
    each i j within false is =
        let there = (placed s i j h within).there in
        let apart : place s i j ≡ place s r c → ⊥ = λ same. differs r c i j is (sym there ∙ (ap (λ k. get_or (boxes_read s) k (box 0 0)) same ∙ here.there)) in
        get_or-set_other letters (place s r c) (place s i j) x (pos 0) apart ∙ sym (listed_letter s letters i j within)

-- ---- the letter 1 in every box

one_is_letter : (t : CartanType) → IsCartan t → IsLetter t (pos 1)
one_is_letter t c =
    let sizes = first_sizes t.kind t.rank c.low in
    subst (IsLetter t) (letter_at-unbarred t 0 c sizes.0 sizes.1) (letter_at-letter t 0 c sizes.0)
  where
    first_sizes : (k : Kind) (r : ℕ) → least_rank k ≤ r → (0 < letter_count_of k r) × (0 < coordinates_of k r)
    first_sizes A r low = (omega arith, omega arith)
    first_sizes B r low = (omega arith, omega arith)
    first_sizes C r low = (omega arith, omega arith)
    first_sizes D r low = (omega arith, omega arith)

pub ones_are_letters : (t : CartanType) (n : ℕ) → IsCartan t → n ≤ 40 → AreLetters t n (replicate 40 (pos 1))
ones_are_letters t n c few = record {
  at = λ k lt. subst (IsLetter t) (sym (get_or-replicate 40 k (pos 1) (pos 0) (omega arith))) (one_is_letter t c);
}

pub ones_listed : (s : ShapeType) → IsShape s → filling_listed s (replicate 40 (pos 1)) ≡ first_filling s
ones_listed s h =
    let few = few_boxes s.cartan (box_count s) h.small in
    ap (filling s) (rows_same s (λ r c. get_or (replicate 40 (pos 1)) (place s r c) (pos 0)) (λ r c. pos 1) (λ r c lt.
    get_or-replicate 40 (place s r c) (pos 1) (pos 0) (omega (arith, few, (placed s r c h lt).below))))

-- ---- a word and its filling

-- the letters of a word
pub record AreLettersOf (t : CartanType) (n : ℕ) (w : List ℕ) (letters : List ℤ) : Type 0 where
  pub at : (k : ℕ) → k < n → get_or letters k (pos 0) ≡ letter_at t (get_or w k 0)

pub letters_of_more :
    (t : CartanType) (n : ℕ) (w : List ℕ) (letters : List ℤ) (x : ℤ) → n < length letters → x ≡ letter_at t (get_or w n 0) →
    AreLettersOf t n w letters → AreLettersOf t (n + 1) w (set letters n x)
letters_of_more t n w letters x lt here before = record {
  at = λ k below. elim (cases_lt k n) [
    | inl less ↦ get_or-set_other letters n k x (pos 0) (λ same. omega arith) ∙ before.at k less
    | inr over ↦
        let same : k ≡ n = omega arith in
        get_or-set_at letters n k x (pos 0) same lt ∙ (here ∙ ap (λ i. letter_at t (get_or w i 0)) (sym same))
  ];
}

pub word_listed : (s : ShapeType) (w : List ℕ) (letters : List ℤ) → IsShape s → AreLettersOf s.cartan (box_count s) w letters → filling_listed s letters ≡ filling_of s w
word_listed s w letters h good =
    ap (filling s) (rows_same s (λ r c. get_or letters (place s r c) (pos 0)) (λ r c. letter_at s.cartan (get_or w (place s r c) 0)) (λ r c lt.
    good.at (place s r c) (placed s r c h lt).below))

pub digit_of_word : (s : ShapeType) (w : List ℕ) (k : ℕ) → IsWord (shape_space s) w → k < box_count s → get_or w k 0 < letter_count s.cartan
digit_of_word s w k word lt =
    let small = digit_small (shape_space s) w k word (omega (arith, length-shape_space s)) in
    rw (vector_size s k lt) at small

pub word_again : (s : ShapeType) (w : List ℕ) → IsShape s → IsWord (shape_space s) w → filling_word (filling_of s w) ≡ w
word_again s w h word =
    let size : length w ≡ box_count s = length_word (shape_space s) w word ∙ length-shape_space s in
    let total : length (boxes_read s) ≡ box_count s = length-boxes_read s h.falling in
    let fill : Box → ℕ = λ b. letter_digit s.cartan (letter_in (filling_of s w) b.row b.column) in
    ext_get_or 0 (filling_word (filling_of s w)) w (length-map (boxes_read s) fill ∙ (total ∙ sym size)) (λ k lt.
    let within : k < box_count s = omega (arith, length-map (boxes_read s) fill) in
    let known = read_at s k h within in
    get_or-map fill (boxes_read s) k (box 0 0) 0 (omega arith)
    ∙ (ap (letter_digit s.cartan) (letter_from s (λ r c. letter_at s.cartan (get_or w (place s r c) 0)) _ _ known.within ∙ ap (λ i. letter_at s.cartan (get_or w i 0)) known.place)
    ∙ letter_digit-letter_at s.cartan (get_or w k 0) h.cartan (digit_of_word s w k word within)))

pub filling_again : (f : FillingType) → IsFilling f → filling_of f.shape (filling_word f) ≡ f
filling_again f good =
    let s : ShapeType = f.shape in
    let total : length (boxes_read f.shape) ≡ box_count f.shape = length-boxes_read f.shape good.shape.falling in
    let fill : Box → ℕ = λ b. letter_digit f.shape.cartan (letter_in f b.row b.column) in
    let rows = rows_same f.shape (λ r c. letter_at f.shape.cartan (get_or (filling_word f) (place f.shape r c) 0)) (letter_in f) (λ r c lt.
    let here = placed f.shape r c good.shape lt in
    let digit : get_or (filling_word f) (place f.shape r c) 0 ≡ letter_digit f.shape.cartan (letter_in f r c) =
    get_or-map fill (boxes_read f.shape) (place f.shape r c) (box 0 0) 0 (omega (arith, here.below)) ∙ ap fill here.there in
    ap (letter_at f.shape.cartan) digit ∙ letter_at-letter_digit f.shape.cartan (letter_in f r c) good.shape.cartan (good.letters r c lt)) in
    ap (filling f.shape) (rows ∙ sym good.rows)
