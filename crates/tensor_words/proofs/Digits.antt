-- Digits of a number in mixed radix: a word and its code determine each other.
use Rattle.std.proofs.Common.{◌≡◌, ◌∙◌, sym, ap, refl, ℕ, zero, suc, ◌+◌, ◌*◌, ◌/◌, ◌%◌, ◌≤◌, ◌<◌, List, [], ◌∷◌, length, drop, get_or, set, arith, length-set}
use Rattle.std.proofs.Math.Nat.{div-lt_iff_lt-mul, mod-lt, mul-le-mul_left}
use Rattle.std.proofs.lemmas.Nat.{div-mul-add, mod-mul-add, div-add-mod'}
use Rattle.std.proofs.lemmas.Grind.{drop-set_at}
use Rattle.std.proofs.lemmas.List.{drop_more}
use Rattle.list_facts.proofs.Numbers.{in_row}
use Rattle.tensor_words.specs.Spaces.{product}
use Rattle.tensor_words.specs.Codes.{AreDigits, code, word}

pub code_in_range : (bs ds : List ℕ) → AreDigits bs ds → code bs ds < product bs
code_in_range [] [] h = omega arith
code_in_range [] (d ∷ ds) h = absurd h
code_in_range (b ∷ bs) [] h = absurd h
code_in_range (b ∷ bs) (d ∷ ds) h = in_row d b (product bs) (code bs ds) h.0 (code_in_range bs ds h.1)

-- the word of the code of digits
pub word-code : (bs ds : List ℕ) → AreDigits bs ds → word bs (code bs ds) ≡ ds
word-code [] [] h = refl
word-code [] (d ∷ ds) h = absurd h
word-code (b ∷ bs) [] h = absurd h
word-code (b ∷ bs) (d ∷ ds) h =
    let below : code bs ds < product bs = code_in_range bs ds h.1 in
    rw (div-mul-add d (product bs) (code bs ds) below, mod-mul-add d (product bs) (code bs ds) below) (ap (λ es. d ∷ es) (word-code bs ds h.1))

pub factor_positive : (n b p : ℕ) → n < b * p → 0 < p
factor_positive n b zero h = omega arith
factor_positive n b (suc p) h = omega arith

-- the code of the word of a number
pub code-word : (bs : List ℕ) (n : ℕ) → n < product bs → code bs (word bs n) ≡ n
code-word [] n h = omega arith
code-word (b ∷ bs) n h =
    let positive : 0 < product bs = factor_positive n b (product bs) h in
    let rest : code bs (word bs (n % product bs)) ≡ n % product bs = code-word bs (n % product bs) (mod-lt n positive) in
    rw rest (div-add-mod' n (product bs))

pub AreDigits-word : (bs : List ℕ) (n : ℕ) → n < product bs → AreDigits bs (word bs n)
AreDigits-word [] n h = tt
AreDigits-word (b ∷ bs) n h =
    let positive : 0 < product bs = factor_positive n b (product bs) h in
    ((div-lt_iff_lt-mul positive).1 h, AreDigits-word bs (n % product bs) (mod-lt n positive))

pub length_digits : (bs ds : List ℕ) → AreDigits bs ds → length ds ≡ length bs
length_digits [] [] h = refl
length_digits [] (d ∷ ds) h = absurd h
length_digits (b ∷ bs) [] h = absurd h
length_digits (b ∷ bs) (d ∷ ds) h = ap (λ n. suc n) (length_digits bs ds h.1)

pub digit_below : (bs ds : List ℕ) (k : ℕ) → AreDigits bs ds → k < length bs → get_or ds k 0 < get_or bs k 0
digit_below [] ds k h lt = absurd (omega arith)
digit_below (b ∷ bs) [] k h lt = absurd h
digit_below (b ∷ bs) (d ∷ ds) zero h lt = h.0
digit_below (b ∷ bs) (d ∷ ds) (suc k) h lt = digit_below bs ds k h.1 (omega arith)

pub AreDigits-set : (bs ds : List ℕ) (k d : ℕ) → AreDigits bs ds → d < get_or bs k 0 → AreDigits bs (set ds k d)
AreDigits-set [] [] k e h lt = tt
AreDigits-set [] (d ∷ ds) k e h lt = absurd h
AreDigits-set (b ∷ bs) [] k e h lt = absurd h
AreDigits-set (b ∷ bs) (d ∷ ds) zero e h lt = (lt, h.1)
AreDigits-set (b ∷ bs) (d ∷ ds) (suc k) e h lt = (h.0, AreDigits-set bs ds k e h.1 lt)

pub AreDigits-drop : (bs ds : List ℕ) (k : ℕ) → AreDigits bs ds → AreDigits (drop k bs) (drop k ds)
AreDigits-drop [] [] zero h = tt
AreDigits-drop [] [] (suc k) h = tt
AreDigits-drop [] (d ∷ ds) k h = absurd h
AreDigits-drop (b ∷ bs) [] k h = absurd h
AreDigits-drop (b ∷ bs) (d ∷ ds) zero h = h
AreDigits-drop (b ∷ bs) (d ∷ ds) (suc k) h = AreDigits-drop bs ds k h.1

-- one digit more in a number that is read from the left
pub read_more :
    (bs ds : List ℕ) (k c : ℕ) → k < length bs → k < length ds →
    c * product (drop k bs) + code (drop k bs) (drop k ds)
    ≡ (c * get_or bs k 0 + get_or ds k 0) * product (drop (k + 1) bs) + code (drop (k + 1) bs) (drop (k + 1) ds)
read_more bs ds k c h g = rw (drop_more bs k 0 h, drop_more ds k 0 g) (omega arith)

-- the number that is read stays below the product of all sizes
pub read_fits :
    (bs ds : List ℕ) (k c : ℕ) → AreDigits bs ds → k < length bs →
    c * product (drop k bs) + code (drop k bs) (drop k ds) ≡ code bs ds → c * get_or bs k 0 + get_or ds k 0 < product bs
read_fits bs ds k c h lt is =
    let total : ℕ = code bs ds in
    let below : total < product bs = code_in_range bs ds h in
    let same : length ds ≡ length bs = length_digits bs ds h in
    let p : ℕ = product (drop (k + 1) bs) in
    let next : ℕ = c * get_or bs k 0 + get_or ds k 0 in
    let rest : ℕ = code (drop (k + 1) bs) (drop (k + 1) ds) in
    let some : rest < p = code_in_range (drop (k + 1) bs) (drop (k + 1) ds) (AreDigits-drop bs ds (k + 1) h) in
    let split : next * p + rest ≡ total = sym (read_more bs ds k c lt (omega arith)) ∙ is in
    let least : next * 1 ≤ next * p = mul-le-mul_left next (omega arith) in
    omega arith

-- the digits from the place k on are written, and n is left of the number
pub record IsWritten (bs ds : List ℕ) (k n total : ℕ) : Type 0 where
  pub fits : k ≤ length bs
  pub size : length ds ≡ length bs
  pub digits : AreDigits (drop k bs) (drop k ds)
  pub whole : n * product (drop k bs) + code (drop k bs) (drop k ds) ≡ total

-- one digit more
pub written_more :
    (bs ds : List ℕ) (k j n b total : ℕ) → j ≡ k + 1 → b ≡ get_or bs k 0 → 0 < b → k < length bs →
    IsWritten bs ds j n total → IsWritten bs (set ds k (n % b)) k (n / b) total
written_more bs ds k j n b total next is some lt w =
    let at : drop k (set ds k (n % b)) ≡ n % b ∷ drop (k + 1) ds = drop-set_at ds k k (n % b) refl (omega (arith, w.size)) in
    let split : drop k bs ≡ b ∷ drop (k + 1) bs = rw is (drop_more bs k 0 lt) in
    let digits : AreDigits (drop (k + 1) bs) (drop (k + 1) ds) = rw next at w.digits in
    let p : ℕ = product (drop (k + 1) bs) in
    let rest : ℕ = code (drop (k + 1) bs) (drop (k + 1) ds) in
    let whole : n * p + rest ≡ total = rw next at w.whole in
    let parts : n / b * b + n % b ≡ n = div-add-mod' n b in
    let joined : (n / b * b + n % b) * p ≡ n * p = ap (λ m. m * p) parts in
    let code_is : n / b * (b * p) + (n % b * p + rest) ≡ total = omega arith in
    record {
      fits = omega arith;
      size = length-set ds k (n % b) ∙ w.size;
      digits = rw (at, split) (mod-lt n some, digits);
      whole = rw (at, split) code_is;
    }

-- all digits are written
pub written_end : (bs ds : List ℕ) (k n total : ℕ) → k ≤ 0 → total < product bs → IsWritten bs ds k n total → ds ≡ word bs total
written_end bs ds k n total end below w =
    let start : k ≡ 0 = omega arith in
    let whole : n * product bs + code bs ds ≡ total = rw start at w.whole in
    let digits : AreDigits bs ds = rw start at w.digits in
    sym (word-code bs ds digits) ∙ ap (word bs) (none_left n whole)
  where
    none_left : (m : ℕ) → m * product bs + code bs ds ≡ total → code bs ds ≡ total
    none_left zero is = omega arith
    none_left (suc m) is = omega arith
