-- Words of a space and their codes.
use Rattle.std.proofs.Common.{◌≡◌, ◌∙◌, sym, ℕ, ◌+◌, ◌*◌, ◌<◌, ◌≤◌, List, [], length, drop, get_or, set, arith}
use Rattle.std.proofs.lemmas.List.{get_or-map, length-map, drop_all}
use Rattle.tensor_words.specs.declared.spaces.Factor.TheVariants.{Vector}
use Rattle.tensor_words.specs.Spaces.{SpaceType, sizes, size, product, base_size, size_at}
use Rattle.tensor_words.specs.Codes.{IsWord, code, code_of, word_of}
use Rattle.tensor_words.proofs.Digits.{code_in_range, word-code, code-word, AreDigits-word, length_digits, digit_below, AreDigits-set, read_more, read_fits}

pub length_sizes : (s : SpaceType) → length (sizes s) ≡ length s.factors
length_sizes s = length-map s.factors (base_size s.cartan)

pub sizes_at : (s : SpaceType) (k : ℕ) → k < length s.factors → get_or (sizes s) k 0 ≡ size_at s k
sizes_at s k lt = get_or-map (base_size s.cartan) s.factors k Vector 0 lt

-- a word has one digit for each factor
pub length_word : (s : SpaceType) (w : List ℕ) → IsWord s w → length w ≡ length s.factors
length_word s w h = length_digits (sizes s) w h ∙ length_sizes s

pub digit_small : (s : SpaceType) (w : List ℕ) (k : ℕ) → IsWord s w → k < length s.factors → get_or w k 0 < size_at s k
digit_small s w k h lt = rw (sizes_at s k lt) at (digit_below (sizes s) w k h (omega (arith, length_sizes s)))

pub IsWord-set : (s : SpaceType) (w : List ℕ) (k d : ℕ) → IsWord s w → k < length s.factors → d < size_at s k → IsWord s (set w k d)
IsWord-set s w k d h lt below = AreDigits-set (sizes s) w k d h (rw (sizes_at s k lt) below)

pub code_below : (s : SpaceType) (w : List ℕ) → IsWord s w → code_of s w < size s
unfolding code_of
code_below s w h = code_in_range (sizes s) w h

-- a word is the word of its code
pub word_back : (s : SpaceType) (w : List ℕ) → IsWord s w → word_of s (code_of s w) ≡ w
unfolding code_of word_of
word_back s w h = word-code (sizes s) w h

-- a number below the size is the code of its word
pub code_back : (s : SpaceType) (c : ℕ) → c < size s → code_of s (word_of s c) ≡ c
unfolding code_of word_of
code_back s c lt = code-word (sizes s) c lt

pub IsWord-word_of : (s : SpaceType) (c : ℕ) → c < size s → IsWord s (word_of s c)
unfolding word_of
IsWord-word_of s c lt = AreDigits-word (sizes s) c lt

-- the code of a word is read from the left, here up to the place k
abbrev pub IsRead : SpaceType → List ℕ → ℕ → ℕ → Type 0
IsRead s w k c = c * product (drop k (sizes s)) + code (drop k (sizes s)) (drop k w) ≡ code (sizes s) w

pub read_step :
    (s : SpaceType) (w : List ℕ) (k c b d : ℕ) → IsWord s w → k < length s.factors → b ≡ size_at s k → d ≡ get_or w k 0 →
    IsRead s w k c → IsRead s w (k + 1) (c * b + d)
read_step s w k c b d h lt bs ds is =
    let at : get_or (sizes s) k 0 ≡ size_at s k = sizes_at s k lt in
    let more : _ = read_more (sizes s) w k c (omega (arith, length_sizes s)) (omega (arith, length_word s w h)) in
    rw (bs, ← at, ds) (sym more ∙ is)

pub read_below :
    (s : SpaceType) (w : List ℕ) (k c b d : ℕ) → IsWord s w → k < length s.factors → b ≡ size_at s k → d ≡ get_or w k 0 →
    IsRead s w k c → c * b + d < size s
read_below s w k c b d h lt bs ds is =
    let at : get_or (sizes s) k 0 ≡ size_at s k = sizes_at s k lt in
    rw (bs, ← at, ds) (read_fits (sizes s) w k c h (omega (arith, length_sizes s)) is)

pub read_whole : (s : SpaceType) (w : List ℕ) (k c : ℕ) → IsWord s w → length s.factors ≤ k → IsRead s w k c → c ≡ code_of s w
unfolding code_of
read_whole s w k c h all is =
    let none : drop k (sizes s) ≡ [] = drop_all k (sizes s) (omega (arith, length_sizes s)) in
    let done : c * 1 + 0 ≡ code (sizes s) w = rw none at is in
    omega arith
