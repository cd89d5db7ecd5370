-- Codes of words: the digits read in mixed radix, the first factor most significant.
use Rattle.std.specs.Prelude.{ℕ, ◌+◌, ◌*◌, ◌/◌, ◌%◌, ◌<◌, ◌≡◌, ◌==◌, ◌↔◌, ◌&&◌, ◌||◌, nat_lt, Bool, false, IsTrue, ⊤, List, [], ◌∷◌}
use Rattle.tensor_words.specs.Spaces.{SpaceType, HasFactors, sizes, size, product}

-- the digits are those of a word: one below each size
abbrev pub AreDigits : List ℕ → List ℕ → Type 0
AreDigits [] [] = ⊤
AreDigits [] (d ∷ ds) = ⊥
AreDigits (b ∷ bs) [] = ⊥
AreDigits (b ∷ bs) (d ∷ ds) = (d < b) × AreDigits bs ds

-- a word of the space is a list of digits, one of each factor
abbrev pub IsWord : SpaceType → List ℕ → Type 0
IsWord s w = AreDigits (sizes s) w

-- the number with these digits
abbrev pub code : List ℕ → List ℕ → ℕ
code [] ds = 0
code (b ∷ bs) [] = 0
code (b ∷ bs) (d ∷ ds) = d * product bs + code bs ds

-- the digits of a number below the product of the sizes
abbrev pub word : List ℕ → ℕ → List ℕ
word [] n = []
word (b ∷ bs) n = (n / product bs) ∷ word bs (n % product bs)

-- the code of a word of the space, and the word with this code
unfoldable pub code_of : SpaceType → List ℕ → ℕ
code_of s w = code (sizes s) w

unfoldable pub word_of : SpaceType → ℕ → List ℕ
word_of s c = word (sizes s) c

-- laws

-- words and the numbers below the size correspond one to one
abbrev pub CodesCorrespond : Type 0
CodesCorrespond =
    (s : SpaceType) → HasFactors s →
    ((c : ℕ) → c < size s → IsWord s (word_of s c) × (code_of s (word_of s c) ≡ c))
    × ((w : List ℕ) → IsWord s w → (code_of s w < size s) × (word_of s (code_of s w) ≡ w))

-- whether the first list of digits is lexicographically before the second
abbrev pub is_before : List ℕ → List ℕ → Bool
is_before [] es = false
is_before (d ∷ ds) [] = false
is_before (d ∷ ds) (e ∷ es) = nat_lt d e || ((d == e) && is_before ds es)

-- ascending codes are the lexicographic order of words
abbrev pub CodesAreLexicographic : Type 0
CodesAreLexicographic =
    (s : SpaceType) (v w : List ℕ) → HasFactors s → IsWord s v → IsWord s w →
    (code_of s v < code_of s w) ↔ IsTrue (is_before v w)
