-- Weights in lexicographic order, their multiplicities, and characters.
use Rattle.std.specs.Prelude.{ℕ, ◌+◌, ◌≡◌, ◌↔◌, Bool, List, [], ◌∷◌, map, fold, count_by, All, AllPairs, Contains, ℤ}
use Rattle.std.specs.Ordering.{int_cmp, is_eq, match_ordering}
use Rattle.std.specs.declared.cmp.Ordering.{Ordering}
use Rattle.std.specs.declared.cmp.Ordering.TheVariants.{Greater}
use Rattle.std.specs.Cmp.Lexicographic.{slice_cmp}
use Rattle.tensor_words.specs.Spaces.{SpaceType, word_weight}
use Rattle.tensor_words.specs.Codes.{word_of}
use Rattle.canonical_graph.specs.Graphs.{FinishedType, code_at}
use Rattle.crystal_characters.specs.declared.tallies.Multiplicity.{Multiplicity}

-- two weights in lexicographic order: the first coordinate that differs decides
abbrev pub weight_order : List ℤ → List ℤ → Ordering
weight_order v w = slice_cmp int_cmp v w

abbrev pub is_same_weight : List ℤ → List ℤ → Bool
is_same_weight v w = is_eq (weight_order v w)

-- the weight of the word with this code, and of the vertex of this rank
abbrev pub code_weight : SpaceType → ℕ → List ℤ
code_weight s c = word_weight s (word_of s c)

abbrev pub vertex_weight : FinishedType → ℕ → List ℤ
vertex_weight f rank = code_weight f.space (code_at f rank)

-- the weights of the vertices, in ascending rank
abbrev pub weights_of : FinishedType → List (List ℤ)
weights_of f = map (code_weight f.space) f.codes

-- the multiplicity of a weight: the number of codes whose word has it
abbrev pub multiplicity : FinishedType → List ℤ → ℕ
multiplicity f w = count_by (λ c. is_same_weight (code_weight f.space c) w) f.codes

-- a weight that occurs once, and one that occurs once more
abbrev pub once : List ℤ → Multiplicity
once w = record { weight = w; times = 1 }

abbrev pub once_more : Multiplicity → Multiplicity
once_more m = record { weight = m.weight; times = m.times + 1 }

-- a falling list of weights with their multiplicities, after one more occurrence of a weight
abbrev pub counted : List Multiplicity → List ℤ → List Multiplicity
counted [] w = once w ∷ []
counted (m ∷ ms) w = match_ordering (weight_order w m.weight) (m ∷ counted ms w) (once_more m ∷ ms) (once w ∷ m ∷ ms)

-- the weights of a list counted one after another
unfoldable pub tally : List (List ℤ) → List Multiplicity
tally ws = fold counted [] ws

-- each weight of the list is above every later one
abbrev pub IsFalling : List Multiplicity → Type 0
IsFalling ms = AllPairs (λ m n. weight_order m.weight n.weight ≡ Greater) ms

-- the character of a finished graph: the weights that occur, falling, each with its multiplicity
pub record IsCharacter (f : FinishedType) (ms : List Multiplicity) : Type 0 where
  pub falling : IsFalling ms
  pub listed : (w : List ℤ) → Contains (map (λ m. m.weight) ms) w ↔ Contains (weights_of f) w
  pub times : All (λ m. m.times ≡ multiplicity f m.weight) ms

-- laws

-- a graph has at most one character
abbrev pub CharactersAreUnique : Type 0
CharactersAreUnique = (f : FinishedType) (ms ns : List Multiplicity) → IsCharacter f ms → IsCharacter f ns → ms ≡ ns

-- the weights that occur in a list, falling, each with its number of occurrences
pub record IsTally (ws : List (List ℤ)) (ms : List Multiplicity) : Type 0 where
  pub falling : IsFalling ms
  pub listed : (w : List ℤ) → Contains (map (λ m. m.weight) ms) w ↔ Contains ws w
  pub times : All (λ m. m.times ≡ count_by (λ w. is_same_weight w m.weight) ws) ms

-- the tally of a list is just that
abbrev pub TalliesAreExact : Type 0
TalliesAreExact = (ws : List (List ℤ)) → IsTally ws (tally ws)
