-- Walks, reached words, component lists. They speak of codes; the walks over codes are those over the words.
use Rattle.std.specs.Prelude.{ℕ, ◌+◌, ◌<◌, ◌≡◌, nat_eq, ⊤, List, [], ◌∷◌, length, Option, Some, Contains}
use Rattle.std.specs.List.{IsDistinct}
use Rattle.std.specs.List.Sorted.{IsStrictlyIncreasing}
use Rattle.std.specs.Option.{option_map, option_and_then}
use Rattle.crystal_cartan.specs.declared.types.Arrow.{Arrow}
use Rattle.tensor_words.specs.Spaces.{SpaceType, HasFactors, size}
use Rattle.tensor_words.specs.Codes.{word_of}
use Rattle.tensor_words.specs.Operators.{IsArrow, acted, op}
use Rattle.tensor_words.specs.Worlds.{WorldType}

-- a path is a list of arrows of the type
abbrev pub IsPath : SpaceType → List Arrow → Type 0
IsPath s [] = ⊤
IsPath s (a ∷ path) = IsArrow s a × IsPath s path

-- the arrows of a path applied in turn: a code, or none where some step gives zero
unfoldable pub walk : SpaceType → List Arrow → ℕ → Option ℕ
walk s [] c = Some c
walk s (a ∷ path) c = option_and_then (walk s path) (op s a c)

-- the same over words
unfoldable pub word_walk : SpaceType → List Arrow → List ℕ → Option (List ℕ)
word_walk s [] w = Some w
word_walk s (a ∷ path) w = option_and_then (word_walk s path) (acted s a w)

-- the code's word is reached from the words with these codes, by lowering and raising alike
pub record IsReachedFrom (s : SpaceType) (roots : List ℕ) (c : ℕ) : Type 0 where
  pub root : ℕ
  pub rooted : Contains roots root
  pub path : List Arrow
  pub arrows : IsPath s path
  pub leads : walk s path root ≡ Some c

-- the code's word is reached from the roots of the world
abbrev pub IsReached : WorldType → ℕ → Type 0
IsReached w c = IsReachedFrom w.space w.roots c

-- the component list of a world: the codes of the reached words, ascending
pub record IsComponentList (w : WorldType) (codes : List ℕ) : Type 0 where
  pub ascending : IsStrictlyIncreasing codes
  pub sound : (c : ℕ) → Contains codes c → IsReached w c
  pub complete : (c : ℕ) → IsReached w c → Contains codes c

-- the reached words outnumber the cells: some `cells + 1` different codes have only reached words
pub record Outnumber (w : WorldType) : Type 0 where
  pub codes : List ℕ
  pub many : length codes ≡ w.cells + 1
  pub distinct : IsDistinct nat_eq codes
  pub sound : (c : ℕ) → Contains codes c → IsReached w c

-- laws

-- the walk over codes is the walk over their words
abbrev pub WalksAgree : Type 0
WalksAgree =
    (s : SpaceType) (path : List Arrow) (c : ℕ) → HasFactors s → IsPath s path → c < size s →
    word_walk s path (word_of s c) ≡ option_map (word_of s) (walk s path c)

-- there is at most one component list
abbrev pub ComponentListIsUnique : Type 0
ComponentListIsUnique =
    (w : WorldType) (xs ys : List ℕ) → IsComponentList w xs → IsComponentList w ys → xs ≡ ys
