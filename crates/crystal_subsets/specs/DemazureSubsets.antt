-- Demazure subsets of a crystal (Bump and Schilling, Crystal Bases, 2017, chapter 13), over the codes of words.
-- Over a highest weight element, along a reduced word, such a subset is a Demazure crystal of Kashiwara's.
use Rattle.std.specs.Prelude.{ℕ, ◌≡◌, List, [], ◌∷◌, Some}
use Rattle.tensor_words.specs.Spaces.{SpaceType}
use Rattle.tensor_words.specs.Operators.{op}
use Rattle.canonical_graph.specs.Graphs.{lowering}

-- x is f_i applied to y some number of times, none giving zero
pub data IsLowered (s : SpaceType) (i : ℕ) : ℕ → ℕ → Type 0 where
  no_times : (y : ℕ) → IsLowered s i y y
  once_more : (y z x : ℕ) → op s (lowering i) y ≡ Some z → IsLowered s i z x → IsLowered s i y x

-- x is in the Demazure subset of a list of indices over b: the list is empty and x is b, or the list is i followed by
-- a rest, and x is f_i applied some number of times to a member y of the subset of the rest; so the last index acts first
abbrev pub Demazure : SpaceType → ℕ → List ℕ → ℕ → Type 0
Demazure s b [] x = x ≡ b
Demazure s b (i ∷ rest) x = (y : ℕ) × Demazure s b rest y × IsLowered s i y x
