-- Raising a word as far as it goes.
use Rattle.std.specs.Prelude.{ℕ, ◌+◌, ◌<◌, ◌≡◌, ◌≢◌, List, [], ◌∷◌, length, Some}
use Rattle.std.specs.List.{AllPairs}
use Rattle.crystal_cartan.specs.Types.{HasIndex}
use Rattle.tensor_words.specs.Spaces.{SpaceType}
use Rattle.tensor_words.specs.TensorRule.{action}
use Rattle.tensor_words.specs.Operators.{IsTop}

-- v is w raised by the least index whose eps is not zero
pub record IsLeastRaise (s : SpaceType) (w v : List ℕ) : Type 0 where
  pub at : ℕ
  pub index : HasIndex s.cartan at
  pub some : (action s at).eps w ≢ 0
  pub least : (i : ℕ) → HasIndex s.cartan i → i < at → (action s i).eps w ≡ 0
  pub raised : (action s at).raise w ≡ Some v

-- the words on the way from w to the top, each the one before it raised by the least index, both ends among them
pub data LiftsBy (s : SpaceType) : List ℕ → List ℕ → List (List ℕ) → Type 0 where
  at_top : (w : List ℕ) → IsTop s w → LiftsBy s w w (w ∷ [])
  raised : (w v top : List ℕ) (way : List (List ℕ)) → IsLeastRaise s w v → LiftsBy s v top way → LiftsBy s w top (w ∷ way)

-- w is lifted to the top by n raises; no word on the way comes twice
pub record IsLift (s : SpaceType) (w top : List ℕ) (n : ℕ) : Type 0 where
  pub way : List (List ℕ)
  pub lifted : LiftsBy s w top way
  pub count : length way ≡ n + 1
  pub distinct : AllPairs (λ u v. u ≢ v) way
  pub highest : IsTop s top
