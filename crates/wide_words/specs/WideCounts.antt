-- How many words are reached from the roots of a world, and how many arrows are drawn between them.
use Rattle.std.specs.Prelude.{ℕ, ◌≡◌, true, List, length, is_some, count_by, sum_by}
use Rattle.std.specs.List.{range_with_len}
use Rattle.tensor_words.specs.Spaces.{SpaceType}
use Rattle.tensor_words.specs.Operators.{op}
use Rattle.tensor_words.specs.Worlds.{WorldType}
use Rattle.tensor_words.specs.Reach.{IsComponentList}

-- the number of lowering operators that do not give zero at the word with this code
abbrev pub arrows_at : SpaceType → ℕ → ℕ
arrows_at s x = count_by (λ i. is_some (op s (record { down = true; index = i }) x)) (range_with_len 1 s.cartan.rank)

-- the number of lowering arrows that begin at these words
abbrev pub arrow_sum : SpaceType → List ℕ → ℕ
arrow_sum s codes = sum_by (arrows_at s) codes

-- so many words are reached from the roots, and so many lowering arrows join them
pub record AreReached (w : WorldType) (vertices arrows : ℕ) : Type 0 where
  pub codes : List ℕ
  pub component : IsComponentList w codes
  pub many : vertices ≡ length codes
  pub drawn : arrows ≡ arrow_sum w.space codes
