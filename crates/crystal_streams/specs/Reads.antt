-- What a source gave up in a call, where it tells what is left.
use Rattle.std.specs.Prelude.{◌≡◌, ℕ, ◌≤◌, List, length, Option}
use Rattle.std.specs.Io.KnownBytes.{Consumes}

-- exactly `count` bytes were taken from the front
pub record TakesExactly (count : ℕ) (before after : Option (List ℕ)) : Type 0 where
  pub taken : List ℕ
  pub many : length taken ≡ count
  pub gone : Consumes before after taken

-- at most `most` bytes were taken from the front
pub record TakesAtMost (most : ℕ) (before after : Option (List ℕ)) : Type 0 where
  pub taken : List ℕ
  pub many : length taken ≤ most
  pub gone : Consumes before after taken
