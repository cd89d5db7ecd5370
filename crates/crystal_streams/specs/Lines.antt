-- Lines of a text.
use Rattle.std.specs.Prelude.{ℕ, List, [], ◌∷◌, ◌++◌}

-- a line with its end, the byte 10
abbrev pub ended : List ℕ → List ℕ
ended line = line ++ 10 ∷ []
