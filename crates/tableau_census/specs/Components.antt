-- The component that a shape's top word lies in.
use Rattle.std.specs.Prelude.{ℕ, [], ◌∷◌}
use Rattle.tensor_words.specs.Codes.{code_of}
use Rattle.tensor_words.specs.Worlds.{WorldType}
use Rattle.tableau_reading.specs.Shapes.{ShapeType, shape_space}
use Rattle.tableau_reading.specs.Readings.{top_word}

-- the words that fill the shape, growing from its top word alone
abbrev pub shape_world : ShapeType → ℕ → WorldType
shape_world s cells = record { space = shape_space s; cells = cells; roots = code_of (shape_space s) (top_word s) ∷ [] }
