-- The fields of a shape from its type and its list of rows.
use Rattle.std.specs.Prelude.{◌≡◌, ℕ, List, length, take}
use Rattle.std.proofs.Common.{ap₂}
use Rattle.crystal_cartan.specs.Padded.{padded, IsPadded, length-take_padded, padded-take}
use Rattle.tableau_reading.specs.declared.shapes.Shape.TheInside.{Inside}
use Rattle.tableau_reading.specs.Shapes.{ShapeType, tableau_shape, shape_in}

abbrev pub shape_fields : ShapeType → Inside
shape_fields s = record { cartan = s.cartan; rows = padded 0 9 s.rows; count = length s.rows; order = s.order }

-- the shape that is seen of fields
abbrev pub shape_seen : Inside → ShapeType
shape_seen a = shape_in a.order (tableau_shape a.cartan (take a.count a.rows))

pub shape_fields-view : (a : Inside) → IsPadded 0 9 a.count a.rows → shape_fields (shape_seen a) ≡ a
shape_fields-view a p =
    ap₂ shape_with (padded-take 0 9 a.count a.rows p) (length-take_padded 0 9 a.count a.rows p)
  where
    shape_with : List ℕ → ℕ → Inside
    shape_with rows n = record { cartan = a.cartan; rows = rows; count = n; order = a.order }
