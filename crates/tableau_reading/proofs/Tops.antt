-- The weights of shapes, and their top words.
use Rattle.std.proofs.Common.{ℕ, ◌-◌, ◌*◌, ◌≤◌, length, get_or, pos, inl, inr, arith}
use Rattle.std.specs.Prelude.{sum, slice_index}
use Rattle.std.proofs.lemmas.Bool.{cases_lt}
use Rattle.std.proofs.lemmas.Int.{ints}
use Rattle.std.proofs.lemmas.List.{get_or_past}
use Rattle.crystal_cartan.specs.Types.{coordinates, coordinates_of}
use Rattle.crystal_cartan.specs.declared.types.Kind.{Kind}
use Rattle.crystal_cartan.specs.declared.types.Kind.TheVariants.{A, B, C, D}
use Rattle.vector_crystals.specs.Letters.{letter_count, letter_count_of}
use Rattle.crystal_cartan.specs.Weights.{IsSmall, IsSmallCoordinate}
use Rattle.tableau_reading.specs.Shapes.{ShapeType, IsShape, shape_weight}
use Rattle.tableau_reading.proofs.Rows.{few_boxes, row_within}
use Rattle.crystal_cartan.proofs.Bounds.{All-weight_from}

row_few : (s : ShapeType) (r : ℕ) → IsShape s → get_or s.rows r 0 ≤ 40
row_few s r h = elim (cases_lt r (length s.rows)) [
  | inl lt ↦ omega (arith, row_within s.rows r lt, few_boxes s.cartan (sum s.rows) h.small)
  | inr past ↦ omega (arith, get_or_past s.rows r 0 past)
]

pub small_shape_weight : (s : ShapeType) → IsShape s → IsSmall (shape_weight s)
small_shape_weight s h = All-weight_from IsSmallCoordinate (coordinates s.cartan) (λ j. pos (2 * slice_index s.rows (j - 1))) (λ j low high.
    let few = row_few s (j - 1) h in
    (omega (arith, ints, few), omega (arith, ints, few)))

-- each row has a letter of its own
pub rows_few : (s : ShapeType) → IsShape s → length s.rows ≤ letter_count s.cartan
rows_few s h = omega (arith, h.low, few s.cartan.kind s.cartan.rank)
  where
    few : (k : Kind) (r : ℕ) → coordinates_of k r ≤ letter_count_of k r
    few A r = omega arith
    few B r = omega arith
    few C r = omega arith
    few D r = omega arith
