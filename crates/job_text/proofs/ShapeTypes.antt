-- A shape that is taken has the type that it was asked of.
use Rattle.std.proofs.Common.{◌≡◌, ℕ, nat_lt, not, Bool, true, false, if◌then◌else◌, List, length, sum, Result, Ok, Err}
use Rattle.crystal_cartan.specs.Types.{CartanType, coordinates}
use Rattle.tableau_reading.specs.declared.shapes.ShapeFault.{ShapeFault}
use Rattle.tableau_reading.specs.declared.shapes.ShapeFault.TheVariants.{Empty, NotFalling, TooTall, TooManyBoxes}
use Rattle.tableau_reading.specs.Shapes.{ShapeType, tableau_shape, is_empty, is_falling, is_large, shape_of}

judged : CartanType → List ℕ → Bool → Bool → Bool → Bool → Result ShapeType ShapeFault
judged t rows empty rising tall large =
    if empty then Err Empty else if rising then Err NotFalling else if tall then Err TooTall else if large then Err TooManyBoxes
    else Ok (tableau_shape t rows)

type_of_judged : (t : CartanType) (rows : List ℕ) (s : ShapeType) (empty rising tall large : Bool) → judged t rows empty rising tall large ≡ Ok s → s.cartan ≡ t
unfolding judged
type_of_judged t rows s true rising tall large is = cc
type_of_judged t rows s false true tall large is = cc
type_of_judged t rows s false false true large is = cc
type_of_judged t rows s false false false true is = cc
type_of_judged t rows s false false false false is = cc

pub type_stays : (t : CartanType) (rows : List ℕ) (s : ShapeType) → shape_of t rows ≡ Ok s → s.cartan ≡ t
unfolding judged shape_of
type_stays t rows s is =
    type_of_judged t rows s (is_empty rows) (not (is_falling rows)) (nat_lt (coordinates t) (length rows)) (is_large t (sum rows)) is
