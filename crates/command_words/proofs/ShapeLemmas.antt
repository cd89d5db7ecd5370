-- What a shape is that was made.
use Rattle.std.proofs.Common.{◌≡◌, ◌≤◌, ℕ, Bool, true, false, not, cond, nat_lt, refl, sym, ap, subst, List, length, sum, Result, Ok, Err, arith}
use Rattle.std.proofs.lemmas.Bool.Decides.{nat_tests}
use Rattle.crystal_cartan.specs.Types.{CartanType, IsCartan, coordinates}
use Rattle.tensor_words.specs.declared.spaces.Order.TheVariants.{Standard}
use Rattle.tableau_reading.specs.Shapes.{IsShape, ShapeType, is_empty, is_falling, is_large, shape_of, tableau_shape}
use Rattle.tableau_reading.specs.declared.shapes.ShapeFault.{ShapeFault}
use Rattle.tableau_reading.specs.declared.shapes.ShapeFault.TheVariants.{Empty, NotFalling, TooManyBoxes, TooTall}

record Passed (a b c d : Bool) (x y : ShapeType) : Type 0 where
  filled : a ≡ false
  falling : b ≡ true
  low : c ≡ false
  small : d ≡ false
  same : x ≡ y

passed : (a b c d : Bool) (x y : ShapeType)
    → ◌≡◌ {A = Result ShapeType ShapeFault} (cond a (Err Empty) (cond (not b) (Err NotFalling) (cond c (Err TooTall) (cond d (Err TooManyBoxes) (Ok x))))) (Ok y) → Passed a b c d x y
passed true b c d x y is = absurd (cc)
passed false false c d x y is = absurd (cc)
passed false true true d x y is = absurd (cc)
passed false true false true x y is = absurd (cc)
passed false true false false x y is = record { filled = refl; falling = refl; low = refl; small = refl; same = cc }

-- a made shape is one that is taken, has the type that it was made for, and is in the standard order
pub shape_made : (t : CartanType) (rows : List ℕ) (s : ShapeType) → IsCartan t → shape_of t rows ≡ Ok s → IsShape s × (s.cartan ≡ t) × (s.order ≡ Standard)
unfolding shape_of
shape_made t rows s cartan is =
    let p = passed (is_empty rows) (is_falling rows) (nat_lt (coordinates t) (length rows)) (is_large t (sum rows)) (tableau_shape t rows) s is in
    let low : length rows ≤ coordinates t = below (length rows) (coordinates t) p.low in
    let made : IsShape (tableau_shape t rows) = record { cartan = cartan; filled = p.filled; falling = p.falling; low = low; small = p.small } in
    (subst IsShape p.same made, sym (ap (λ (x : ShapeType). x.cartan) p.same), sym (ap (λ (x : ShapeType). x.order) p.same))
  where
    below : (n m : ℕ) → nat_lt m n ≡ false → n ≤ m
    below n m is = grind (arith, nat_tests)
