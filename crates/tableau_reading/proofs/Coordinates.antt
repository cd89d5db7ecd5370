-- Texts of coordinates.
use Rattle.std.proofs.Common.{◌≡◌, refl, ℕ, ◌+◌, ◌-◌, ◌/◌, ◌%◌, ◌≤◌, ◌<◌, ◌==◌, true, false, List, [], ◌∷◌, ◌++◌, length, map, get_or, ℤ, pos, length-append, arith, if◌then◌else◌}
use Rattle.std.specs.Prelude.{decimal}
use Rattle.std.proofs.lemmas.Bool.Decides.{nat_tests}
use Rattle.std.proofs.lemmas.Fmt.{length-decimal-le}
use Rattle.std.proofs.lemmas.List.{get_or-map}
use Rattle.crystal_cartan.specs.Weights.{coordinate}
use Rattle.tableau_reading.specs.Texts.{half_text, coordinate_text}

pub half_short : (n : ℕ) → n ≤ 1000 → length (half_text n) ≤ 5
half_short n small =
    elim (n % 2 == 0) as (λ b. (n % 2 == 0) ≡ b → length (if b then decimal (n / 2) else decimal n ++ 47 ∷ 50 ∷ []) ≤ 5) [
      | true ↦ λ even. omega (arith, length-decimal-le 3 (n / 2) (omega arith) (omega arith) (omega arith))
      | false ↦ λ odd.
          let less : n < 1000 = below odd in
          omega (arith, length-append (decimal n) (47 ∷ 50 ∷ []), length-decimal-le 3 n (omega arith) (omega arith) (omega arith))
    ] refl
  where
    below : (n % 2 == 0) ≡ false → n < 1000
    below odd = grind (arith, nat_tests)

-- the text of the coordinate that stands behind n others
pub text_at : (w : List ℤ) (n : ℕ) → n < length w → coordinate_text (coordinate w (n + 1)) ≡ get_or (map coordinate_text w) n []
text_at w n lt =
    let place : n + 1 - 1 ≡ n = omega arith in
    rw (place, get_or-map coordinate_text w n (pos 0) [] lt) refl
