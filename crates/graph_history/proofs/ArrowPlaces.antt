-- The places of arrows in rows of words.
use Rattle.std.proofs.Common.{◌≡◌, refl, ℕ, ◌+◌, ◌-◌, ◌*◌, ◌<◌, ◌≤◌, Bool, true, false, if◌then◌else◌, arith}
use Rattle.std.proofs.Math.Arith.{digits_lt}
use Rattle.std.proofs.lemmas.Nat.{same_from_place}
use Rattle.crystal_cartan.specs.declared.types.Arrow.{Arrow}
use Rattle.tensor_words.specs.Operators.{IsArrow}
use Rattle.tensor_words.specs.Worlds.{WorldType}
use Rattle.signature_rule.specs.ArrowOrder.{arrow_place}
use Rattle.graph_history.specs.ArrowRows.{edge_place}

pub place_fits : (rank : ℕ) (a : Arrow) → 1 ≤ a.index → a.index ≤ rank → arrow_place rank a < 2 * rank
place_fits rank a low high = by a.down
  where
    by : (b : Bool) → (if b then a.index - 1 else rank + (a.index - 1)) < 2 * rank
    by true = omega arith
    by false = omega arith

same_place_arrow : (rank i j : ℕ) (p q : Bool) → 1 ≤ i → i ≤ rank → 1 ≤ j → j ≤ rank → (if p then i - 1 else rank + (i - 1)) ≡ (if q then j - 1 else rank + (j - 1)) → (p ≡ q) × (i ≡ j)
same_place_arrow rank i j true true a b c d e = (refl, omega arith)
same_place_arrow rank i j true false a b c d e = absurd (omega arith)
same_place_arrow rank i j false true a b c d e = absurd (omega arith)
same_place_arrow rank i j false false a b c d e = (refl, omega arith)

pub same_place : (w : WorldType) (c d : ℕ) (a b : Arrow) → IsArrow w.space a → IsArrow w.space b → edge_place w.space.cartan.rank c a ≡ edge_place w.space.cartan.rank d b → (c ≡ d) × (a ≡ b)
same_place w c d a b is js e =
    let rank = w.space.cartan.rank in
    let cells = same_from_place c (arrow_place rank a) d (arrow_place rank b) (2 * rank)
    (place_fits rank a is.index.low is.index.high) (place_fits rank b js.index.low js.index.high) e in
    let parts = same_place_arrow rank a.index b.index a.down b.down is.index.low is.index.high js.index.low js.index.high cells.1 in
    (cells.0, λ k. record { down = parts.0 k; index = parts.1 k })

pub edge_fits : (w : WorldType) (n c : ℕ) (a : Arrow) → c < n → IsArrow w.space a → edge_place w.space.cartan.rank c a < n * (2 * w.space.cartan.rank)
edge_fits w n c a below is = digits_lt below (place_fits w.space.cartan.rank a is.index.low is.index.high)
