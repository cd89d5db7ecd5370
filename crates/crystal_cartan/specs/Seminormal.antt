-- The laws of a seminormal crystal, at one index and one element (Bump and Schilling, Crystal Bases, 2017, section 2.2).
use Rattle.std.specs.Prelude.{ℕ, ◌+◌, ◌≡◌, ◌↔◌, List, Some, None, ℤ, pos, ◌-ℤ◌}
use Rattle.crystal_cartan.specs.Types.{CartanType}
use Rattle.crystal_cartan.specs.Weights.{IsPairing, difference_of, root}
use Rattle.crystal_cartan.specs.Crystals.{Action}

-- What the index i does at x: raising undoes lowering and the reverse; phi and eps are the lengths of the strings from x,
-- since each step takes one from one and adds it to the other, and there is no step just where the length is 0;
-- phi - eps is the pairing with the weight; lowering subtracts the simple root.
pub record IsSeminormal {E : Type 0} (t : CartanType) (i : ℕ) (act : Action E) (weight : E → List ℤ) (x : E) : Type 0 where
  pub raised_back : (y : E) → act.lower x ≡ Some y → act.raise y ≡ Some x
  pub lowered_back : (y : E) → act.raise x ≡ Some y → act.lower y ≡ Some x
  pub lower_ends : (act.lower x ≡ None) ↔ (act.phi x ≡ 0)
  pub raise_ends : (act.raise x ≡ None) ↔ (act.eps x ≡ 0)
  pub lower_counts : (y : E) → act.lower x ≡ Some y → (act.phi x ≡ act.phi y + 1) × (act.eps y ≡ act.eps x + 1)
  pub raise_counts : (y : E) → act.raise x ≡ Some y → (act.eps x ≡ act.eps y + 1) × (act.phi y ≡ act.phi x + 1)
  pub balanced : IsPairing t (weight x) i (pos (act.phi x) -ℤ pos (act.eps x))
  pub weight_falls : (y : E) → act.lower x ≡ Some y → weight y ≡ difference_of (weight x) (root t i)
