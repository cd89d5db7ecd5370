use Rattle.std.proofs.Common.{◌≡◌, ℕ, ◌-◌, ◌*◌, ◌≤◌, length, get_or}
use Rattle.crystal_cartan.specs.Types.{HasIndex}
use Rattle.signature_rule.specs.Places.{entry_place}
use Rattle.signature_rule.proofs.PassSteps.{IsLowerPass}
use Rattle.signature_rule.proofs.BothPasses.{IsBottomPass}
use Rattle.signature_rule.proofs.places.places_of.Given as goal

abbrev pub invariant-factors : goal.invariant-factors
invariant-factors l = record {
  few : (j : ℕ) → get_or l.open j 0 ≤ 2 * l.place;
  size : length l.open ≡ 8;
  last : (i : ℕ) → HasIndex l.steps.cartan i → IsLowerPass l.steps i l.word l.place (get_or l.open (i - 1) 0) (entry_place (get_or l.last_closing (i - 1) 0));
  first : (i : ℕ) → HasIndex l.steps.cartan i → IsBottomPass l.steps i l.word l.place (get_or l.open (i - 1) 0) (entry_place (get_or l.first_opening (i - 1) 0));
}
