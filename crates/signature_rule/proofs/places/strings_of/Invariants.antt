use Rattle.std.proofs.Common.{◌≡◌, ℕ, ◌-◌, ◌*◌, ◌≤◌, length, get_or}
use Rattle.crystal_cartan.specs.Types.{HasIndex}
use Rattle.signature_rule.proofs.PassSteps.{IsEpsPass}
use Rattle.signature_rule.proofs.Lanes.{IsClosingPass}
use Rattle.signature_rule.proofs.places.strings_of.Given as goal

abbrev pub invariant-factors : goal.invariant-factors
invariant-factors l = record {
  few_open : (j : ℕ) → get_or l.open j 0 ≤ 2 * l.place;
  few_left : (j : ℕ) → get_or l.left_over j 0 ≤ 2 * l.place;
  open_size : length l.open ≡ 8;
  left_size : length l.left_over ≡ 8;
  opened : (i : ℕ) → HasIndex l.steps.cartan i → IsEpsPass l.steps i l.word l.place (get_or l.open (i - 1) 0);
  left : (i : ℕ) → HasIndex l.steps.cartan i → IsClosingPass l.steps i l.word l.place (get_or l.open (i - 1) 0) (get_or l.left_over (i - 1) 0);
}
