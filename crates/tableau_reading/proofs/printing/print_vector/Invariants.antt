use Rattle.std.proofs.Common.{◌≡◌, ◌+◌, ◌≤◌, ◌++◌, length}
use Rattle.spin_crystals.specs.Signs.{signs_of_number}
use Rattle.tableau_reading.specs.Texts.{signs_text}
use Rattle.tableau_reading.proofs.printing.print_vector.Given as goal

abbrev pub invariant-signs : goal.invariant-signs
invariant-signs l = record {
  printed : l.out ++ signs_text (signs_of_number l.left l.signs.bits) ≡ l.fn.out ++ signs_text (signs_of_number l.signs.size l.signs.bits);
  fits : length l.out + l.left ≤ length l.fn.out + l.signs.size;
  few : l.left ≤ l.signs.size;
}

abbrev pub decreases-signs : goal.decreases-signs
decreases-signs l = l.left
