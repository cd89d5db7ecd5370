use Rattle.std.proofs.Common.{◌≡◌, ◌+◌, ◌*◌, ◌≤◌, length, map}
use Rattle.tableau_reading.specs.Texts.{coordinate_text}
use Rattle.tableau_reading.proofs.Spacing.{IsPrintedTo}
use Rattle.tableau_reading.proofs.printing.print_weight.Given as goal

abbrev pub invariant-places : goal.invariant-places
invariant-places l = record {
  printed : IsPrintedTo l.fn.out l.out l.place (map coordinate_text l.weight);
  fits : length l.out ≤ length l.fn.out + 7 * l.place;
  last : l.place-end ≡ length l.weight;
  few : l.place-end ≤ 9;
}
