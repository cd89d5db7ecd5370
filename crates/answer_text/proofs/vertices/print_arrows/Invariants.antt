use Rattle.std.proofs.Common.{◌≡◌, ◌+◌, ◌*◌, ◌≤◌, length}
use Rattle.answer_text.proofs.Spacing.{IsPrinted}
use Rattle.answer_text.proofs.vertices.print_arrows.Given as goal

abbrev pub invariant-indices : goal.invariant-indices
invariant-indices l = record {
  printed : IsPrinted l.finished l.rank l.place l.fn.out l.out l.first;
  fits : length l.out ≤ length l.fn.out + 22 * l.place;
  last : l.place-end ≡ l.finished.space.cartan.rank;
  small : l.place-end ≤ 8;
}
