use Rattle.std.proofs.Common.{◌≡◌, ◌+◌, ◌*◌, ◌≤◌, ◌++◌, length, take}
use Rattle.answer_text.specs.Asks.{listed}
use Rattle.answer_text.proofs.asks.print_rows.Given as goal

abbrev pub invariant-rows : goal.invariant-rows
invariant-rows l = record {
  printed : l.line ≡ l.fn.line ++ listed (take l.place l.shape.rows);
  fits : length l.line ≤ length l.fn.line + 21 * l.place;
  last : l.place-end ≡ length l.shape.rows;
  few : l.place-end ≤ 9;
}
