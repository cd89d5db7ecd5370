use Rattle.std.proofs.Common.{◌≡◌, ◌+◌, ◌*◌, ◌≤◌, ◌++◌, length, take}
use Rattle.answer_text.specs.Asks.{listed}
use Rattle.answer_text.proofs.asks.print_indices.Given as goal

abbrev pub invariant-indices : goal.invariant-indices
invariant-indices l = record {
  printed : l.line ≡ l.fn.line ++ listed (take l.index-index l.indices);
  fits : length l.line ≤ length l.fn.line + 2 * l.index-index;
}
