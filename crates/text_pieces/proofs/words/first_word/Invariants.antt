use Rattle.std.proofs.Common.{◌≡◌, ◌≤◌, length}
use Rattle.text_pieces.specs.Pieces.{words}
use Rattle.text_pieces.proofs.words.first_word.Given as goal

abbrev pub invariant-loop-behind : goal.invariant-loop-behind
invariant-loop-behind l = record {
  same : words l.rest ≡ words l.text;
  within : length l.rest ≤ length l.text;
}

abbrev pub decreases-loop-behind : goal.decreases-loop-behind
decreases-loop-behind l = length l.rest
