use Rattle.std.proofs.Common.{◌≡◌, ◌+◌, ◌≤◌, length}
use Rattle.text_pieces.specs.Pieces.{words}
use Rattle.text_pieces.proofs.words.count_words.Given as goal

abbrev pub invariant-loop-next : goal.invariant-loop-next
invariant-loop-next l = record {
  counted : l.count + length (words l.rest) ≡ length (words l.text);
  within : l.count + length l.rest ≤ length l.text;
}

abbrev pub decreases-loop-next : goal.decreases-loop-next
decreases-loop-next l = length l.rest
