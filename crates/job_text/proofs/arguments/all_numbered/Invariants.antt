use Rattle.std.proofs.Common.{◌≡◌, ◌+◌, ◌++◌, length}
use Rattle.std.specs.Option.{option_map}
use Rattle.text_pieces.specs.Pieces.{words}
use Rattle.text_pieces.specs.Numbers.{all_some, number_of}
use Rattle.job_text.proofs.arguments.all_numbered.Given as goal

abbrev pub invariant-words : goal.invariant-words
invariant-words l = record {
  read : option_map (λ read. l.numbers ++ read) (all_some number_of (words l.rest)) ≡ all_some number_of (words l.text);
  count : length l.numbers + length (words l.rest) ≡ length (words l.text);
}

abbrev pub decreases-words : goal.decreases-words
decreases-words l = length l.rest
