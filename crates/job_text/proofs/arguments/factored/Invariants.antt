use Rattle.std.proofs.Common.{◌≡◌, ◌++◌, length}
use Rattle.std.specs.Option.{option_map}
use Rattle.text_pieces.specs.Pieces.{words}
use Rattle.text_pieces.specs.Numbers.{all_some}
use Rattle.job_text.specs.Judge.{factor_of}
use Rattle.job_text.proofs.arguments.factored.Given as goal

abbrev pub invariant-words : goal.invariant-words
invariant-words l = option_map (λ read. l.factors ++ read) (all_some factor_of (words l.rest)) ≡ all_some factor_of (words l.text)

abbrev pub decreases-words : goal.decreases-words
decreases-words l = length l.rest
