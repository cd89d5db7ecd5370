use Rattle.std.proofs.Common.{◌≡◌, ◌+◌, length}
use Rattle.tensor_words.specs.Codes.{IsWord}
use Rattle.text_pieces.specs.Pieces.{words}
use Rattle.tableau_reading.proofs.TokenSteps.{IsReadUpTo}
use Rattle.tableau_reading.proofs.parsing.read_word.Given as goal

abbrev pub invariant-places : goal.invariant-places
invariant-places l = record {
  read : IsReadUpTo l.space (words l.text) (words l.rest) l.place l.word;
  left : length (words l.rest) + l.place ≡ length l.space.factors;
  word : IsWord l.space l.word;
}
