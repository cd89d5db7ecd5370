use Rattle.std.proofs.Common.{◌≡◌, length}
use Rattle.tensor_words.specs.Spaces.{IsSpace}
use Rattle.tableau_reading.specs.Texts.{tokens}
use Rattle.tableau_reading.proofs.Spacing.{IsPrintedTo}
use Rattle.tableau_reading.proofs.printing.print_word.Given as goal

abbrev pub invariant-places : goal.invariant-places
invariant-places l = record {
  printed : IsPrintedTo l.fn.out l.out l.place (tokens l.space l.word);
  last : l.place-end ≡ length l.space.factors;
  space : IsSpace l.space;
}
