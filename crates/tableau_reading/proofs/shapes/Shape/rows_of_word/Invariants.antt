use Rattle.std.proofs.Common.{◌≡◌, length}
use Rattle.tensor_words.specs.Codes.{IsWord}
use Rattle.tableau_reading.specs.Shapes.{IsShape, shape_space, box_count}
use Rattle.tableau_reading.specs.Fillings.{AreLetters}
use Rattle.tableau_reading.proofs.FilledRows.{AreLettersOf}
use Rattle.tableau_reading.proofs.shapes.Shape.rows_of_word.Given as goal

abbrev pub invariant-places : goal.invariant-places
invariant-places l = record {
  read : AreLettersOf l.self.cartan l.place l.word l.letters;
  letters : AreLetters l.self.cartan l.place l.letters;
  size : length l.letters ≡ 40;
  word : IsWord (shape_space l.self) l.word;
  space : l.space ≡ shape_space l.self;
  cartan : l.cartan ≡ l.self.cartan;
  last : l.place-end ≡ box_count l.self;
  shape : IsShape l.self;
}
