use Rattle.std.proofs.Common.{◌≡◌}
use Rattle.vector_crystals.specs.Letters.{letter_digit}
use Rattle.tensor_words.specs.Codes.{IsWord}
use Rattle.tableau_reading.specs.Shapes.{IsShape, shape_space, box_count}
use Rattle.tableau_reading.specs.Readings.{Box, boxes_read}
use Rattle.tableau_reading.specs.Fillings.{letter_in}
use Rattle.tableau_reading.proofs.Written.{IsWrittenTo}
use Rattle.tableau_reading.proofs.shapes.Shape.word_of_rows.Given as goal

abbrev pub invariant-places : goal.invariant-places
invariant-places l = record {
  written : IsWrittenTo (λ (b : Box). letter_digit l.filling.shape.cartan (letter_in l.filling b.row b.column)) (boxes_read l.filling.shape) l.place l.word;
  word : IsWord (shape_space l.self) l.word;
  space : l.space ≡ shape_space l.self;
  cartan : l.cartan ≡ l.self.cartan;
  last : l.place-end ≡ box_count l.self;
  shape : IsShape l.self;
  same : l.filling.shape ≡ l.self;
}
