use Rattle.std.proofs.Common.{◌≡◌}
use Rattle.tensor_words.specs.Codes.{IsWord}
use Rattle.tableau_reading.specs.Shapes.{IsShape, shape_space, box_count}
use Rattle.tableau_reading.specs.Readings.{Box, boxes_read}
use Rattle.tableau_reading.proofs.Written.{IsWrittenTo}
use Rattle.tableau_reading.proofs.shapes.Shape.top.Given as goal

abbrev pub invariant-places : goal.invariant-places
invariant-places l = record {
  written : IsWrittenTo (λ (b : Box). b.row) (boxes_read l.self) l.place l.word;
  word : IsWord (shape_space l.self) l.word;
  space : l.space ≡ shape_space l.self;
  last : l.place-end ≡ box_count l.self;
  shape : IsShape l.self;
}
