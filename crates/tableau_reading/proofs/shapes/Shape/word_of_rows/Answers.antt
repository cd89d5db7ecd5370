use Rattle.std.proofs.Common.{◌≡◌, ◌<◌, ◌∙◌, sym, ap, ap₂, subst, arith}
use Rattle.crystal_cartan.specs.Types.{CartanType}
use Rattle.vector_crystals.specs.Letters.{letter_digit}
use Rattle.tensor_words.specs.Spaces.{SpaceType}
use Rattle.tensor_words.specs.Codes.{IsWord}
use Rattle.tensor_words.proofs.SpaceWords.{length_word}
use Rattle.tableau_reading.specs.Shapes.{ShapeType, shape_space, box_count}
use Rattle.tableau_reading.specs.Readings.{Box, boxes_read}
use Rattle.tableau_reading.specs.Fillings.{letter_in, filling_of, filling_word}
use Rattle.tableau_reading.proofs.Orders.{length-boxes_read}
use Rattle.tableau_reading.proofs.VectorSpaces.{vector_size, length-shape_space}
use Rattle.tableau_reading.proofs.Written.{written_more, written_all}
use Rattle.tableau_reading.proofs.FilledRows.{filling_again}
use Rattle.tableau_reading.proofs.shapes.Shape.word_of_rows.Goals as goal

pub put-word-requires-clause-digit : goal.put-word-requires-clause-digit
put-word-requires-clause-digit c =
    let lt : c.places.place < box_count c.args.self.now = omega (arith, c.places.invariant.last) in
    let below = rw c.places.invariant.cartan at c.letter_digit-digit.ensures.below in
    rw (c.places.invariant.space, vector_size c.args.self.now c.places.place lt) below

pub places-preserved : goal.places-preserved
places-preserved c =
    let s = c.args.self.now in
    let size = length_word (shape_space s) c.places.word c.places.invariant.word ∙ length-shape_space s in
    let cartan : c.cartan-cartan.result ≡ c.args.filling.now.shape.cartan = c.places.invariant.cartan ∙ sym (ap (λ (t : ShapeType). t.cartan) c.places.invariant.same) in
    let value : c.letter_digit-digit.result ≡ letter_digit c.cartan-cartan.result c.letter_at.result.0 = c.letter_digit-digit.ensures.value in
    record {
      written = written_more (λ (b : Box). letter_digit c.args.filling.now.shape.cartan (letter_in c.args.filling.now b.row b.column)) (boxes_read c.args.filling.now.shape)
          c.places.place c.places.word c.put-word.result c.letter_digit-digit.result (omega (arith, size, c.places.invariant.last))
          (value ∙ ap₂ (λ (t : CartanType) x. letter_digit t x) cartan c.letter_at.ensures.letter) c.put-word.ensures.put c.places.invariant.written;
      word = subst (λ (space : SpaceType). IsWord space c.put-word.result) c.places.invariant.space c.put-word.ensures.word;
      space = c.places.invariant.space;
      cartan = c.places.invariant.cartan;
      last = c.places.invariant.last;
      shape = c.places.invariant.shape;
      same = c.places.invariant.same;
    }

pub returns-clause-value : goal.returns-clause-value
returns-clause-value c =
    let s = c.args.self.now in
    let size = length_word (shape_space s) c.places.word c.places.invariant.word ∙ length-shape_space s in
    let total = length-boxes_read c.args.filling.now.shape c.shape-shape.ensures.filling.shape.falling in
    let count : box_count c.args.filling.now.shape ≡ box_count c.args.self.now = ap box_count c.places.invariant.same in
    written_all (λ (b : Box). letter_digit c.args.filling.now.shape.cartan (letter_in c.args.filling.now b.row b.column)) (boxes_read c.args.filling.now.shape)
    c.places.place c.places.word (size ∙ sym (total ∙ count)) (omega (arith, total, count, c.places.invariant.last)) c.places.invariant.written

pub returns-clause-back : goal.returns-clause-back
returns-clause-back c =
    let s = c.args.self.now in
    let size = length_word (shape_space s) c.places.word c.places.invariant.word ∙ length-shape_space s in
    let total = length-boxes_read c.args.filling.now.shape c.shape-shape.ensures.filling.shape.falling in
    let count : box_count c.args.filling.now.shape ≡ box_count c.args.self.now = ap box_count c.places.invariant.same in
    let value : c.places.word ≡ filling_word c.args.filling.now =
    written_all (λ (b : Box). letter_digit c.args.filling.now.shape.cartan (letter_in c.args.filling.now b.row b.column)) (boxes_read c.args.filling.now.shape)
    c.places.place c.places.word (size ∙ sym (total ∙ count)) (omega (arith, total, count, c.places.invariant.last)) c.places.invariant.written in
    ap₂ (λ (t : ShapeType) w. filling_of t w) (sym c.places.invariant.same) value ∙ filling_again c.args.filling.now c.shape-shape.ensures.filling
