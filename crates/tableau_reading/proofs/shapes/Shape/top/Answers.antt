use Rattle.std.proofs.Common.{◌≡◌, ◌<◌, ◌∙◌, sym, ap, subst, get_or, arith}
use Rattle.tensor_words.specs.Spaces.{SpaceType}
use Rattle.tensor_words.specs.Codes.{IsWord}
use Rattle.tensor_words.proofs.SpaceWords.{length_word}
use Rattle.tableau_reading.specs.Shapes.{shape_space, box_count}
use Rattle.tableau_reading.specs.Readings.{Box, box, boxes_read, top_word}
use Rattle.tableau_reading.proofs.Orders.{length-boxes_read}
use Rattle.tableau_reading.proofs.Tops.{rows_few}
use Rattle.tableau_reading.proofs.VectorSpaces.{vector_size, length-shape_space}
use Rattle.tableau_reading.proofs.Written.{written_more, written_all}
use Rattle.tableau_reading.proofs.shapes.Shape.top.Goals as goal

pub put-word-requires-clause-digit : goal.put-word-requires-clause-digit
put-word-requires-clause-digit c =
    let s = c.args.self.now in
    let lt : c.places.place < box_count c.args.self.now = omega (arith, c.places.invariant.last) in
    let few = rows_few s c.places.invariant.shape in
    rw (c.places.invariant.space, vector_size c.args.self.now c.places.place lt) (omega (arith, c.from.ensures, c.box_at-row.ensures.row, few))

pub places-preserved : goal.places-preserved
places-preserved c =
    let s = c.args.self.now in
    let size = length_word (shape_space s) c.places.word c.places.invariant.word ∙ length-shape_space s in
    let there : (get_or (boxes_read c.args.self.now) c.places.place (box 0 0)).row ≡ c.box_at-row.result.0 = ap (λ (b : Box). b.row) c.box_at-row.ensures.there in
    record {
      written = written_more (λ (b : Box). b.row) (boxes_read s) c.places.place c.places.word c.put-word.result c.from.result
          (omega (arith, size, c.places.invariant.last)) (c.from.ensures ∙ sym there) c.put-word.ensures.put c.places.invariant.written;
      word = subst (λ (space : SpaceType). IsWord space c.put-word.result) c.places.invariant.space c.put-word.ensures.word;
      space = c.places.invariant.space;
      last = c.places.invariant.last;
      shape = c.places.invariant.shape;
    }

pub returns-clause-top : goal.returns-clause-top
unfolding top_word
returns-clause-top c =
    let s = c.args.self.now in
    let size = length_word (shape_space s) c.places.word c.places.invariant.word ∙ length-shape_space s in
    let total = length-boxes_read s c.places.invariant.shape.falling in
    written_all (λ (b : Box). b.row) (boxes_read s) c.places.place c.places.word (size ∙ sym total) (omega (arith, total, c.places.invariant.last)) c.places.invariant.written
