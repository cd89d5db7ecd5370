use Rattle.std.proofs.Common.{◌≡◌, ◌∙◌, ap, slice_index, arith}
use Rattle.vector_crystals.specs.Letters.{letter_count}
use Rattle.tableau_reading.proofs.Boxes.{in_column}
use Rattle.tableau_reading.proofs.FilledRows.{digit_of_word}
use Rattle.tableau_census.proofs.ShapeWords.{length_of_word}
use Rattle.tableau_census.proofs.Completing.{beneath, bound_from_beneath, bound_from_count}
use Rattle.tableau_census.proofs.counting.bound.Goals as goal

pub overflow_add-row : goal.overflow_add-row
overflow_add-row c = omega (arith, in_column c.args.shape.now.rows c.args.row c.args.column c.height-height.ensures.shape.falling c.requires.within, c.height-height.ensures.height, c.height-height.ensures.few)

pub place_of-requires : goal.place_of-requires
place_of-requires c = beneath c.args.shape.now c.args.row c.args.column c.height-height.ensures.shape (omega (arith, c.height-height.ensures.height, c.if-row-height.true))

pub digit-requires : goal.digit-requires
digit-requires c = omega (arith, length_of_word c.args.shape.now c.args.word.now c.requires.word, c.place_of.ensures.below)

pub returns-then-row-height-clause-bound : goal.returns-then-row-height-clause-bound
returns-then-row-height-clause-bound c =
    c.digit.ensures ∙ (ap (λ k. slice_index c.args.word.now k) c.place_of.ensures.place ∙ bound_from_beneath c.args.shape.now c.args.word.now c.args.row c.args.column c.height-height.ensures.shape (omega (arith, c.height-height.ensures.height, c.if-row-height.true)))

pub returns-then-row-height-clause-few : goal.returns-then-row-height-clause-few
returns-then-row-height-clause-few c =
    let digit : c.digit.result ≡ slice_index c.args.word.now c.place_of.result = c.digit.ensures in
    omega (arith, digit, digit_of_word c.args.shape.now c.args.word.now c.place_of.result c.requires.word c.place_of.ensures.below)

pub returns-clause-bound : goal.returns-clause-bound
returns-clause-bound c =
    c.base_size.ensures.count ∙ (ap letter_count c.cartan.ensures.cartan
    ∙ bound_from_count c.args.shape.now c.args.word.now c.args.row c.args.column c.height-height.ensures.shape (omega (arith, c.height-height.ensures.height, c.if-row-height.false)))
