use Rattle.std.proofs.Common.{subst, arith}
use Rattle.tensor_words.specs.Spaces.{SpaceType}
use Rattle.tensor_words.specs.Tables.{AreValues}
use Rattle.tensor_words.proofs.PlaceValues.{moved_by}
use Rattle.tensor_words.proofs.SpaceWords.{length_word}
use Rattle.tensor_words.proofs.steps.Steps.moved.Goals as goal

pub bounds-self-inside-place : goal.bounds-self-inside-place
bounds-self-inside-place c =
    let values : AreValues c.args.self.now c.self.inside.values = subst (λ (s : SpaceType). AreValues s c.self.inside.values) c.self.view_is c.self.invariant.1 in
    omega (arith, values.space.few, c.requires.place)

pub digit-requires : goal.digit-requires
digit-requires c = omega (arith, length_word c.args.self.now c.args.word.now c.requires.word, c.requires.place)

pub overflow_mul-result : goal.overflow_mul-result
overflow_mul-result c =
    let (moved, narrow) = moved_by {w = c.args.word.now} c.self.invariant.1 c.self.view_is c.requires.word c.requires.code c.requires.place c.requires.digit in
    rw (c.from.ensures, c.digit.ensures) (omega (arith, moved.from, c.ranges.code))

pub overflow_sub-result : goal.overflow_sub-result
overflow_sub-result c =
    let (moved, narrow) = moved_by {w = c.args.word.now} c.self.invariant.1 c.self.view_is c.requires.word c.requires.code c.requires.place c.requires.digit in
    rw (c.from.ensures, c.digit.ensures) (omega (arith, moved.from))

pub overflow_mul-result-2 : goal.overflow_mul-result-2
overflow_mul-result-2 c =
    let (moved, narrow) = moved_by {w = c.args.word.now} c.self.invariant.1 c.self.view_is c.requires.word c.requires.code c.requires.place c.requires.digit in
    rw (c.from-2.ensures) (omega (arith, moved.to, narrow))

pub overflow_add-result : goal.overflow_add-result
overflow_add-result c =
    let (moved, narrow) = moved_by {w = c.args.word.now} c.self.invariant.1 c.self.view_is c.requires.word c.requires.code c.requires.place c.requires.digit in
    rw (c.from.ensures, c.digit.ensures, c.from-2.ensures) (omega (arith, moved.below, narrow))

pub returns-clause-value : goal.returns-clause-value
returns-clause-value c =
    let (moved, narrow) = moved_by {w = c.args.word.now} c.self.invariant.1 c.self.view_is c.requires.word c.requires.code c.requires.place c.requires.digit in
    rw (c.from.ensures, c.digit.ensures, c.from-2.ensures) moved.value

pub returns-clause-below : goal.returns-clause-below
returns-clause-below c =
    let (moved, narrow) = moved_by {w = c.args.word.now} c.self.invariant.1 c.self.view_is c.requires.word c.requires.code c.requires.place c.requires.digit in
    rw (c.from.ensures, c.digit.ensures, c.from-2.ensures) (moved.below)
