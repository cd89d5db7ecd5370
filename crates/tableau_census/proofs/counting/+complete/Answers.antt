use Rattle.std.proofs.Common.{◌∙◌, ap, subst, ◌+◌, ◌-◌, ◌<◌, ◌++◌, Err, arith}
use Rattle.tensor_words.specs.Spaces.{size_at}
use Rattle.tensor_words.specs.Codes.{code_of}
use Rattle.tableau_reading.specs.Shapes.{box_count}
use Rattle.tableau_reading.proofs.VectorSpaces.{vector_size}
use Rattle.tableau_census.specs.Listing.{completion_codes}
use Rattle.tableau_census.specs.Outcomes.{IsCompleted}
use Rattle.tableau_census.proofs.Completing.{next_codes, codes_at_end, codes_listed, fault_passed, partial_next, partial_done}
use Rattle.tableau_census.proofs.counting.+complete.Goals as goal

pub returns-then-place-boxes : goal.returns-then-place-boxes
returns-then-place-boxes t c =
    let code = c.code_of.ensures.value ∙ ap (λ s. code_of s c.args.word.now) c.requires.space in
    subst (λ codes. IsCompleted c.args.list.now.items codes c.args.limit c.add.new.list.items c.add.result)
    (codes_at_end c.args.shape.now (box_count c.args.shape.now) c.args.place c.code_of.result c.args.word.now (omega (arith, c.boxes.ensures.boxes, c.if-place-boxes.true)) code) c.add.ensures

pub put-next-requires-clause-digit : goal.put-next-requires-clause-digit
put-next-requires-clause-digit t c =
    let within : c.args.place < box_count c.args.shape.now = omega (arith, c.boxes.ensures.boxes, c.if-place-boxes.false, c.requires.place) in
    omega (arith, c.bound-bound.ensures.few, c.digits-test.true, vector_size c.args.shape.now c.args.place within, ap (λ s. size_at s c.args.place) c.requires.space)

pub returns-in-Err : goal.returns-in-Err
returns-in-Err t c =
    let within : c.args.place < box_count c.args.shape.now = omega (arith, c.boxes.ensures.boxes, c.if-place-boxes.false, c.requires.place) in
    let codes = codes_listed c.args.shape.now (box_count c.args.shape.now) c.args.place c.args.word.now c.box_at-row.result.0 c.box_at-row.result.1 c.lowest-low.result c.bound-bound.result
    within c.box_at-row.ensures.there c.lowest-low.ensures c.bound-bound.ensures.bound in
    let fault = subst (λ w. IsCompleted c.digits.list.items (completion_codes c.args.shape.now (box_count c.args.shape.now - (c.args.place + 1)) (c.args.place + 1) w) c.args.limit
    c.complete.new.list.items (Err c.in-Err.fault)) c.put-next.ensures.put c.in-Err.ensures in
    subst (λ xs. IsCompleted c.args.list.now.items xs c.args.limit c.complete.new.list.items (Err c.in-Err.fault)) codes
    (fault_passed c.in-Err.fault (next_codes c.args.shape.now (box_count c.args.shape.now) c.args.place c.args.word.now) c.args.limit c.lowest-low.result c.bound-bound.result c.digits.digit
    c.args.list.now.items c.digits.list.items c.complete.new.list.items c.digits.auto.digit c.digits-test.true c.digits.invariant fault)

pub digits-preserved : goal.digits-preserved
digits-preserved t c =
    let is = c.in_default.ensures.0
    ∙ ap (λ w. c.digits.list.items ++ completion_codes c.args.shape.now (box_count c.args.shape.now - (c.args.place + 1)) (c.args.place + 1) w) c.put-next.ensures.put in
    partial_next (next_codes c.args.shape.now (box_count c.args.shape.now) c.args.place c.args.word.now) c.args.limit c.lowest-low.result c.bound-bound.result c.digits.digit
    c.args.list.now.items c.digits.list.items c.complete.new.list.items c.digits.auto.digit c.digits-test.true c.digits.invariant is c.in_default.ensures.1

pub returns : goal.returns
returns t c =
    let within : c.args.place < box_count c.args.shape.now = omega (arith, c.boxes.ensures.boxes, c.if-place-boxes.false, c.requires.place) in
    let codes = codes_listed c.args.shape.now (box_count c.args.shape.now) c.args.place c.args.word.now c.box_at-row.result.0 c.box_at-row.result.1 c.lowest-low.result c.bound-bound.result
    within c.box_at-row.ensures.there c.lowest-low.ensures c.bound-bound.ensures.bound in (
      partial_done (next_codes c.args.shape.now (box_count c.args.shape.now) c.args.place c.args.word.now) c.args.limit c.lowest-low.result c.bound-bound.result c.digits.digit
          c.args.list.now.items c.digits.list.items c.digits-test.false c.digits.invariant ∙ ap (λ xs. c.args.list.now.items ++ xs) codes,
      c.digits.invariant.room,
    )
