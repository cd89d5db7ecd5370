use Rattle.std.proofs.Common.{◌≡◌, ◌∙◌, sym, ◌<◌, ◌∷◌, length, arith}
use Rattle.text_pieces.specs.Pieces.{pieces}
use Rattle.job_text.specs.Judge.{judged_from, judge}
use Rattle.job_text.proofs.LineSteps.{line_taken, line_refused}
use Rattle.job_text.proofs.jobs.read_job.Goals as goal

pub returns-in-Err-clause-told : goal.returns-in-Err-clause-told
returns-in-Err-clause-told c =
    let cut : pieces 10 c.lines.rest.now ≡ c.cut.result.0.now ∷ pieces 10 c.in-Some.next.now = rw c.in-Some.is at c.cut.ensures.pieces in
    rw (← c.lines.invariant.same, cut) (line_refused c.lines.line c.lines.stage c.in-Err.fault c.cut.result.0.now c.in-Some.next.now c.in-Err.ensures)

pub lines-preserved : goal.lines-preserved
lines-preserved c =
    let cut : pieces 10 c.lines.rest.now ≡ c.cut.result.0.now ∷ pieces 10 c.in-Some.next.now = rw c.in-Some.is at c.cut.ensures.pieces in
    let shorter : length c.in-Some.next.now < length c.lines.rest.now = rw c.in-Some.is at c.cut.ensures.shorter in
    let here : judged_from c.lines.line c.lines.stage (c.cut.result.0.now ∷ pieces 10 c.in-Some.next.now) ≡ judge c.args.bytes.now = rw cut at c.lines.invariant.same in
    record {
      same = sym (line_taken c.lines.line c.lines.stage c.in-Ok.after c.cut.result.0.now c.in-Some.next.now c.in-Ok.ensures) ∙ here;
      few = omega arith;
      short = c.lines.invariant.short;
    }
