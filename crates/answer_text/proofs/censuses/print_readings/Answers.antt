use Rattle.std.proofs.Common.{◌<◌, ap, ℕ, length, arith}
use Rattle.tensor_words.specs.Codes.{word_of}
use Rattle.tableau_reading.specs.Texts.{word_text}
use Rattle.crystal_streams.specs.Lines.{ended}
use Rattle.answer_text.proofs.Loops.{each_more, each_stopped, each_all}
use Rattle.answer_text.proofs.Printed.{prints_nothing}
use Rattle.answer_text.proofs.censuses.print_readings.Goals as goal

pub codes-init : goal.codes-init
codes-init g c = prints_nothing tt _ _ _

pub codes-preserved : goal.codes-preserved
codes-preserved g c =
    let text = λ (code : ℕ). ended (word_text c.args.space.now (word_of c.args.space.now code)) in
    let below : c.codes.code-index < length (c.args.codes.now) = omega arith in
    let is = ap ended c.reading_line.ensures in
    each_more text (c.args.codes.now) c.codes.code-index 0 below is c.codes.invariant c.in_ok-print_line.ensures

pub returns-in_err-print_line : goal.returns-in_err-print_line
returns-in_err-print_line g c =
    let text = λ (code : ℕ). ended (word_text c.args.space.now (word_of c.args.space.now code)) in
    let below : c.codes.code-index < length (c.args.codes.now) = omega arith in
    let is = ap ended c.reading_line.ensures in
    each_stopped text (c.args.codes.now) c.codes.code-index 0 below is _ c.from_residual.ensures.1 c.codes.invariant c.in_err-print_line.ensures

pub returns : goal.returns
returns g c = each_all (λ (code : ℕ). ended (word_text c.args.space.now (word_of c.args.space.now code))) (c.args.codes.now) c.codes.code-index (omega arith) c.codes.invariant
