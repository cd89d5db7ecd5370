use Rattle.std.proofs.Common.{◌<◌, ◌∙◌, ap, ℕ, List, length, arith}
use Rattle.std.specs.Prelude.{ℤ}
use Rattle.answer_text.specs.Asks.{top_line}
use Rattle.crystal_streams.specs.Lines.{ended}
use Rattle.answer_text.proofs.Loops.{each_more, each_stopped, each_all}
use Rattle.answer_text.proofs.Printed.{prints_nothing}
use Rattle.answer_text.proofs.asks.print_top_lines.Goals as goal

pub tops-init : goal.tops-init
tops-init g c = prints_nothing tt _ _ _

pub tops-preserved : goal.tops-preserved
tops-preserved g c =
    let text = λ (top : ℕ × List ℤ). ended (top_line c.args.finished.now c.args.word.now top.0 top.1) in
    let below : c.tops.rank-index < length (c.args.tops.now) = omega arith in
    let is = ap ended c.top_line.ensures ∙ ap text c.tops-item.is in
    each_more text (c.args.tops.now) c.tops.rank-index c.tops-item.result below is c.tops.invariant c.in_ok-print_line.ensures

pub returns-in_err-print_line : goal.returns-in_err-print_line
returns-in_err-print_line g c =
    let text = λ (top : ℕ × List ℤ). ended (top_line c.args.finished.now c.args.word.now top.0 top.1) in
    let below : c.tops.rank-index < length (c.args.tops.now) = omega arith in
    let is = ap ended c.top_line.ensures ∙ ap text c.tops-item.is in
    each_stopped text (c.args.tops.now) c.tops.rank-index c.tops-item.result below is _ c.from_residual.ensures.1 c.tops.invariant c.in_err-print_line.ensures

pub returns : goal.returns
returns g c = each_all (λ (top : ℕ × List ℤ). ended (top_line c.args.finished.now c.args.word.now top.0 top.1)) (c.args.tops.now) c.tops.rank-index (omega arith) c.tops.invariant
