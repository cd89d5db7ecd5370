use Rattle.std.proofs.Common.{ap, ℕ, ℤ, List}
use Rattle.std.specs.List.{flat_map}
use Rattle.crystal_streams.specs.Lines.{ended}
use Rattle.answer_text.specs.Asks.{tops_text, top_line}
use Rattle.answer_text.proofs.Printed.{prints_as, prints_then, prints_short, prints_failed}
use Rattle.answer_text.proofs.asks.print_tops.Goals as goal

pub returns-in_err-print_line : goal.returns-in_err-print_line
unfolding tops_text
returns-in_err-print_line g c = prints_failed _ c.from_residual.ensures.1 (prints_short _ (prints_as (ap ended c.tops_head.ensures) c.in_err-print_line.ensures))

pub returns : goal.returns
unfolding tops_text
returns g c =
    let lines = ap (λ (word : List ℕ). flat_map (λ (top : ℕ × List ℤ). ended (top_line c.args.finished.now word top.0 top.1)) c.args.tops.now) c.shape_line.ensures.text in
    prints_then (prints_as (ap ended c.tops_head.ensures) c.in_ok-print_line.ensures) (prints_as lines c.print_top_lines.ensures)
