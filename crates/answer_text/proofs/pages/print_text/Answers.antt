use Rattle.std.proofs.Common.{sym, ap, ℕ, List, [], ◌++◌}
use Rattle.answer_text.proofs.Printed.{prints_then, prints_short, prints_failed, writes_prints}
use Rattle.answer_text.proofs.pages.print_text.Goals as goal

pub returns-in_err-hand_on : goal.returns-in_err-hand_on
returns-in_err-hand_on g c = prints_failed _ c.from_residual.ensures.1 (prints_short {text = []} c.args.text.now c.in_err-hand_on.ensures.prints)

pub returns : goal.returns
returns g c =
    prints_then {text = []} {more = c.args.text.now} c.in_ok-hand_on.ensures.prints
    (writes_prints c.write_all.result c.write_all.ensures (ap (λ (l : List ℕ). l ++ c.args.text.now) (sym c.in_ok-hand_on.ensures.empty)) c.in_ok-hand_on.ensures.empty)
