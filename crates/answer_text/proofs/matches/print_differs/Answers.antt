use Rattle.std.proofs.Common.{ap, codes, [], ◌∷◌, ◌++◌}
use Rattle.crystal_streams.specs.Lines.{ended}
use Rattle.answer_text.specs.Modes.{arrow_tokens, differs_line}
use Rattle.answer_text.proofs.Printed.{prints_as, prints_then, prints_short, prints_failed}
use Rattle.answer_text.proofs.matches.print_differs.Goals as goal

pub returns-in_err-print_piece : goal.returns-in_err-print_piece
unfolding differs_line
returns-in_err-print_piece g c =
    prints_failed _ c.from_residual.ensures.1
    (prints_short {text = codes "differs" ++ arrow_tokens c.args.walk.now} (10 ∷ [])
    (prints_short {text = codes "differs"} (arrow_tokens c.args.walk.now) (prints_as c.line_of.ensures c.in_err-print_piece.ensures)))

pub returns-in_err-print_arrows : goal.returns-in_err-print_arrows
unfolding differs_line
returns-in_err-print_arrows g c =
    prints_failed _ c.from_residual-in_err-print_arrows.ensures.1
    (prints_short {text = codes "differs" ++ arrow_tokens c.args.walk.now} (10 ∷ [])
    (prints_then {text = codes "differs"} {more = arrow_tokens c.args.walk.now} (prints_as c.line_of.ensures c.in_ok-print_piece.ensures) c.in_err-print_arrows.ensures))

pub returns : goal.returns
unfolding differs_line
returns g c =
    prints_then {text = codes "differs" ++ arrow_tokens c.args.walk.now} {more = 10 ∷ []}
    (prints_then {text = codes "differs"} {more = arrow_tokens c.args.walk.now} (prints_as c.line_of.ensures c.in_ok-print_piece.ensures) c.in_ok-print_arrows.ensures)
    (prints_as (ap ended c.new.ensures) c.print_line.ensures)
