use Rattle.std.proofs.Common.{append-nil}
use Rattle.answer_text.proofs.Printed.{prints_as, prints_then, prints_whole, prints_cut}
use Rattle.answer_text.proofs.printing.print_answer.Goals as goal

pub returns-in_err-print_parts : goal.returns-in_err-print_parts
returns-in_err-print_parts g c = prints_cut _ c.from_residual.ensures.1 c.requires.empty c.in_err-print_parts.ensures

pub returns : goal.returns
returns g c = prints_whole c.requires.empty c.hand_on.ensures.empty (prints_as (append-nil _) (prints_then c.in_ok-print_parts.ensures c.hand_on.ensures.prints))
