use Rattle.std.proofs.Common.{[]}
use Rattle.crystal_streams.specs.Lines.{ended}
use Rattle.answer_text.proofs.Printed.{prints_short, prints_failed}
use Rattle.answer_text.proofs.pages.print_line.Goals as goal

pub returns-in_err-make_room : goal.returns-in_err-make_room
returns-in_err-make_room g c = prints_failed _ c.from_residual.ensures.1 (prints_short {text = []} (ended c.args.line.now) c.in_err-make_room.ensures.prints)
