use Rattle.std.proofs.Common.{◌∙◌, ap, sym}
use Rattle.crystal_streams.specs.Lines.{ended}
use Rattle.answer_text.specs.Answers.{counts_line}
use Rattle.answer_text.proofs.Printed.{prints_as}
use Rattle.answer_text.proofs.counts.print_counts.Goals as goal

pub returns-in-Some : goal.returns-in-Some
returns-in-Some g c = prints_as (ap ended (c.line_of_counts.ensures ∙ sym (ap counts_line c.in-Some.is))) c.print_line.ensures
