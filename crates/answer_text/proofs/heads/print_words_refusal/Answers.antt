use Rattle.std.proofs.Common.{◌∙◌, ap}
use Rattle.crystal_streams.specs.Lines.{ended}
use Rattle.answer_text.specs.Texts.{words_refusal_line}
use Rattle.answer_text.proofs.Printed.{prints_as}
use Rattle.answer_text.proofs.heads.print_words_refusal.Goals as goal

pub returns : goal.returns
unfolding words_refusal_line
returns g c = prints_as (ap ended (c.keyed_line.ensures.text ∙ ap words_refusal_line c.from.ensures)) c.print_line.ensures
