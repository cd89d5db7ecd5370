use Rattle.std.proofs.Common.{◌∙◌, sym, append-nil}
use Rattle.answer_text.proofs.Printed.{writes_prints}
use Rattle.answer_text.proofs.pages.hand_on.Goals as goal

pub returns-clause-prints : goal.returns-clause-prints
returns-clause-prints g c =
    writes_prints c.write_all-result.result c.write_all-result.ensures (c.bytes.ensures ∙ sym (append-nil c.args.page.now)) c.clear.ensures
