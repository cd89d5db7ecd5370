use Rattle.answer_text.proofs.Spacing.{line_is}
use Rattle.answer_text.proofs.vertices.vertex_line.Goals as goal

pub returns : goal.returns
returns c =
    line_is c.args.finished.now c.args.rank c.space-space.result.now c.steps.result.now c.word_at-word.result c.weight.result
    _ _ _ _ _ _ _ _ c.space-space.ensures.space c.steps.ensures.space c.word_at-word.ensures.word c.weight.ensures.value c.new-line.ensures
    c.print_number.ensures.text c.text.ensures c.print_word.ensures.text c.text-2.ensures c.print_weight.ensures.text c.text-3.ensures c.print_arrows.ensures.text
