use Rattle.answer_text.proofs.OneAnswer.{answers_one}
use Rattle.answer_text.proofs.laws.answers_are_one.Goals as goal

pub returns : goal.returns
returns c = answers_one
