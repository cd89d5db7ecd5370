use Rattle.answer_text.specs.Answers.{IsPrintableAnswer}
use Rattle.job_tests.proofs.tests.texts.more_than_a_page.Given as goal

abbrev pub invariant-loop-number : goal.invariant-loop-number
invariant-loop-number g l = IsPrintableAnswer l.answer
