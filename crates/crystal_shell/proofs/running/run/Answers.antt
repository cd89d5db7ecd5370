use Rattle.std.proofs.Common.{map, string_bytes, refl}
use Rattle.answer_text.specs.Answers.{answer_bytes}
use Rattle.crystal_shell.proofs.Ends.{run_answered}
use Rattle.crystal_shell.proofs.running.run.Goals as goal

pub returns-in-Ok-answer : goal.returns-in-Ok-answer
returns-in-Ok-answer g c =
    run_answered g.R.Source.left g.R.Source.faults g.W.Sink.taken g.W.Sink.faults _ (map string_bytes c.args.words.now) c.args.source.now c.answer.new.source c.args.sink.now
    c.write_answer.new.sink c.write_answer.result c.in-Ok-answer.answered.status c.in-Ok-answer.answered.front c.in-Ok-answer.answered.held (answer_bytes c.in-Ok-answer.answered.answer) _ _
    c.in-Ok-answer.ensures.called c.in-Ok-answer.ensures.read refl c.write_answer.ensures.front c.write_answer.ensures.held c.write_answer.ensures.written c.write_answer.ensures.later
