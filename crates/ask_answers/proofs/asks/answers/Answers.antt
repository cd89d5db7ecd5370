use Rattle.std.proofs.Common.{◌≤◌, List, length, rules, arith, subst}
use Rattle.std.proofs.lemmas.List.{take_all}
use Rattle.job_text.specs.declared.commands.Ask.{Ask}
use Rattle.ask_answers.specs.Answers.{AreAnswers}
use Rattle.ask_answers.proofs.AskedAnswers.{answers_to, printable_answers}
use Rattle.ask_answers.proofs.asks.answers.Goals as goal

pub asks-preserved : goal.asks-preserved
asks-preserved c = record {
  last = c.asks.invariant.last;
  count = search rules;
  capacity = search rules;
  told = answers_to c.args.finished.now c.args.start c.args.asks.now c.asks.place c.at.result.now c.asks.answers.items c.push_reserved.new.self.items c.in_ok-answer.answer
      c.at.ensures.item c.asks.invariant.told c.push_reserved.ensures.items c.in_ok-answer.ensures;
}

pub returns-clause-printable : goal.returns-clause-printable
returns-clause-printable c =
    let f = c.args.finished.now in
    let done : length c.args.asks.now ≤ c.asks.place = omega (arith, c.asks.invariant.last) in
    printable_answers f c.args.start c.args.asks.now c.asks.answers.items c.space-space.ensures.finished c.requires.asks
    (subst (λ (asks : List Ask). AreAnswers f c.args.start asks c.asks.answers.items) (take_all c.asks.place c.args.asks.now done) c.asks.invariant.told)
