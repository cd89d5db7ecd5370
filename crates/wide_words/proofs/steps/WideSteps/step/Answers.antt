use Rattle.std.proofs.Common.{sym, ap, ◌∙◌}
use Rattle.std.specs.Option.{option_map}
use Rattle.wide_words.specs.WideSpaces.{number}
use Rattle.wide_words.proofs.WideActing.{wide_high, wide_low}
use Rattle.wide_words.proofs.steps.WideSteps.step.Goals as goal

pub returns-then-acts_high-clause-value : goal.returns-then-acts_high-clause-value
returns-then-acts_high-clause-value c =
    ap (option_map (number c.args.self.now)) c.with_high.ensures
    ∙ wide_high c.args.self.now c.cartan-cartan.ensures.space c.args.arrow c.requires.arrow c.args.reading.now.code c.requires.reading.word c.args.reading.now.high c.args.reading.now.low
    c.requires.reading.high c.requires.reading.low c.next_high.result (sym c.acts_high.ensures ∙ c.if-acts_high.true) c.next_high.ensures.value

pub returns-else-acts_high-clause-value : goal.returns-else-acts_high-clause-value
returns-else-acts_high-clause-value c =
    ap (option_map (number c.args.self.now)) c.with_low.ensures
    ∙ wide_low c.args.self.now c.cartan-cartan.ensures.space c.args.arrow c.requires.arrow c.args.reading.now.code c.requires.reading.word c.args.reading.now.high c.args.reading.now.low
    c.requires.reading.high c.requires.reading.low c.next_low.result (sym c.acts_high.ensures ∙ c.if-acts_high.false) c.next_low.ensures.value
