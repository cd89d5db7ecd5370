use Rattle.std.proofs.Common.{sym, ap, ◌∙◌}
use Rattle.std.specs.Option.{option_map}
use Rattle.tensor_words.specs.Spaces.{SpaceType}
use Rattle.tensor_words.specs.Codes.{code_of, word_of}
use Rattle.tensor_words.specs.Operators.{acted}
use Rattle.wide_words.specs.WideSpaces.{number}
use Rattle.wide_words.proofs.WideActing.{wide_high, wide_low}
use Rattle.wide_words.proofs.spaces.WideSpace.act.Goals as goal

pub returns-then-acts_high-clause-value : goal.returns-then-acts_high-clause-value
returns-then-acts_high-clause-value c =
    ap (option_map (number c.args.self.now)) c.with_high.ensures
    ∙ wide_high c.args.self.now c.high.ensures.space c.args.arrow c.requires.arrow c.args.code c.requires.code c.word_with-high.result c.word_with-low.result
    (c.word_with-high.ensures.value ∙ ap (λ (t : SpaceType). word_of t c.args.code.high) c.high.ensures.high)
    (c.word_with-low.ensures.value ∙ ap (λ (t : SpaceType). word_of t c.args.code.low) c.low.ensures.low)
    c.next_code.result
    (sym c.acts_high.ensures ∙ c.if-acts_high.true)
    (c.next_code.ensures.value ∙ ap (λ (t : SpaceType). option_map (code_of t) (acted t c.args.arrow c.word_with-high.result)) c.high-then-acts_high.ensures.high)

pub returns-else-acts_high-clause-value : goal.returns-else-acts_high-clause-value
returns-else-acts_high-clause-value c =
    ap (option_map (number c.args.self.now)) c.with_low.ensures
    ∙ wide_low c.args.self.now c.high.ensures.space c.args.arrow c.requires.arrow c.args.code c.requires.code c.word_with-high.result c.word_with-low.result
    (c.word_with-high.ensures.value ∙ ap (λ (t : SpaceType). word_of t c.args.code.high) c.high.ensures.high)
    (c.word_with-low.ensures.value ∙ ap (λ (t : SpaceType). word_of t c.args.code.low) c.low.ensures.low)
    c.next_code-else-acts_high.result
    (sym c.acts_high.ensures ∙ c.if-acts_high.false)
    (c.next_code-else-acts_high.ensures.value ∙ ap (λ (t : SpaceType). option_map (code_of t) (acted t c.args.arrow c.word_with-low.result)) c.low-else-acts_high.ensures.low)
