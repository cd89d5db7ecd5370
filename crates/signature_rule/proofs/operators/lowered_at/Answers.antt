use Rattle.std.proofs.Common.{◌≡◌, subst, ℕ, Option, None, MatchOption, arith}
use Rattle.tensor_words.specs.TensorRule.{action}
use Rattle.signature_rule.specs.Passes.{IsLowerPlace}
use Rattle.tensor_words.proofs.SpaceWords.{digit_small, length_word}
use Rattle.signature_rule.proofs.operators.lowered_at.Goals as goal

pub digit-requires : goal.digit-requires
digit-requires c =
    let at : IsLowerPlace c.args.space.now c.args.i c.args.word.now c.in-Some.place =
    subst (λ (o : Option ℕ). MatchOption o ((action c.args.space.now c.args.i).lower c.args.word.now ≡ None) (IsLowerPlace c.args.space.now c.args.i c.args.word.now)) c.in-Some.is c.requires.place in
    omega (arith, length_word c.args.space.now c.args.word.now c.requires.word, at.below)

pub digit_lower-requires-clause-digit : goal.digit_lower-requires-clause-digit
digit_lower-requires-clause-digit c =
    let at : IsLowerPlace c.args.space.now c.args.i c.args.word.now c.in-Some.place =
    subst (λ (o : Option ℕ). MatchOption o ((action c.args.space.now c.args.i).lower c.args.word.now ≡ None) (IsLowerPlace c.args.space.now c.args.i c.args.word.now)) c.in-Some.is c.requires.place in
    rw c.digit.ensures (digit_small c.args.space.now c.args.word.now c.in-Some.place c.requires.word at.below)
