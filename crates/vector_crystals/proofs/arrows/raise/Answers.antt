use Rattle.std.proofs.Common.{arith, ◌∙◌}
use Rattle.vector_crystals.proofs.Rules.{raise_first, raise_last, raise-letter, is_letter_result}
use Rattle.vector_crystals.proofs.arrows.raise.Goals as goal

pub returns-then-i-rank-clause-value : goal.returns-then-i-rank-clause-value
returns-then-i-rank-clause-value c =
    c.first_raise.ensures ∙ raise_first c.args.cartan c.args.i c.args.x.0 c.kind.result c.rank.ensures.classical c.requires.index c.requires.letter c.kind.ensures (omega arith)

pub returns-then-i-rank-clause-letter : goal.returns-then-i-rank-clause-letter
returns-then-i-rank-clause-letter c =
    is_letter_result c.args.cartan c.first_raise.result _ (returns-then-i-rank-clause-value c) (raise-letter c.args.cartan c.args.i c.args.x.0 c.rank.ensures.classical c.requires.index c.requires.letter)

pub returns-else-i-rank-clause-value : goal.returns-else-i-rank-clause-value
returns-else-i-rank-clause-value c =
    c.last_raise.ensures ∙ raise_last c.args.cartan c.args.i c.args.x.0 c.kind-else-i-rank.result c.rank.ensures.classical c.requires.index c.requires.letter c.kind-else-i-rank.ensures (omega arith)

pub returns-else-i-rank-clause-letter : goal.returns-else-i-rank-clause-letter
returns-else-i-rank-clause-letter c =
    is_letter_result c.args.cartan c.last_raise.result _ (returns-else-i-rank-clause-value c) (raise-letter c.args.cartan c.args.i c.args.x.0 c.rank.ensures.classical c.requires.index c.requires.letter)
