use Rattle.std.proofs.Common.{arith, ◌∙◌}
use Rattle.vector_crystals.proofs.Rules.{lower_first, lower_last, lower-letter, is_letter_result}
use Rattle.vector_crystals.proofs.arrows.lower.Goals as goal

pub returns-then-i-rank-clause-value : goal.returns-then-i-rank-clause-value
returns-then-i-rank-clause-value c =
    c.first_lower.ensures ∙ lower_first c.args.cartan c.args.i c.args.x.0 c.kind.result c.rank.ensures.classical c.requires.index c.requires.letter c.kind.ensures (omega arith)

pub returns-then-i-rank-clause-letter : goal.returns-then-i-rank-clause-letter
returns-then-i-rank-clause-letter c =
    is_letter_result c.args.cartan c.first_lower.result _ (returns-then-i-rank-clause-value c) (lower-letter c.args.cartan c.args.i c.args.x.0 c.rank.ensures.classical c.requires.index c.requires.letter)

pub returns-else-i-rank-clause-value : goal.returns-else-i-rank-clause-value
returns-else-i-rank-clause-value c =
    c.last_lower.ensures ∙ lower_last c.args.cartan c.args.i c.args.x.0 c.kind-else-i-rank.result c.rank.ensures.classical c.requires.index c.requires.letter c.kind-else-i-rank.ensures (omega arith)

pub returns-else-i-rank-clause-letter : goal.returns-else-i-rank-clause-letter
returns-else-i-rank-clause-letter c =
    is_letter_result c.args.cartan c.last_lower.result _ (returns-else-i-rank-clause-value c) (lower-letter c.args.cartan c.args.i c.args.x.0 c.rank.ensures.classical c.requires.index c.requires.letter)
