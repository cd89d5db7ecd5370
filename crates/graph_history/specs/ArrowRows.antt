-- Where the arrows of a cell are kept: a row of words for each cell, one word for each arrow.
use Rattle.std.specs.Prelude.{ℕ, ◌+◌, ◌*◌, Option, Some, None}
use Rattle.crystal_cartan.specs.declared.types.Arrow.{Arrow}
use Rattle.signature_rule.specs.ArrowOrder.{arrow_place}
use Rattle.graph_history.specs.declared.answer.Look.{Look}
use Rattle.graph_history.specs.declared.answer.Look.TheVariants.{Blank, Zero, To}

-- the place of an arrow of a cell among all rows, each in the order of arrows
abbrev pub edge_place : ℕ → ℕ → Arrow → ℕ
edge_place rank c a = c * (2 * rank) + arrow_place rank a

-- the word of an arrow: not drawn, to zero, or to a cell
abbrev pub edge_word : Option (Option ℕ) → ℕ
edge_word None = 0
edge_word (Some None) = 1
edge_word (Some (Some t)) = t + 2

-- what a look sees of an arrow
abbrev pub seen : Look → Option (Option ℕ)
seen Blank = None
seen Zero = Some None
seen (To t) = Some (Some t)
