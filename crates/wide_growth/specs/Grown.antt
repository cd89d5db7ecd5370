-- What a growth of wide words tells.
use Rattle.tensor_words.specs.Reach.{Outnumber}
use Rattle.wide_words.specs.WideHistory.{WideWorldType, counted}
use Rattle.wide_words.specs.WideCounts.{AreReached}
use Rattle.wide_growth.specs.declared.growing.WideGrown.{WideGrown}
use Rattle.wide_growth.specs.declared.growing.WideGrown.TheVariants.{Closed, Full}

-- Closed: so many words are reached from the roots of the world, and so many lowering arrows join them, and they do not
-- outnumber the capacity. Full: they do
abbrev pub IsGrownTo : WideWorldType → WideGrown → Type 0
IsGrownTo w (Closed vertices arrows) = AreReached (counted w) vertices arrows × (Outnumber (counted w) → ⊥)
IsGrownTo w Full = Outnumber (counted w)
