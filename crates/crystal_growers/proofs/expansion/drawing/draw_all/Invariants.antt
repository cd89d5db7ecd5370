-- The cells before the rest are drawn and paid for.
use Rattle.std.proofs.Common.{◌≡◌, List, ◌++◌, ℕ, length, None}
use Rattle.crystal_growers.specs.Drawing.{HasDrawn}
use Rattle.crystal_growers.proofs.expansion.drawing.draw_all.Given as goal

abbrev pub invariant-parts : goal.invariant-parts
invariant-parts l = record {
  before : List ℕ;
  is : l.fn.cells ≡ before ++ l.rest;
  drawn : HasDrawn before l.fn.seat l.seat l.added.items None;
}

abbrev pub decreases-parts : goal.decreases-parts
decreases-parts l = length l.rest
