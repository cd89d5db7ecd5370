-- The rest waits, and is part of the cells.
use Rattle.std.proofs.Common.{ℕ, length, Contains}
use Rattle.crystal_growers.specs.Drawing.{IsWaiting}
use Rattle.crystal_growers.specs.Grower.{HasOffered}
use Rattle.crystal_growers.proofs.grower.offering.offer.Given as goal

abbrev pub invariant-parts : goal.invariant-parts
invariant-parts g l = record {
  offered : HasOffered l.graph l.fn.seat l.seat l.fn.bench l.bench l.fn.cells.items;
  waits : IsWaiting l.graph l.rest.items l.seat;
  among : (c : ℕ) → Contains l.rest.items c → Contains l.fn.cells.items c;
}

abbrev pub decreases-parts : goal.decreases-parts
decreases-parts g l = length l.rest.items
