-- The first growers are taken in.
use Rattle.std.proofs.Common.{length}
use Rattle.wide_growth.proofs.Gathering.{IsGathering}
use Rattle.wide_growth.proofs.gather.gather.Given as goal

abbrev pub invariant-shares : goal.invariant-shares
invariant-shares l = record {
  gathering : IsGathering l.graph l.fn.seat l.seat l._waiting (length l.fn.shares.items) l.shares.items l.added.items l.arrows;
}

abbrev pub decreases-shares : goal.decreases-shares
decreases-shares l = length l.shares.items
