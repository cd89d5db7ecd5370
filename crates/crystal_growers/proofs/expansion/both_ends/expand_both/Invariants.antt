use Rattle.std.proofs.Common.{◌≡◌}
use Rattle.shared_desk.specs.SharedDesks.{standing_of}
use Rattle.crystal_growers.proofs.ExpandSteps.{IsExpanding}
use Rattle.crystal_growers.proofs.expansion.both_ends.expand_both.Given as goal

abbrev pub invariant-arrows : goal.invariant-arrows
invariant-arrows l = record {
  expanding : IsExpanding (standing_of l.fn.desk) (standing_of l.desk) l.cell l.code l.place;
  rank : l.rank ≡ l.fn.desk.seat.view.world.space.cartan.rank;
}
