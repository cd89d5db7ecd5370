use Rattle.std.proofs.Common.{◌≡◌}
use Rattle.crystal_growers.proofs.ExpandSteps.{IsExpanding}
use Rattle.crystal_growers.proofs.expansion.expand.Given as goal

abbrev pub invariant-arrows : goal.invariant-arrows
invariant-arrows g l = record {
  expanding : IsExpanding (g.D.Desk.standing l.fn.desk) (g.D.Desk.standing l.desk) l.cell l.code l.place;
  rank : l.rank ≡ (g.D.Desk.standing l.fn.desk).world.space.cartan.rank;
}
