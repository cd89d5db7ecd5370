use Rattle.std.proofs.Common.{◌≡◌, ◌+◌, ◌*◌, ◌≤◌, length}
use Rattle.plain_growth.specs.Growth.{Expands, AddsNotes}
use Rattle.plain_growth.specs.Marks.{AreMarks}
use Rattle.plain_growth.proofs.growth.expand.Given as goal

abbrev pub invariant-indices : goal.invariant-indices
invariant-indices l = record {
  expanded : Expands l.steps l.place l.code l.fn.growth.found l.growth.found;
  lowered : AddsNotes l.steps l.place l.code l.fn.growth.found l.fn.growth.lowered.items l.growth.found l.growth.lowered.items;
  known : AreMarks l.steps l.growth.found l.growth.known.items;
  few : length l.growth.found ≤ length l.fn.growth.found + 2 * l.place;
  last : l.place-end ≡ l.steps.cartan.rank;
  small : l.place-end ≤ 8;
}
