use Rattle.std.proofs.Common.{◌≡◌, take, length}
use Rattle.ask_answers.proofs.subsets.listed.Given as goal

abbrev pub invariant-places : goal.invariant-places
invariant-places l = record {
  last : l.place-end ≡ length l.indices;
  items : l.list.items ≡ take l.place l.indices;
}
