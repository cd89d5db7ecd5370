use Rattle.std.proofs.Common.{◌≡◌, length, take, All}
use Rattle.plain_growth.specs.Growth.{IsPlacedCode, codes_in}
use Rattle.plain_growth.proofs.sorting.placed.Given as goal

abbrev pub invariant-found : goal.invariant-found
invariant-found l = record {
  codes : codes_in l.list.items ≡ take l.place l.found;
  placed : All (IsPlacedCode l.found) l.list.items;
  last : l.place-end ≡ length l.found;
}
