use Rattle.std.proofs.Common.{◌≡◌, true}
use Rattle.std.specs.List.{list_all, range_with_len}
use Rattle.crystal_characters.specs.Reports.{is_end_at}
use Rattle.crystal_characters.proofs.end_tally.is_end.Given as goal

abbrev pub invariant-indices : goal.invariant-indices
invariant-indices l = list_all (is_end_at l.item) (range_with_len 1 l.place) ≡ true
