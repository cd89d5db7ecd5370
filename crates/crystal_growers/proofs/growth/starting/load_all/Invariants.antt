-- So many parcels are loaded, the next one at the next place.
use Rattle.std.proofs.Common.{◌*◌, ◌<◌, ◌≤◌, ℕ, length}
use Rattle.crystal_growers.proofs.Loading.{IsLoading}
use Rattle.crystal_growers.proofs.growth.starting.load_all.Given as goal

abbrev pub invariant-parcels : goal.invariant-parcels
invariant-parcels g l = record {
  parcels : ℕ;
  capacity : ℕ;
  loading : IsLoading l.fn.seat l.seat l.cells l.rest (length l.fn.benches.items) capacity parcels l.benches.items;
  fits : length l.cells ≤ capacity * 64;
  within : l.place < length l.fn.benches.items;
}

abbrev pub decreases-parcels : goal.decreases-parcels
decreases-parcels g l = length l.rest
