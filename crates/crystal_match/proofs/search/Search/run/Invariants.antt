use Rattle.std.proofs.Common.{◌≡◌, ◌-◌, ◌≤◌}
use Rattle.crystal_match.specs.Search.{IsSearching}
use Rattle.crystal_match.proofs.search.Search.run.Given as goal

abbrev pub invariant-levels : goal.invariant-levels
invariant-levels l = record {
  searching : IsSearching l.both 0 l.self;
  few : l.self.end ≤ l.limit;
  same : l.both ≡ l.fn.both;
}

abbrev pub decreases-levels : goal.decreases-levels
decreases-levels l = l.limit - l.self.at
