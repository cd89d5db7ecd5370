use Rattle.std.proofs.Common.{◌≡◌, ◌+◌}
use Rattle.crystal_match.specs.Listings.{pair_at}
use Rattle.crystal_match.specs.Search.{IsSearching}
use Rattle.crystal_match.proofs.search.Search.expand.Given as goal

abbrev pub invariant-arrows : goal.invariant-arrows
invariant-arrows l = record {
  searching : IsSearching l.both l.place l.self;
  at : l.self.at ≡ l.fn.self.at;
  end : l.self.end ≡ l.fn.self.end;
  same : l.both ≡ l.fn.both;
  pair : l.pair ≡ pair_at l.self.found l.self.at;
  last : l.place-end ≡ l.rank + l.rank;
}
