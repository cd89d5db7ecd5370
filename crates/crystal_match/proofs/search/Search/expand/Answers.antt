use Rattle.std.proofs.Common.{◌≡◌, sym, ap, subst, ◌∙◌, ◌+◌, ◌<◌, true≢false, length, arith}
use Rattle.crystal_match.specs.Telling.{PointedType, IsPointed}
use Rattle.crystal_match.specs.Search.{IsSearch}
use Rattle.crystal_match.proofs.Stepping.{pair_below, pair_stays, expand_on, next_pair}
use Rattle.crystal_match.proofs.search.Search.expand.Goals as goal

pub ends-ends-requires-clause-first : goal.ends-ends-requires-clause-first
ends-ends-requires-clause-first c =
    let inv = c.arrows.invariant in
    let is = subst (λ (m : PointedType). IsPointed m) (sym inv.same) c.rank-rank.ensures.pointed in
    rw inv.pair
    (pair_below c.arrows.both is c.arrows.place c.arrows.self.at c.arrows.self.end c.arrows.self.found c.arrows.self.origins.items inv.searching c.arrows.self.at
    (omega (arith, inv.at, inv.end, c.requires.at, inv.searching.within))).0

pub ends-ends-requires-clause-second : goal.ends-ends-requires-clause-second
ends-ends-requires-clause-second c =
    let inv = c.arrows.invariant in
    let is = subst (λ (m : PointedType). IsPointed m) (sym inv.same) c.rank-rank.ensures.pointed in
    rw inv.pair
    (pair_below c.arrows.both is c.arrows.place c.arrows.self.at c.arrows.self.end c.arrows.self.found c.arrows.self.origins.items inv.searching c.arrows.self.at
    (omega (arith, inv.at, inv.end, c.requires.at, inv.searching.within))).1

pub arrows-preserved : goal.arrows-preserved
arrows-preserved c =
    let inv = c.arrows.invariant in
    let e = c.in_ok-follow.ensures in
    let low : c.arrows.self.at < c.arrows.self.end = omega (arith, inv.at, inv.end, c.requires.at) in
    let there : c.arrows.self.at < length c.arrows.self.found = omega (arith, low, inv.searching.within) in
    let rank : c.rank-rank.result ≡ c.arrows.both.space.cartan.rank = c.rank-rank.ensures.rank ∙ ap (λ (m : PointedType). m.space.cartan.rank) (sym inv.same) in
    let done = expand_on c.arrows.both c.ends-ends.new.self c.arrows.place c.arrows.self.at c.arrows.self.end c.rank-rank.result c.at-pair.result
    c.arrows.self.found c.arrows.self.origins.items c.follow.new.self.found c.follow.new.self.origins.items c.arrow_at-arrow.result c.ends-ends.result.0 c.ends-ends.result.1
    c.ends-ends.ensures.same rank inv.searching low inv.pair c.arrow_at-arrow.ensures.low c.arrow_at-arrow.ensures.high c.arrow_at-arrow.ensures.place
    c.ends-ends.ensures.first c.ends-ends.ensures.second (λ apart. true≢false (sym (c.tells.ensures.1 apart) ∙ c.if-tells.false)) e.follows in
    let stays = pair_stays c.arrows.self.at c.arrow_at-arrow.result c.ends-ends.result.0 c.ends-ends.result.1 c.arrows.self.found c.arrows.self.origins.items
    c.follow.new.self.found c.follow.new.self.origins.items e.follows there in
    record {
      searching = rw (e.at, e.end) done;
      at = e.at ∙ inv.at;
      end = e.end ∙ inv.end;
      same = c.ends-ends.ensures.same ∙ inv.same;
      pair = rw e.at (inv.pair ∙ sym stays);
      last = omega arith;
    }

pub returns-clause-expanded : goal.returns-clause-expanded
returns-clause-expanded c =
    let inv = c.arrows.invariant in
    let rank : c.rank-rank.result ≡ c.arrows.both.space.cartan.rank = c.rank-rank.ensures.rank ∙ ap (λ (m : PointedType). m.space.cartan.rank) (sym inv.same) in (
      subst (λ (m : PointedType). IsSearch m 0 (c.arrows.self.at + 1) c.arrows.self.end c.arrows.self.found c.arrows.self.origins.items) inv.same
          (next_pair c.arrows.both c.arrows.self.at c.arrows.self.end c.arrows.self.found c.arrows.self.origins.items c.arrows.place
          (omega (arith, rank, inv.last, c.arrows-test.false, c.arrows.auto.place-end)) inv.searching (omega (arith, inv.at, inv.end, c.requires.at))),
      omega (arith, inv.at),
    )
