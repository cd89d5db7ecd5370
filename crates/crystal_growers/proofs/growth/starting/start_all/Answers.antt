-- The next grower gets its seat and its bench.
use Rattle.std.proofs.Common.{◌≡◌, ◌∙◌, ◌-◌, ◌+◌, ◌*◌, ◌/◌, ◌<◌, ℕ, sym, ap, subst, List, length, get_or, arith, rules}
use Rattle.std.proofs.lemmas.List.{drop_more}
use Rattle.graph_history.specs.Views.{View}
use Rattle.graph_rule.specs.Values.{Belongs}
use Rattle.parcel_deques.specs.Benches.{BenchValue}
use Rattle.crystal_growers.proofs.Loading.{IsStarting, starting_none, starting_next, share_fits, share_left, has_started}
use Rattle.crystal_growers.proofs.growth.starting.start_all.Goals as goal

pub growers-init : goal.growers-init
growers-init g c =
    let count : c.len-growers.result ≡ length c.args.benches.items = let e = c.len-growers.ensures in omega arith in
    let stake = c.stake.ensures.stake in
    let share : ℕ = (c.stake.result - 1) / c.len-growers.result in
    let some = c.requires.benches.0 in
    let more = c.requires.stake in
    let fits = share_fits c.len-growers.result c.stake.result (omega arith) (omega arith) in
    record {
      starting = subst (λ l. IsStarting c.args.graph.now c.args.seat.now c.args.seat.now c.args.benches.items c.args.benches.items l 0 share) (sym c.in_ok-starts.ensures.items)
          (starting_none c.args.graph.now c.args.seat.now c.args.benches.items share c.requires.idle
          (subst (λ (n : ℕ). n * share < c.args.seat.now.view.stake) count (subst (λ (n : ℕ). c.len-growers.result * share < n) stake fits.1)));
      room = search rules;
    }

pub split-seat-requires-clause-stake : goal.split-seat-requires-clause-stake
split-seat-requires-clause-stake g c =
    let count = c.len-growers.ensures in
    let stake = c.stake.ensures.stake in
    let some = c.requires.benches.0 in
    let more = c.requires.stake in
    let within = c.growers-test.true in
    let fits = share_fits c.len-growers.result c.stake.result (omega arith) (omega arith) in (
      fits.0,
      share_left c.args.graph.now c.args.seat.now c.growers.seat c.args.benches.items c.growers.benches.items c.growers.starts.items c.growers.worker ((c.stake.result - 1) / c.len-growers.result) c.growers.invariant.starting (omega arith),
    )

pub growers-preserved : goal.growers-preserved
growers-preserved g c =
    let i = c.growers.invariant.starting in
    let share : ℕ = (c.stake.result - 1) / c.len-growers.result in
    let k : ℕ = c.growers.worker in
    let count = c.len-growers.ensures in
    let within = c.growers-test.true in
    let below : k < length c.args.benches.items = omega arith in
    let bench = c.remove-bench.result in
    let is : bench ≡ get_or c.args.benches.items k bench = c.remove-bench.ensures.value ∙ ap (λ (l : List BenchValue). get_or l 0 bench) (i.left_is ∙ drop_more c.args.benches.items k bench below) in
    let belongs : Belongs c.growers.seat c.args.graph.now = record { table = i.table ∙ c.requires.belongs.table; world = ap (λ (v : View). v.world) i.view ∙ c.requires.belongs.world } in
    record {
      starting = subst (λ l. IsStarting c.args.graph.now c.args.seat.now c.split-seat.new.self c.args.benches.items c.remove-bench.new.self.items l (k + 1) share) (sym c.push_reserved.ensures.items)
          (starting_next c.args.graph.now c.args.seat.now c.growers.seat c.split-seat.new.self c.args.benches.items c.growers.benches.items c.remove-bench.new.self.items c.growers.starts.items k share i below bench
          (record { alloc = c.args.alloc; worker = k; seat = c.split-seat.result; bench = bench })
          belongs c.requires.numbers c.split-seat.ensures.table.0 c.split-seat.ensures.parent c.split-seat.ensures.table.1 c.split-seat.ensures.child c.split-seat.ensures.known.1 is c.remove-bench.ensures.items);
      room = search rules;
    }

pub returns-clause-started : goal.returns-clause-started
returns-clause-started g c =
    let count = c.len-growers.ensures in
    let within = c.growers-test.false in
    let i = c.growers.invariant.starting in
    let most = i.within in
    has_started c.args.graph.now c.args.seat.now c.growers.seat c.args.benches.items c.growers.benches.items c.growers.starts.items c.growers.worker ((c.stake.result - 1) / c.len-growers.result) i (omega arith)
