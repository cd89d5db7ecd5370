-- What is left in the next deque is taken.
use Rattle.std.proofs.Common.{◌≡◌, subst, [], get_or, arith, rules}
use Rattle.std.proofs.lemmas.List.{get_or_read}
use Rattle.parcel_deques.specs.Benches.{BenchValue}
use Rattle.crystal_growers.specs.Grower.{HasSwept}
use Rattle.crystal_growers.proofs.Serving.{goes_waits, goes_then}
use Rattle.crystal_growers.proofs.Clearing.{clearing_none, clearing_next, has_cleared}
use Rattle.crystal_growers.proofs.growth.closing.clear.Goals as goal

pub benches-init : goal.benches-init
benches-init g c = record {
  clearing = clearing_none c.args.graph.now c.args.swept.seat c.in_ok-swept.swept.seat c.args.benches.now.items c.in_ok-swept.ensures.ok.0;
  goes = c.in_ok-swept.ensures.ok.1;
}

pub sweep-requires-clause-waiting : goal.sweep-requires-clause-waiting
sweep-requires-clause-waiting g c = λ none. goes_waits c.args.graph.now c.benches.swept.seat c.args.swept.full c.benches.swept.full c.benches.invariant.goes none

pub benches-preserved : goal.benches-preserved
benches-preserved g c =
    let i = c.benches.invariant in
    let old = c.args.benches.now.items in
    let now = c.benches.benches.items in
    let k = c.benches.place in
    let many = i.clearing.many in
    let bench = c.index_mut.result.now in
    let swept = c.in_ok-swept-2.ensures.ok in
    let is : bench ≡ get_or now k bench = get_or_read now k bench (omega arith) c.index_mut.ensures.value bench in
    let one = subst (λ (b : BenchValue). HasSwept c.args.graph.now c.benches.swept.seat c.in_ok-swept-2.swept.seat b c.sweep.new.bench) is swept.0 in
    record {
      clearing = clearing_next c.args.graph.now c.args.swept.seat c.benches.swept.seat c.in_ok-swept-2.swept.seat old now k bench c.sweep.new.bench i.clearing (omega arith) c.requires.home one;
      goes = goes_then c.args.graph.now c.benches.swept.seat c.in_ok-swept-2.swept.seat c.args.swept.full c.benches.swept.full c.in_ok-swept-2.swept.full swept.0.got [] i.goes swept.0.sweeping.worked.acted swept.1;
    }

pub returns : goal.returns
returns g c = (has_cleared c.args.graph.now c.args.swept.seat c.benches.swept.seat c.args.benches.now.items c.benches.benches.items c.benches.place c.benches.invariant.clearing (search rules), c.benches.invariant.goes)
