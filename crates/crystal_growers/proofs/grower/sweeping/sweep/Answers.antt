-- One parcel more joins, and its cells are drawn.
use Rattle.std.proofs.Common.{◌≡◌, ◌∙◌, sym, subst, ℕ, List, [], ◌∷◌, ◌++◌}
use Rattle.parcel_deques.specs.Lists.{SameItems}
use Rattle.parcel_deques.specs.Parcels.{owned_by}
use Rattle.parcel_deques.specs.Benches.{BenchValue, HasAll, FoundOwnEmpty}
use Rattle.parcel_deques.proofs.EndSteps.{of_none}
use Rattle.crystal_growers.specs.Drawing.{IsWaiting}
use Rattle.crystal_growers.specs.Grower.{HasSwept}
use Rattle.crystal_growers.proofs.Acting.{acted_then}
use Rattle.crystal_growers.proofs.Serving.{fewer_left, sweeping_none, sweeping_next, working_next, swept, goes_begin, goes_waits, goes_then}
use Rattle.crystal_growers.proofs.grower.sweeping.sweep.Goals as goal

pub parcels-init : goal.parcels-init
parcels-init g c = record {
  got = [];
  sweeping = sweeping_none c.args.graph.now c.args.swept.seat c.args.bench.now c.requires.belongs c.reveal.ensures.known c.requires.pledge;
  goes = goes_begin c.args.graph.now c.args.swept.seat c.args.swept.full c.requires.waiting;
}

pub go_on-requires-clause-waiting : goal.go_on-requires-clause-waiting
go_on-requires-clause-waiting g c is =
    let t = c.take_in-cells in
    subst (λ (l : List ℕ). IsWaiting c.args.graph.now l t.new.seat) (sym (c.as_slice.ensures ∙ t.ensures.cells))
    (t.ensures.waits [] (goes_waits c.args.graph.now c.parcels.swept.seat c.args.swept.full c.parcels.swept.full c.parcels.invariant.goes is))

pub returns-in-Err-clause-fault : goal.returns-in-Err-clause-fault
returns-in-Err-clause-fault g c =
    let i = c.parcels.invariant in
    let t = c.take_in-cells in
    working_next c.args.graph.now c.args.swept.seat c.parcels.swept.seat t.new.seat c.in-Err.fault.seat c.args.bench.now c.parcels.bench c.drain.new.self i.got c.in-Some.parcel i.sweeping
    c.drain.ensures.same c.in-Some.ensures.some.0 c.in-Some.ensures.some.1 t.ensures.works c.in-Err.ensures.fault

pub parcels-smaller : goal.parcels-smaller
parcels-smaller g c = fewer_left c.parcels.bench c.drain.new.self c.in-Some.parcel c.drain.ensures.same c.in-Some.ensures.some.0 c.in-Some.ensures.some.1 c.in-Some.ensures.few

pub parcels-preserved : goal.parcels-preserved
parcels-preserved g c =
    let i = c.parcels.invariant in
    let t = c.take_in-cells in
    let x = c.in-Some.parcel in
    let next = c.in-Ok.next in
    let done = c.in-Ok.ensures.ok in
    record {
      got = i.got ++ x ∷ [];
      sweeping = sweeping_next c.args.graph.now c.args.swept.seat c.parcels.swept.seat t.new.seat next.seat c.args.bench.now c.parcels.bench c.drain.new.self i.got x i.sweeping
          c.drain.ensures.same c.in-Some.ensures.some.0 c.in-Some.ensures.some.1 t.ensures.works done.0;
      goes = goes_then c.args.graph.now c.parcels.swept.seat next.seat c.args.swept.full c.parcels.swept.full next.full ((x ∷ []) ++ []) [] i.goes
          (acted_then c.args.graph.now c.parcels.swept.seat t.new.seat next.seat (x ∷ []) [] [] [] t.ensures.works.acted done.0.acted) done.1;
    }

pub returns-clause-ok : goal.returns-clause-ok
returns-clause-ok g c =
    let i = c.parcels.invariant in
    let none : (c.drain.new.self ≡ c.parcels.bench) × FoundOwnEmpty c.parcels.bench = of_none c.drain.result c.in_default.not-Some c.drain.ensures.none in
    let all : HasAll c.parcels.bench → SameItems (owned_by c.parcels.bench.number c.parcels.bench.taken) c.parcels.bench.pushed = of_none c.drain.result c.in_default.not-Some c.drain.ensures.all in (
      subst (λ (b : BenchValue). HasSwept c.args.graph.now c.args.swept.seat c.parcels.swept.seat c.args.bench.now b) (sym none.0)
          (swept c.args.graph.now c.args.swept.seat c.parcels.swept.seat c.args.bench.now c.parcels.bench i.got i.sweeping none.1 all),
      i.goes,
    )
