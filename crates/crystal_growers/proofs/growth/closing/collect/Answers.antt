-- The next grower is taken in.
use Rattle.std.proofs.Common.{◌∙◌, ◌<◌, ◌+◌, refl, sym, ap, subst, List, length, drop, None, arith, rules}
use Rattle.std.proofs.lemmas.List.{drop-drop}
use Rattle.parcel_deques.specs.Benches.{BenchValue}
use Rattle.crystal_growers.specs.Gathering.{IsNumberOf}
use Rattle.crystal_growers.specs.Growth.{IsLost}
use Rattle.crystal_growers.proofs.Coming.{lost_none, lost_grown}
use Rattle.crystal_growers.proofs.Faults.{if_err}
use Rattle.crystal_growers.proofs.Collection.{IsCollecting, collecting_none, collecting_next, shift_at, has_collected}
use Rattle.crystal_growers.proofs.growth.closing.collect.Goals as goal

pub shifts-init : goal.shifts-init
shifts-init g c = record {
  are = c.requires.starts;
  left = refl;
  collecting = subst (λ (l : List BenchValue). IsCollecting c.args.graph.now c.args.seat.now c.args.seat.now c.args._starts.value.items c.requires.starts.call l 0 None) (sym c.in_ok-benches.ensures.items)
      (collecting_none c.args.graph.now c.args.seat.now c.args._starts.value.items c.requires.belongs c.reveal.ensures.known c.requires.pledge c.requires.starts);
  room = search rules;
}

pub join-requires-clause-other_belongs : goal.join-requires-clause-other_belongs
join-requires-clause-other_belongs g c =
    let i = c.shifts.invariant in
    let here = shift_at c.args.graph.now c.args._starts.value.items c.args.shifts.items c.shifts.shifts.items c.shifts._place c.remove-shift.result c.requires.shifts (let m = c.requires.shifts.0 in omega arith) i.left c.remove-shift.ensures.value in
    here.2.working.worked.acted.belongs

pub join-requires-clause-other_pledge : goal.join-requires-clause-other_pledge
join-requires-clause-other_pledge g c =
    let i = c.shifts.invariant in
    let here = shift_at c.args.graph.now c.args._starts.value.items c.args.shifts.items c.shifts.shifts.items c.shifts._place c.remove-shift.result c.requires.shifts (let m = c.requires.shifts.0 in omega arith) i.left c.remove-shift.ensures.value in
    here.2.working.worked.acted.pledge

pub shifts-preserved : goal.shifts-preserved
shifts-preserved g c =
    let i = c.shifts.invariant in
    let starts = c.args._starts.value.items in
    let k = c.shifts._place in
    let t = c.remove-shift.result in
    let many = c.requires.shifts.0 in
    let below : k < length starts = omega arith in
    let here = shift_at c.args.graph.now starts c.args.shifts.items c.shifts.shifts.items k t c.requires.shifts below i.left c.remove-shift.ensures.value in
    record {
      are = i.are;
      left = c.remove-shift.ensures.items ∙ ap (λ l. drop 1 l) i.left ∙ drop-drop 1 k c.args.shifts.items;
      collecting = subst (λ (l : List BenchValue). IsCollecting c.args.graph.now c.args.seat.now c.join.new.self starts i.are.call l (k + 1) c.in_ok-full.full) (sym c.push_reserved.ensures.items)
          (collecting_next c.args.graph.now c.args.seat.now c.shifts.seat c.join.new.self starts c.shifts.benches.items k c.shifts.full c.in_ok-full.full i.are i.collecting below here.0 here.1 t here.2 c.in_ok-full.ensures
          c.join.ensures.table c.join.ensures.view c.join.ensures.front.0 c.join.ensures.front.1);
      room = search rules;
    }

pub returns-in_err-benches-clause-fault : goal.returns-in_err-benches-clause-fault
returns-in_err-benches-clause-fault g c = if_err c.from_residual.result (IsLost c.args.seat.now c.args.seat.now) (lost_none c.args.seat.now)

pub returns-in_err-full-clause-fault : goal.returns-in_err-full-clause-fault
returns-in_err-full-clause-fault g c =
    let p = c.shifts.invariant.collecting in
    if_err c.from_residual-in_err-full.result (IsLost c.args.seat.now c.shifts.seat) (lost_grown c.args.graph.now (IsNumberOf c.args._starts.value.items) c.args.seat.now c.shifts.seat 0 p.news c.requires.belongs.table c.requires.pledge p.grown)

pub returns-clause-collected : goal.returns-clause-collected
returns-clause-collected g c =
    let i = c.shifts.invariant in
    has_collected c.args.graph.now c.args.seat.now c.shifts.seat c.args._starts.value.items c.shifts.benches.items c.shifts._place c.shifts.full i.are i.collecting (let m = c.requires.shifts.0 in omega arith)
