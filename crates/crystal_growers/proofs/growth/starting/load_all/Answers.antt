-- The next parcel is loaded.
use Rattle.std.proofs.Common.{◌≡◌, ◌∙◌, ◌-◌, ◌+◌, ◌<◌, ℕ, refl, sym, ap, subst, List, [], ◌∷◌, length, take, drop, get_or, arith, rules}
use Rattle.std.proofs.lemmas.List.{take_min, drop_min, get_or_read}
use Rattle.graph_history.specs.Views.{View}
use Rattle.parcel_deques.specs.Benches.{BenchValue}
use Rattle.crystal_growers.specs.Drawing.{CanDraw}
use Rattle.crystal_growers.specs.Grower.{HasPushed}
use Rattle.crystal_growers.specs.Growth.{IsLost}
use Rattle.crystal_growers.proofs.Faults.{if_err}
use Rattle.crystal_growers.proofs.Loading.{loading_none, loading_next, loading_lost, room_left, can_rest, has_loaded}
use Rattle.crystal_growers.proofs.growth.starting.load_all.Goals as goal

pub parcels-init : goal.parcels-init
parcels-init g c = record {
  parcels = 0;
  capacity = c.requires.new.0;
  loading = loading_none c.args.seat.now c.args.cells.now (length c.args.benches.now.items) c.requires.new.0 c.args.benches.now.items refl c.requires.stake c.requires.new.1;
  fits = c.requires.new.2;
  within = c.requires.benches.0;
}

pub load_part-requires-clause-can : goal.load_part-requires-clause-can
load_part-requires-clause-can g c =
    let i = c.parcels.invariant in
    let part : c.split_at.result.0.now ≡ take 64 c.parcels.rest.now = c.split_at.ensures.front ∙ ap (λ (n : ℕ). take n c.parcels.rest.now) c.min.ensures ∙ take_min 64 c.parcels.rest.now in
    subst (λ (l : List ℕ). CanDraw c.args.graph.now l c.parcels.seat) (sym part)
    (can_rest c.args.graph.now c.args.seat.now c.parcels.seat c.args.cells.now c.parcels.rest.now (length c.args.benches.now.items) i.capacity i.parcels c.parcels.benches.items c.requires.can c.stake.ensures.known i.loading)

pub load_part-requires-clause-numbers : goal.load_part-requires-clause-numbers
load_part-requires-clause-numbers g c =
    let i = c.parcels.invariant in
    let left : c.parcels.seat.view.left ≡ c.args.seat.now.view.left - i.parcels = ap (λ (v : View). v.left) i.loading.view in
    let counted = i.loading.counted in
    let staked = c.reveal.ensures.known.sound.staked in
    let live = c.stake.ensures.known.sound.live in
    let some = c.requires.numbers in
    omega arith

pub load_part-requires-clause-room : goal.load_part-requires-clause-room
load_part-requires-clause-room g c =
    let i = c.parcels.invariant in
    let many = i.loading.many in
    let bench = c.index_mut.result.now in
    let is : bench ≡ get_or c.parcels.benches.items c.parcels.place bench = get_or_read c.parcels.benches.items c.parcels.place bench (let w = i.within in omega arith) c.index_mut.ensures.value bench in
    subst (λ (b : BenchValue). length b.pushed < b.capacity) (sym is)
    (room_left c.args.seat.now c.parcels.seat c.args.cells.now c.parcels.rest.now (length c.args.benches.now.items) i.capacity i.parcels c.parcels.benches.items c.parcels.place bench i.loading i.within (search rules) i.fits)

pub parcels-preserved : goal.parcels-preserved
parcels-preserved g c =
    let i = c.parcels.invariant in
    let many = i.loading.many in
    let bench = c.index_mut.result.now in
    let next = c.load_part.new.bench in
    let part = c.split_at.result.0.now in
    let later = c.split_at.result.1.now in
    let is : bench ≡ get_or c.parcels.benches.items c.parcels.place bench = get_or_read c.parcels.benches.items c.parcels.place bench (let w = i.within in omega arith) c.index_mut.ensures.value bench in
    let part_is : part ≡ take 64 c.parcels.rest.now = c.split_at.ensures.front ∙ ap (λ (n : ℕ). take n c.parcels.rest.now) c.min.ensures ∙ take_min 64 c.parcels.rest.now in
    let later_is : later ≡ drop 64 c.parcels.rest.now = c.split_at.ensures.back ∙ ap (λ (n : ℕ). drop n c.parcels.rest.now) c.min.ensures ∙ drop_min 64 c.parcels.rest.now in
    let loaded = c.in_ok-load_part.ensures.pushed in
    record {
      parcels = i.parcels + 1;
      capacity = i.capacity;
      loading = loading_next c.args.seat.now c.parcels.seat c.load_part.new.seat c.args.cells.now c.parcels.rest.now part later (length c.args.benches.now.items) i.capacity i.parcels c.parcels.place c.parcels.benches.items bench next loaded.0
          i.loading i.within part_is later_is c.load_part.ensures.table c.in_ok-load_part.ensures.view (search rules) (subst (λ (b : BenchValue). HasPushed b next (loaded.0 ∷ [])) is loaded.1) loaded.2 loaded.3;
      fits = i.fits;
      within = search rules;
    }

pub returns-in_err-load_part-clause-fault : goal.returns-in_err-load_part-clause-fault
returns-in_err-load_part-clause-fault g c =
    let i = c.parcels.invariant in
    if_err c.from_residual.result (IsLost c.args.seat.now c.load_part.new.seat)
    (subst (λ s. IsLost c.args.seat.now s) (sym c.in_err-load_part.ensures.fault)
    (loading_lost c.args.seat.now c.parcels.seat c.args.cells.now c.parcels.rest.now (length c.args.benches.now.items) i.capacity i.parcels c.parcels.benches.items i.loading))

pub returns-clause-loaded : goal.returns-clause-loaded
returns-clause-loaded g c =
    let i = c.parcels.invariant in
    has_loaded c.args.seat.now c.parcels.seat c.args.cells.now c.parcels.rest.now (length c.args.benches.now.items) i.capacity i.parcels (length c.args.cells.now - length c.parcels.rest.now) c.parcels.benches.items i.loading refl
