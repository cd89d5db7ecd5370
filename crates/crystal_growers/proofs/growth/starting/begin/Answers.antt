-- The cells are loaded on new benches, and the growers split off.
use Rattle.std.proofs.Common.{◌≡◌, ◌*◌, ◌/◌, ◌%◌, ◌+◌, ◌≤◌, min, ℕ, sym, subst, length, drop, arith}
use Rattle.std.proofs.lemmas.Grind.{div_ceil_times}
use Rattle.parcel_deques.specs.Making.{AreNew}
use Rattle.crystal_growers.specs.Growth.{IsLost}
use Rattle.crystal_growers.proofs.Coming.{lost_none, lost_both}
use Rattle.crystal_growers.proofs.Faults.{if_err}
use Rattle.crystal_growers.proofs.Loading.{loaded_lost}
use Rattle.crystal_growers.proofs.growth.starting.begin.Goals as goal

pub load_all-requires-clause-new : goal.load_all-requires-clause-new
load_all-requires-clause-new g c =
    let new = c.in_ok-benches.ensures in
    let bound = div_ceil_times (length c.args.cells.now) 64 (omega arith) in
    let is : c.div_ceil.result ≡ length c.args.cells.now / 64 + min 1 (length c.args.cells.now % 64) = c.div_ceil.ensures in (
      c.div_ceil.result,
      subst (λ (n : ℕ). AreNew n c.div_ceil.result c.in_ok-benches.benches.items) (sym new.many) new,
      subst (λ (n : ℕ). length c.args.cells.now ≤ n * 64) (sym is) (omega (arith, bound.0)),
    )

pub returns-in_err-benches-clause-fault : goal.returns-in_err-benches-clause-fault
returns-in_err-benches-clause-fault g c = if_err c.from_residual.result (IsLost c.args.seat.now c.args.seat.now) (lost_none c.args.seat.now)

pub returns-in_err-starts-clause-fault : goal.returns-in_err-starts-clause-fault
returns-in_err-starts-clause-fault g c =
    if_err c.from_residual-in_err-starts.result (IsLost c.args.seat.now c.start_all.new.seat)
    (lost_both c.args.seat.now c.load_all.new.seat c.start_all.new.seat
    (loaded_lost c.args.seat.now c.load_all.new.seat c.args.cells.now (drop c.in_ok-loaded.loaded c.args.cells.now) (length c.in_ok-benches.benches.items) c.load_all.new.benches.items c.in_ok-loaded.ensures.loaded)
    c.in_err-starts.ensures.fault)
