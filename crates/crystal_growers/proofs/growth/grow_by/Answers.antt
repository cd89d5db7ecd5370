-- The growers begin, work, and come back.
use Rattle.std.proofs.Common.{ℕ, refl, sym, subst, nat_eq, List, drop, All, Contains, Option, Some, None, rules}
use Rattle.std.specs.List.{IsDistinct}
use Rattle.std.proofs.lemmas.List.{nil_from_length}
use Rattle.graph_history.specs.History.{state_of, HasSome}
use Rattle.crystal_growers.specs.declared.growth.Grown.TheVariants.{Closed, Full}
use Rattle.crystal_growers.specs.Gathering.{AreShifts}
use Rattle.crystal_growers.specs.Growth.{IsLost, HasClosed}
use Rattle.crystal_growers.proofs.Coming.{lost_both}
use Rattle.crystal_growers.proofs.Faults.{if_err}
use Rattle.crystal_growers.proofs.Loading.{begun_lost}
use Rattle.crystal_growers.proofs.Beginning.{starts_free, rest_once, rest_there, rest_unpaid}
use Rattle.crystal_growers.proofs.Ended.{is_grown, grown_nothing}
use Rattle.crystal_growers.proofs.growth.grow_by.Goals as goal

pub work_all-requires-clause-free : goal.work_all-requires-clause-free
work_all-requires-clause-free g c = λ κs h. starts_free c.args.graph.now c.args.seat.now.view.front c.in_ok-starts.field-0.starts.items c.in_ok-starts.ensures.begun.starts_are

pub returns-then-is_empty-clause-grown : goal.returns-then-is_empty-clause-grown
returns-then-is_empty-clause-grown g c =
    grown_nothing c.args.graph.now c.args.seat.now c.args.cells.now c.args.growers (nil_from_length c.args.cells.now (search rules)) c.requires.can c.reveal.ensures.known c.requires.owed

pub returns-in_err-shifts-clause-fault : goal.returns-in_err-shifts-clause-fault
returns-in_err-shifts-clause-fault g c =
    if_err c.from_residual-in_err-shifts.result (IsLost c.args.seat.now c.begin.new.seat)
    (begun_lost c.args.graph.now c.args.seat.now c.begin.new.seat c.args.cells.now (drop c.in_ok-starts.field-0.loaded c.args.cells.now) c.args.growers c.in_ok-starts.field-0.starts.items c.in_ok-starts.ensures.begun)

pub close_growth-requires-clause-shifts : goal.close_growth-requires-clause-shifts
close_growth-requires-clause-shifts g c = subst (λ v. AreShifts c.args.graph.now v.items c.in_ok-shifts.shifts.items) (sym c.of-before.ensures) c.in_ok-shifts.ensures

pub close_growth-requires-clause-once : goal.close_growth-requires-clause-once
close_growth-requires-clause-once g c =
    subst (λ (l : List ℕ). IsDistinct nat_eq l) (sym c.split_at.ensures.back)
    (rest_once c.args.graph.now c.args.seat.now c.begin.new.seat c.args.cells.now (drop c.in_ok-starts.field-0.loaded c.args.cells.now) c.args.growers c.in_ok-starts.field-0.starts.items c.requires.can c.in_ok-starts.ensures.begun)

pub close_growth-requires-clause-there : goal.close_growth-requires-clause-there
close_growth-requires-clause-there g c =
    subst (λ (l : List ℕ). All (HasSome (state_of c.begin.new.seat.view.front)) l) (sym c.split_at.ensures.back)
    (rest_there c.args.graph.now c.args.seat.now c.begin.new.seat c.args.cells.now (drop c.in_ok-starts.field-0.loaded c.args.cells.now) c.args.growers c.in_ok-starts.field-0.starts.items c.requires.can c.in_ok-starts.ensures.begun)

pub close_growth-requires-clause-unpaid : goal.close_growth-requires-clause-unpaid
close_growth-requires-clause-unpaid g c =
    subst (λ (l : List ℕ). (d : ℕ) → Contains l d → Contains c.begin.new.seat.view.dues.unpaid d) (sym c.split_at.ensures.back)
    (rest_unpaid c.args.graph.now c.args.seat.now c.begin.new.seat c.args.cells.now (drop c.in_ok-starts.field-0.loaded c.args.cells.now) c.args.growers c.in_ok-starts.field-0.starts.items c.requires.can c.in_ok-starts.ensures.begun)

pub returns-in_err-close_growth-clause-fault : goal.returns-in_err-close_growth-clause-fault
returns-in_err-close_growth-clause-fault g c =
    if_err c.from_residual-in_err-close_growth.result (IsLost c.args.seat.now c.close_growth.new.seat)
    (lost_both c.args.seat.now c.begin.new.seat c.close_growth.new.seat
    (begun_lost c.args.graph.now c.args.seat.now c.begin.new.seat c.args.cells.now (drop c.in_ok-starts.field-0.loaded c.args.cells.now) c.args.growers c.in_ok-starts.field-0.starts.items c.in_ok-starts.ensures.begun) c.in_err-close_growth.ensures.fault)

pub returns-in-None-clause-grown : goal.returns-in-None-clause-grown
returns-in-None-clause-grown g c =
    let rest : List ℕ = drop c.in_ok-starts.field-0.loaded c.args.cells.now in
    let starts = c.in_ok-starts.field-0.starts in
    let closed = subst (λ (f : Option ℕ). HasClosed c.args.graph.now c.begin.new.seat c.close_growth.new.seat starts.items rest f) c.in-None.is
    (subst (λ (l : List ℕ). HasClosed c.args.graph.now c.begin.new.seat c.close_growth.new.seat starts.items l c.in_ok-close_growth.field-0) c.split_at.ensures.back
    (subst (λ v. HasClosed c.args.graph.now c.begin.new.seat c.close_growth.new.seat v.items c.split_at.result.1.now c.in_ok-close_growth.field-0) c.of-before.ensures c.in_ok-close_growth.ensures.closed)) in
    is_grown c.args.graph.now c.args.seat.now c.begin.new.seat c.close_growth.new.seat c.args.cells.now rest c.args.growers starts.items None c.requires.can c.reveal.ensures.known c.reveal-2.ensures.known
    c.requires.growers.0 c.requires.numbers c.in_ok-starts.ensures.begun closed c.requires.owed Closed (λ x is. cc) (λ n. refl)

pub returns-in-Some-clause-grown : goal.returns-in-Some-clause-grown
returns-in-Some-clause-grown g c =
    let rest : List ℕ = drop c.in_ok-starts.field-0.loaded c.args.cells.now in
    let starts = c.in_ok-starts.field-0.starts in
    let closed = subst (λ (f : Option ℕ). HasClosed c.args.graph.now c.begin.new.seat c.close_growth.new.seat starts.items rest f) c.in-Some.is
    (subst (λ (l : List ℕ). HasClosed c.args.graph.now c.begin.new.seat c.close_growth.new.seat starts.items l c.in_ok-close_growth.field-0) c.split_at.ensures.back
    (subst (λ v. HasClosed c.args.graph.now c.begin.new.seat c.close_growth.new.seat v.items c.split_at.result.1.now c.in_ok-close_growth.field-0) c.of-before.ensures c.in_ok-close_growth.ensures.closed)) in
    is_grown c.args.graph.now c.args.seat.now c.begin.new.seat c.close_growth.new.seat c.args.cells.now rest c.args.growers starts.items (Some c.in-Some.code) c.requires.can c.reveal.ensures.known c.reveal-2.ensures.known
    c.requires.growers.0 c.requires.numbers c.in_ok-starts.ensures.begun closed c.requires.owed (Full c.in-Some.code) (λ x is. cc) (λ n. cc)
