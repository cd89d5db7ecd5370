-- The seats of the sessions.
use Rattle.std.proofs.Common.{◌≡◌, sym, ap, ap₂, ◌∙◌, arith, ℕ, ◌+◌, ◌<◌, List, [], ◌∷◌, ◌++◌, length, get_or, Result, Ok, Err, IfOk}
use Rattle.crystal_streams.specs.declared.faults.NoMemory.{NoMemory}
use Rattle.graph_history.specs.declared.event.Event.{Event}
use Rattle.graph_history.specs.Views.{View}
use Rattle.graph_history.specs.Desks.{by}
use Rattle.graph_rule.specs.Values.{GraphValue, SeatValue}
use Rattle.shared_desk.proofs.SharedSteps.{worked_belongs}
use Rattle.job_text.specs.declared.commands.Command.{Command}
use Rattle.session_desk.specs.Replies.{replies}
use Rattle.graph_runs.specs.declared.seats.Session.{Session}
use Rattle.graph_runs.specs.declared.serve.Served.{Served}
use Rattle.graph_runs.specs.Seating.{IsSeatedAt, IsSeated}
use Rattle.graph_runs.specs.Beside.{HasSat, IsBack}
use Rattle.graph_runs.specs.Hearing.{AreWaiting}

-- a session is back
back_one : (g : GraphValue) (scripts : List (List Command)) (v : View) (k : ℕ) (one : Session) (back : Result Served NoMemory) → v.next ≡ 1 → IsSeatedAt g v k one → HasSat g scripts one back
    → IfOk back (IsBack g (get_or scripts k []) (k + 1))
back_one g scripts v k one (Err e) begins at sat = tt
back_one g scripts v k one (Ok s) begins at sat =
    let went = sat.worked.went in
    let number : one.seat.view.number ≡ k + 1 = ap (λ (u : View). u.number) at.cut ∙ (let e : v.next + k ≡ k + 1 = omega (arith, begins) in e) in
    let calls_are : s.seat.view.calls ≡ by one.seat.view.number sat.acts =
    ap (λ (u : View). u.calls) went.is ∙ ap (λ (l : List Event). l ++ by one.seat.view.number sat.acts) (ap (λ (u : View). u.calls) at.cut) in
    record {
      belongs = worked_belongs g one.seat s.seat sat.acts at.belongs sat.worked;
      number = ap (λ (u : View). u.number) went.is ∙ number;
      stake = ap (λ (u : View). u.stake) went.is ∙ ap (λ (u : View). u.stake) at.cut;
      pledge = sat.worked.pledge;
      unpaid = sat.unpaid ∙ ap (λ (l : List ℕ). l ++ s.cells.items) (ap (λ (u : View). u.dues.unpaid) at.cut);
      replied = ap₂ (λ (n : ℕ) (l : List Event). replies g.world.space (get_or scripts n []) l) (sym at.placed) calls_are ∙ sat.replied;
      printable = sat.printable;
    }

-- some session of a list that has one
some_session : (sessions : List Session) (k : ℕ) → k < length sessions → Session
some_session [] k below = absurd (omega (arith, below))
some_session (one ∷ sessions) k below = one

pub all_back : (g : GraphValue) (scripts : List (List Command)) (first now : SeatValue) (sessions : List Session) (back : List (Result Served NoMemory)) → first.view.next ≡ 1
    → IsSeated g first now (length scripts) sessions → length back ≡ length sessions
    → ((k : ℕ) (e : Session) (d : Result Served NoMemory) → k < length sessions → HasSat g scripts (get_or sessions k e) (get_or back k d)) → AreWaiting g scripts back
all_back g scripts first now sessions back begins s many each = λ k d below.
    let within : k < length sessions = omega (arith, many, below) in
    let place : k < length scripts = omega (arith, s.many, within) in
    let e = some_session sessions k within in
    back_one g scripts first.view k (get_or sessions k e) (get_or back k d) begins (s.each k e place) (each k e d within)
