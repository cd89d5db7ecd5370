use Rattle.std.proofs.Common.{◌≡◌, ◌++◌, ◌∙◌, ap, List, ℕ}
use Rattle.graph_runs.proofs.Heard.{hearing_next, waiting_rest}
use Rattle.graph_runs.proofs.hear.hear.Goals as goal

pub sessions-preserved : goal.sessions-preserved
sessions-preserved c =
    let added : c.extend_from_slice.new.self.items ≡ c.sessions.cells.items ++ c.in_ok-served.served.cells.items =
    c.in_ok-extend_from_slice.ensures.items ∙ ap (λ (l : List ℕ). c.sessions.cells.items ++ l) c.as_slice.ensures.value in
    record {
      hearing = hearing_next c.args.graph.now c.args.scripts.now c.args.seat.now c.sessions.seat c.join.new.self c.sessions.back.items c.pop.new.self.items c.in-Some.one c.in_ok-served.served
          c.sessions.told.items c.push.new.self.items c.sessions.cells.items c.extend_from_slice.new.self.items c.in-Some.ensures.items c.in_ok-served.was c.sessions.invariant.waiting
          c.sessions.invariant.hearing c.join.ensures.table c.join.ensures.view c.join.ensures.front.0 c.in_ok-push.ensures.items added;
      waiting = waiting_rest c.args.graph.now c.args.scripts.now c.sessions.back.items c.pop.new.self.items c.in-Some.one c.in-Some.ensures.items c.sessions.invariant.waiting;
    }
