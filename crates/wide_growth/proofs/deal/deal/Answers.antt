-- The next job has the next part.
use Rattle.std.proofs.Common.{◌≡◌, ◌∙◌, ◌+◌, ◌<◌, ◌≤◌, ℕ, refl, sym, ap, subst, List, [], ◌∷◌, ◌++◌, length, drop, arith, rules}
use Rattle.std.proofs.lemmas.Bool.{eq-eqb}
use Rattle.wide_growth.specs.declared.drawing.OpenVertex.{OpenVertex}
use Rattle.wide_growth.specs.declared.work.Job.{Job}
use Rattle.wide_growth.proofs.Dealing.{IsDealing, dealing_next, none_left}
use Rattle.wide_growth.proofs.deal.deal.Goals as goal

pub workers-preserved : goal.workers-preserved
workers-preserved c =
    let i = c.workers.invariant in
    let n : ℕ = c.part_size.result in
    let rest : List OpenVertex = c.workers.rest.now in
    let j : Job = record { alloc = c.args.alloc; worker = c.workers.worker; turn = c.args.turn; seat = c.split-seat.result; waiting = c.in_ok-waiting.waiting } in
    record {
      dealing = subst (λ (l : List Job). IsDealing c.args.graph.now c.args.seat.now c.split-seat.new.self c.args.waiting.now c.split_at.result.1.now (c.workers.worker + 1) l) (sym c.push_reserved.ensures.items)
          (subst (λ (l : List OpenVertex). IsDealing c.args.graph.now c.args.seat.now c.split-seat.new.self c.args.waiting.now l (c.workers.worker + 1) (c.workers.jobs.items ++ j ∷ [])) (sym c.split_at.ensures.back)
          (dealing_next c.args.graph.now c.args.seat.now c.workers.seat c.split-seat.new.self c.args.waiting.now rest c.workers.worker n c.workers.jobs.items j c.requires.can.ready i.dealing
          c.split-seat.ensures.table.0 c.split-seat.ensures.parent c.split-seat.ensures.known.0 c.split-seat.ensures.table.1 c.split-seat.ensures.child (c.in_ok-waiting.ensures.items ∙ c.split_at.ensures.front)));
      all = λ last. c.split_at.ensures.back ∙ none_left rest n (c.part_size.ensures.all (eq-eqb (c.workers.worker + 1) c.args.growers last));
      room = search rules;
    }
