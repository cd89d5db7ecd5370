-- A further round, and the end.
use Rattle.std.proofs.Common.{◌≡◌, ◌∙◌, ◌+◌, ◌-◌, ◌*◌, ◌<◌, ◌≤◌, ℕ, sym, ap, subst, List, [], length, arith, rules}
use Rattle.std.proofs.lemmas.List.{nil_from_length}
use Rattle.graph_history.specs.History.{state_of, IsClosed}
use Rattle.graph_history.specs.declared.event.Event.{Event}
use Rattle.wide_words.specs.WideHistory.{WideWorldType, IsWideWorld, flat}
use Rattle.wide_growth.specs.declared.drawing.OpenVertex.{OpenVertex}
use Rattle.wide_growth.specs.Rounds.{CanDraw, IsRound, IsGrowing}
use Rattle.wide_growth.proofs.Rounding.{growing_next, too_many, can_draw, few_of_round, all_whole, grown}
use Rattle.wide_growth.proofs.rounds.grow.Goals as goal

pub returns-then-capacity-vertices-clause-stop : goal.returns-then-capacity-vertices-clause-stop
returns-then-capacity-vertices-clause-stop g c =
    let i = c.rounds.invariant in
    let more : c.capacity-capacity.result - c.rounds.vertices < length c.rounds.waiting.items = search rules in
    let same = i.capacity in
    let few = i.growing.few in
    too_many c.args.graph.now c.rounds.seat c.rounds.waiting.items c.rounds.vertices c.rounds.arrows i.growing c.reveal.ensures.complete (omega arith)

pub round-requires-clause-can : goal.round-requires-clause-can
round-requires-clause-can g c = λ κs within.
    let i = c.rounds.invariant in
    let fits : length c.rounds.waiting.items ≤ c.capacity-capacity.result - c.rounds.vertices = search rules in
    let same = i.capacity in
    let few = i.growing.few in
    let world : IsWideWorld c.args.graph.now.world = c.world-world.ensures.world in
    subst (λ (l : List OpenVertex). CanDraw c.args.graph.now c.rounds.seat l) (sym c.deref.ensures.value)
    (can_draw c.args.graph.now c.rounds.seat c.rounds.waiting.items c.rounds.vertices c.rounds.arrows i.growing world (omega arith))

pub overflow_add-arrows : goal.overflow_add-arrows
overflow_add-arrows g c =
    let i = c.rounds.invariant in
    let fits : length c.rounds.waiting.items ≤ c.capacity-capacity.result - c.rounds.vertices = search rules in
    let slight = i.slight in
    let round = subst (λ (l : List OpenVertex). IsRound c.args.graph.now c.rounds.seat c.round.new.seat l c.in_ok-gathered.gathered.added.items 16 c.in_ok-gathered.gathered.arrows) c.deref.ensures.value c.in_ok-gathered.ensures.round in
    let sum = few_of_round c.args.graph.now c.rounds.seat c.round.new.seat c.rounds.waiting.items c.in_ok-gathered.gathered.added.items 16 c.in_ok-gathered.gathered.arrows c.world-world.ensures.world round in
    let most = c.world-world.ensures.world.few in
    let same = i.capacity in
    let few = i.growing.few in
    omega arith

pub rounds-preserved : goal.rounds-preserved
rounds-preserved g c =
    let i = c.rounds.invariant in
    let fits : length c.rounds.waiting.items ≤ c.capacity-capacity.result - c.rounds.vertices = search rules in
    let some : 0 < length c.rounds.waiting.items = search rules in
    let long : c.len-vertices.result ≡ length c.rounds.waiting.items = search rules in
    let same = i.capacity in
    let few = i.growing.few in
    let round = subst (λ (l : List OpenVertex). IsRound c.args.graph.now c.rounds.seat c.round.new.seat l c.in_ok-gathered.gathered.added.items 16 c.in_ok-gathered.gathered.arrows) c.deref.ensures.value c.in_ok-gathered.ensures.round in
    let sum = few_of_round c.args.graph.now c.rounds.seat c.round.new.seat c.rounds.waiting.items c.in_ok-gathered.gathered.added.items 16 c.in_ok-gathered.gathered.arrows c.world-world.ensures.world round in
    let slight = i.slight in
    let turns = i.turns in
    record {
      growing = subst (λ (n : ℕ). IsGrowing c.args.graph.now c.round.new.seat c.in_ok-gathered.gathered.added.items (c.rounds.vertices + n) (c.rounds.arrows + c.in_ok-gathered.gathered.arrows)) (sym long)
          (growing_next c.args.graph.now c.rounds.seat c.round.new.seat c.rounds.waiting.items c.in_ok-gathered.gathered.added.items c.rounds.vertices c.rounds.arrows c.in_ok-gathered.gathered.arrows i.growing
          round (omega arith) some);
      steps = i.steps;
      capacity = i.capacity;
      turns = omega arith;
      slight = omega arith;
    }

pub settle-closed-requires-clause-finished : goal.settle-closed-requires-clause-finished
settle-closed-requires-clause-finished g c =
    let none : c.rounds.waiting.items ≡ [] = nil_from_length c.rounds.waiting.items (search rules) in
    all_whole c.args.graph.now c.rounds.seat c.rounds.waiting.items c.rounds.vertices c.rounds.arrows c.rounds.invariant.growing none

pub returns-clause-grown : goal.returns-clause-grown
returns-clause-grown g c =
    let none : c.rounds.waiting.items ≡ [] = nil_from_length c.rounds.waiting.items (search rules) in
    let s = c.settle-closed.ensures in
    grown c.args.graph.now c.rounds.seat c.rounds.waiting.items c.rounds.vertices c.rounds.arrows c.rounds.invariant.growing none c.reveal-2.ensures.complete
    (subst (λ (w : WideWorldType). IsClosed (flat w) (state_of c.rounds.seat.view.front)) s.world
    (subst (λ (h : List Event). IsClosed (flat c.settle-closed.result.world) (state_of h)) s.front s.closed))
