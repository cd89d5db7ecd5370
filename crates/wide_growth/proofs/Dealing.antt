-- Seats that are split off, each with a part of the open vertices.
use Rattle.std.proofs.Common.{◌≡◌, refl, sym, ap, subst, ◌∙◌, ℕ, zero, suc, ◌+◌, ◌-◌, ◌<◌, ◌≤◌, List, [], ◌∷◌, ◌++◌, length, take, drop, Result, Ok, Err, sum_by, All, slice_index_or, append_assoc, arith}
use Rattle.std.specs.List.{flat_map}
use Rattle.std.proofs.lemmas.List.{append-nil, length_push, length-append, take-append-drop, drop_all}
use Rattle.std.proofs.lemmas.List.Concat.{flat_map-append}
use Rattle.std.proofs.lemmas.List.Elements.{All-nil, All-push, All-take, All-drop, All-head, All-tail, All-weaker}
use Rattle.graph_history.specs.declared.event.Event.{Event}
use Rattle.shared_seats.proofs.Fronts.{prefix_self}
use Rattle.wide_words.specs.WideHistory.{WideWorldType}
use Rattle.shared_seats.specs.Seats.{IsPrefix}
use Rattle.wide_rule.specs.declared.dues.WideDues.{WideDues}
use Rattle.wide_rule.specs.Rule.{WideView, IsKnown}
use Rattle.wide_rule.specs.Parting.{nothing, cut_left, cut_right}
use Rattle.wide_rule.specs.Values.{WideGraphValue, WideSeatValue, Belongs}
use Rattle.wide_growth.specs.declared.drawing.OpenVertex.{OpenVertex}
use Rattle.wide_growth.specs.declared.drawing.Stop.{Stop}
use Rattle.wide_growth.specs.declared.work.Job.{Job}
use Rattle.wide_growth.specs.declared.work.Share.{Share}
use Rattle.wide_growth.specs.Drawing.{IsVertex, cells_in, arrows_of, AreWhole, IsReady, GoesOn, IsStop}
use Rattle.wide_growth.specs.Rounds.{most_open, CanDraw, HasDrawn, IsJob, waiting_of, IsDone, IsDealt, IsBack, AreBack}

-- so many jobs are made, and these vertices are left
pub record IsDealing (g : WideGraphValue) (first now : WideSeatValue) (waiting rest : List OpenVertex) (k : ℕ) (jobs : List Job) : Type 0 where
  pub table : now.table ≡ first.table
  pub view : now.view ≡ record first.view { next = first.view.next + k; left = first.view.left - k; stake = first.view.stake - k }
  pub known : IsKnown now.view
  pub many : length jobs ≡ k
  pub parts : flat_map waiting_of jobs ++ rest ≡ waiting
  pub made : All (IsJob g first.view.front) jobs
  pub vertices : All (IsVertex g.world first.view.front) rest
  pub few : length rest ≤ most_open

pub dealing_none : (g : WideGraphValue) (s : WideSeatValue) (waiting : List OpenVertex) (jobs : List Job) → IsKnown s.view → CanDraw g s waiting → jobs ≡ [] → IsDealing g s s waiting waiting 0 jobs
dealing_none g s waiting jobs known can none = record {
  table = refl;
  view = λ i. record s.view { next = next i; left = left i; stake = stake i };
  known = known;
  many = ap length none;
  parts = ap (λ (l : List Job). flat_map waiting_of l ++ waiting) none;
  made = subst (λ (l : List Job). All (IsJob g s.view.front) l) (sym none) (All-nil (IsJob g s.view.front));
  vertices = can.vertices;
  few = can.few;
}
  where
    next : s.view.next ≡ s.view.next + 0
    next = omega arith

    left : s.view.left ≡ s.view.left - 0
    left = omega arith

    stake : s.view.stake ≡ s.view.stake - 0
    stake = omega arith

-- a further one
module _ (g : WideGraphValue) (first mid now : WideSeatValue) (waiting rest : List OpenVertex) (k n : ℕ) (jobs : List Job) (j : Job) (ready : IsReady g first) (d : IsDealing g first mid waiting rest k jobs)
    (table : now.table ≡ mid.table) (parent : now.view ≡ cut_left 1 1 mid.view) (known : IsKnown now.view) (below : j.seat.table ≡ mid.table) (child : j.seat.view ≡ cut_right 1 1 mid.view)
    (part : j.waiting.items ≡ take n rest) where
  front : j.seat.view.front ≡ first.view.front
  front = ap (λ (v : WideView). v.front) child ∙ ap (λ (v : WideView). v.front) d.view

  job : IsJob g first.view.front j
  job = record {
    can = record {
      ready = record {
        belongs = record { table = below ∙ d.table ∙ ready.belongs.table; world = ap (λ (v : WideView). v.world) child ∙ ap (λ (v : WideView). v.world) d.view ∙ ready.belongs.world };
        idle = ap (λ (v : WideView). v.dues.pending) child;
      };
      vertices = subst (λ (l : List OpenVertex). All (IsVertex g.world j.seat.view.front) l) (sym part)
          (subst (λ (f : List Event). All (IsVertex g.world f) (take n rest)) (sym front) (All-take (IsVertex g.world first.view.front) n rest d.vertices));
      few = subst (λ (l : List OpenVertex). length l ≤ most_open) (sym part) few;
    };
    front_is = front;
    stake = ap (λ (v : WideView). v.stake) child;
    dues = ap (λ (v : WideView). v.dues) child;
  }
    where
      few : length (take n rest) ≤ most_open
      few =
          let all = ap length (take-append-drop n rest) in let both = length-append (take n rest) (drop n rest) in let most = d.few in omega arith

  pub dealing_next : IsDealing g first now waiting (drop n rest) (k + 1) (jobs ++ j ∷ [])
  dealing_next = record {
    table = table ∙ d.table;
    view = parent ∙ ap (cut_left 1 1) d.view ∙ (λ i. record first.view { next = next i; left = left i; stake = stake i });
    known = known;
    many = length_push jobs j ∙ ap (λ (m : ℕ). m + 1) d.many;
    parts = ap (λ (l : List OpenVertex). l ++ drop n rest) (flat_map-append waiting_of jobs (j ∷ []) ∙ ap (λ (l : List OpenVertex). flat_map waiting_of jobs ++ l) (append-nil j.waiting.items ∙ part))
        ∙ append_assoc (flat_map waiting_of jobs) (take n rest) (drop n rest) ∙ ap (λ (l : List OpenVertex). flat_map waiting_of jobs ++ l) (take-append-drop n rest) ∙ d.parts;
    made = All-push (IsJob g first.view.front) jobs j d.made job;
    vertices = All-drop (IsVertex g.world first.view.front) n rest d.vertices;
    few = few;
  }
    where
      next : first.view.next + k + 1 ≡ first.view.next + (k + 1)
      next = omega arith

      left : first.view.left - k - 1 ≡ first.view.left - (k + 1)
      left = omega arith

      stake : first.view.stake - k - 1 ≡ first.view.stake - (k + 1)
      stake = omega arith

      few : length (drop n rest) ≤ most_open
      few =
          let all = ap length (take-append-drop n rest) in let both = length-append (take n rest) (drop n rest) in let most = d.few in omega arith

-- all are made
pub dealt : (g : WideGraphValue) (first now : WideSeatValue) (waiting rest : List OpenVertex) (k growers : ℕ) (jobs : List Job) → IsDealing g first now waiting rest k jobs → k ≡ growers → rest ≡ []
    → IsDealt g first now waiting growers jobs
dealt g first now waiting rest k growers jobs d all none = record {
  table = d.table;
  view = d.view ∙ ap (λ (n : ℕ). record first.view { next = first.view.next + n; left = first.view.left - n; stake = first.view.stake - n }) all;
  known = d.known;
  many = d.many ∙ all;
  parts = sym (append-nil (flat_map waiting_of jobs)) ∙ ap (λ (l : List OpenVertex). flat_map waiting_of jobs ++ l) (sym none) ∙ d.parts;
  made = d.made;
}

pub jobs_can : (g : WideGraphValue) (front : List Event) (jobs : List Job) → All (IsJob g front) jobs → All (λ (j : Job). CanDraw g j.seat j.waiting.items) jobs
jobs_can g front jobs all = All-weaker (IsJob g front) (λ (j : Job). CanDraw g j.seat j.waiting.items) (λ j job. job.can) jobs all

-- a job that is done
back_of : (g : WideGraphValue) (front : List Event) (j : Job) (s : Share) → IsJob g front j → HasDrawn j.seat s.seat j.waiting.items [] s.added.items s.arrows → IsBack g front j.waiting.items s
back_of g front j s job done = record {
  ready = record { belongs = record { table = goes.table ∙ job.can.ready.belongs.table; world = same }; idle = goes.idle };
  stake = goes.stake ∙ job.stake;
  known = goes.known;
  begins = subst (λ (f : List Event). IsPrefix f s.seat.view.front) job.front_is goes.front;
  owed = goes.owed ∙ ap (λ (o : WideDues). o.owed ++ cells_in goes.added) job.dues ∙ ap cells_in (sym goes.list);
  vertices = subst (λ (l : List OpenVertex). All (IsVertex g.world s.seat.view.front) l) (sym goes.list)
      (subst (λ (w : WideWorldType). All (IsVertex w s.seat.view.front) goes.added) job.can.ready.belongs.world goes.vertices);
  drawn = subst (λ (w : WideWorldType). AreWhole w s.seat.view.front j.waiting.items) job.can.ready.belongs.world done.drawn;
  counted = subst (λ (w : WideWorldType). s.arrows ≡ sum_by (arrows_of w.space) j.waiting.items) job.can.ready.belongs.world done.counted;
}
  where
    goes : GoesOn j.seat s.seat [] s.added.items
    goes = done.goes

    same : s.seat.view.world ≡ g.world
    same = goes.world ∙ job.can.ready.belongs.world

back_first : (g : WideGraphValue) (front : List Event) (j : Job) (later : List OpenVertex) (r : Result Share Stop) (rs : List (Result Share Stop)) → IsJob g front j → IsDone j r → AreBack g front later rs
    → AreBack g front (j.waiting.items ++ later) (r ∷ rs)
back_first g front j later (Ok s) rs job done rest = (j.waiting.items, later, refl, back_of g front j s job done, rest)
back_first g front j later (Err stop) rs job done rest = stopped stop done
  where
    stopped : (e : Stop) → IsStop j.seat.view.world e → IsStop g.world e
    stopped e is = subst (λ (w : WideWorldType). IsStop w e) job.can.ready.belongs.world is

-- all jobs that were done come back
pub back_all : (g : WideGraphValue) (front : List Event) (jobs : List Job) (done : List (Result Share Stop)) → All (IsJob g front) jobs → length done ≡ length jobs
    → ((k : ℕ) (j : Job) (r : Result Share Stop) → k < length jobs → IsDone (slice_index_or jobs k j) (slice_index_or done k r)) → AreBack g front (flat_map waiting_of jobs) done
back_all g front [] [] all many each = refl
back_all g front [] (r ∷ rs) all many each = absurd (omega arith)
back_all g front (j ∷ js) [] all many each = absurd (omega arith)
back_all g front (j ∷ js) (r ∷ rs) all many each =
    back_first g front j (flat_map waiting_of js) r rs (All-head (IsJob g front) j js all) (each zero j r (omega arith))
    (back_all g front js rs (All-tail (IsJob g front) j js all) (omega arith) (λ k d e below. each (suc k) d e (omega arith)))

-- nothing is left after all
pub none_left : (rest : List OpenVertex) (n : ℕ) → n ≡ length rest → drop n rest ≡ []
none_left rest n is = drop_all n rest (omega arith)
