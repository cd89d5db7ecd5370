-- Rounds.
use Rattle.std.proofs.Common.{◌≡◌, refl, sym, ap, ap₂, subst, ◌∙◌, ℕ, ◌+◌, ◌-◌, ◌*◌, ◌^◌, ◌<◌, ◌≤◌, List, [], ◌∷◌, ◌++◌, length, map, sum_by, All, append_assoc, arith}
use Rattle.std.proofs.lemmas.List.{append-nil, length-append, length-map}
use Rattle.std.proofs.lemmas.List.Sums.{sum_by-append}
use Rattle.std.proofs.lemmas.List.Elements.{All-nil, All-append, All-map, All-contains, All-cons, All-head, All-tail}
use Rattle.tensor_words.specs.Reach.{Outnumber}
use Rattle.graph_history.specs.declared.event.Event.{Event}
use Rattle.graph_history.specs.History.{Vertex, state_of, HasCode, IsWhole, IsClosed}
use Rattle.graph_history.specs.Laws.{HasRoots}
use Rattle.graph_rule.proofs.Views.{stays_prefix}
use Rattle.shared_seats.proofs.Fronts.{prefix_on}
use Rattle.shared_seats.specs.Seats.{IsPrefix}
use Rattle.wide_words.specs.WideSpaces.{number}
use Rattle.wide_words.specs.WideHistory.{WideWorldType, IsWideWorld, flat, counted, IsWideLegal}
use Rattle.wide_rule.specs.Rule.{WideView, whole, cells_of, IsKnown, IsComplete}
use Rattle.wide_rule.specs.Parting.{first_view}
use Rattle.wide_rule.specs.Values.{WideGraphValue, WideSeatValue}
use Rattle.wide_growth.specs.declared.drawing.OpenVertex.{OpenVertex}
use Rattle.wide_growth.specs.declared.growing.WideGrown.TheVariants.{Closed}
use Rattle.wide_growth.specs.declared.work.Job.{Job}
use Rattle.wide_growth.specs.Drawing.{IsVertex, cells_in, arrows_of, AreWhole, IsReady, GoesOn}
use Rattle.wide_growth.specs.Rounds.{CanDraw, HasDrawn, IsDealt, IsGathered, IsRound, IsGrowing}
use Rattle.wide_growth.specs.Grown.{IsGrownTo}
use Rattle.wide_growth.proofs.Going.{vertices_later, all_whole_later, cells_both}
use Rattle.wide_growth.proofs.Drawn.{IsIn}
use Rattle.wide_growth.proofs.Gathering.{few_arrows}
use Rattle.wide_words.proofs.WideSound.{many_outnumber}
use Rattle.wide_growth.proofs.Closing.{many_cells, closed_answer}

-- the second of two lists
All-right : {X : Type 0} (P : X → Type 0) (xs ys : List X) → All P (xs ++ ys) → All P ys
All-right P [] ys all = all
All-right P (x ∷ xs) ys all = All-right P xs ys (All-tail P x (xs ++ ys) all)

-- a round that one seat drew
pub round_alone : (g : WideGraphValue) (old now : WideSeatValue) (waiting added : List OpenVertex) (used arrows : ℕ) → IsReady g old → HasDrawn old now waiting [] added arrows → IsRound g old now waiting added used arrows
round_alone g old now waiting added used arrows ready d = record {
  ready = record { belongs = record { table = d.goes.table ∙ ready.belongs.table; world = d.goes.world ∙ ready.belongs.world }; idle = d.goes.idle };
  stake = d.goes.stake;
  left = let l = d.goes.left in omega arith;
  known = d.goes.known;
  front = d.goes.front;
  owed = d.goes.owed ∙ ap (λ (l : List OpenVertex). old.view.dues.owed ++ cells_in l) (sym d.goes.list);
  vertices = subst (λ (l : List OpenVertex). All (IsVertex g.world now.view.front) l) (sym d.goes.list)
      (subst (λ (w : WideWorldType). All (IsVertex w now.view.front) d.goes.added) ready.belongs.world d.goes.vertices);
  drawn = subst (λ (w : WideWorldType). AreWhole w now.view.front waiting) ready.belongs.world d.drawn;
  counted = subst (λ (w : WideWorldType). arrows ≡ sum_by (arrows_of w.space) waiting) ready.belongs.world d.counted;
}

-- the seat after the deal
pub dealt_ready : (g : WideGraphValue) (old cut : WideSeatValue) (waiting : List OpenVertex) (growers : ℕ) (jobs : List Job) → IsReady g old → IsDealt g old cut waiting growers jobs → IsReady g cut
dealt_ready g old cut waiting growers jobs ready d = record {
  belongs = record { table = d.table ∙ ready.belongs.table; world = ap (λ (v : WideView). v.world) d.view ∙ ready.belongs.world };
  idle = ap (λ (v : WideView). v.dues.pending) d.view ∙ ready.idle;
}

pub dealt_front : (g : WideGraphValue) (old cut : WideSeatValue) (waiting : List OpenVertex) (growers : ℕ) (jobs : List Job) → IsDealt g old cut waiting growers jobs → cut.view.front ≡ old.view.front
dealt_front g old cut waiting growers jobs d = ap (λ (v : WideView). v.front) d.view

-- a round that growers drew
pub round_shared : (g : WideGraphValue) (old cut now : WideSeatValue) (waiting added : List OpenVertex) (growers count used arrows : ℕ) (jobs : List Job) → growers ≤ used → growers < old.view.stake
    → IsDealt g old cut waiting growers jobs → count ≡ length jobs → IsGathered g cut now waiting count added arrows → IsRound g old now waiting added used arrows
round_shared g old cut now waiting added growers count used arrows jobs few stake d all b = record {
  ready = b.ready;
  stake = let s : cut.view.stake ≡ old.view.stake - growers = ap (λ (v : WideView). v.stake) d.view in let t = b.stake in let m = d.many in omega arith;
  left = let s : cut.view.left ≡ old.view.left - growers = ap (λ (v : WideView). v.left) d.view in let t = b.left in omega arith;
  known = b.known;
  front = subst (λ (f : List Event). IsPrefix f now.view.front) (ap (λ (v : WideView). v.front) d.view) b.front;
  owed = b.owed ∙ ap (λ (v : WideView). v.dues.owed ++ cells_in added) d.view;
  vertices = b.vertices;
  drawn = b.drawn;
  counted = b.counted;
}

-- after one round more
pub growing_next : (g : WideGraphValue) (mid now : WideSeatValue) (waiting added : List OpenVertex) (vertices arrows more : ℕ) → IsGrowing g mid waiting vertices arrows → IsRound g mid now waiting added 16 more
    → vertices + length waiting ≤ g.world.capacity → 0 < length waiting → IsGrowing g now added (vertices + length waiting) (arrows + more)
growing_next g mid now waiting added vertices arrows more p r fits some = record {
  done = p.done ++ waiting;
  ready = r.ready;
  stake = r.stake ∙ p.stake;
  known = r.known;
  left = let a = p.left in let b = r.left in omega arith;
  owed = r.owed ∙ ap (λ (l : List ℕ). l ++ cells_in added) p.owed ∙ sym (cells_both (p.done ++ waiting) added);
  vertices_are = All-append (IsVertex g.world now.view.front) (p.done ++ waiting) added (vertices_later g.world mid.view.front now.view.front (p.done ++ waiting) r.front p.vertices_are) r.vertices;
  drawn = All-append (λ (v : OpenVertex). IsWhole (flat g.world) (state_of now.view.front) v.cell) p.done waiting (all_whole_later g.world mid.view.front now.view.front p.done r.front p.drawn) r.drawn;
  many = ap (λ (n : ℕ). n + length waiting) p.many ∙ sym (length-append p.done waiting);
  few = fits;
  counted = ap₂ (λ a b. a + b) p.counted r.counted ∙ sym (sum_by-append (arrows_of g.world.space) p.done waiting);
  roots = λ x among. let is = p.roots x among in (is.0, (stays_prefix mid.view.front now.view.front r.front).vertices is.0 x is.1);
}

-- what holds of growth at its seat
module _ (g : WideGraphValue) (now : WideSeatValue) (waiting : List OpenVertex) (vertices arrows : ℕ) (p : IsGrowing g now waiting vertices arrows) where
  legal : IsWideLegal g.world now.view.front
  legal = subst (λ (w : WideWorldType). IsWideLegal w now.view.front) p.ready.belongs.world p.known.legal

  -- all that is owed weighs as much as the vertices
  owes : IsComplete now.view → (weigh : ℕ → ℕ) → sum_by weigh (cells_in (p.done ++ waiting)) ≡ sum_by weigh (cells_of (state_of now.view.front))
  owes complete weigh = subst (λ (l : List ℕ). sum_by weigh l ≡ sum_by weigh (cells_of (state_of now.view.front))) p.owed ((complete p.stake).counted weigh)

  -- there are too many vertices
  pub too_many : IsComplete now.view → g.world.capacity < vertices + length waiting → Outnumber (counted g.world)
  too_many complete more =
      let long = many_cells (p.done ++ waiting) (state_of now.view.front).vertices (owes complete) in
      let parts = length-append p.done waiting in
      let many = p.many in
      many_outnumber g.world now.view.front legal (omega arith)

  -- what can be drawn
  pub waiting_vertices : All (IsVertex g.world now.view.front) waiting
  waiting_vertices = All-right (IsVertex g.world now.view.front) p.done waiting p.vertices_are

  -- all is drawn
  module _ (none : waiting ≡ []) where
    whole_list : p.done ++ waiting ≡ p.done
    whole_list = ap (λ (l : List OpenVertex). p.done ++ l) none ∙ append-nil p.done

    pub all_whole : All (IsWhole (flat now.view.world) (state_of now.view.front)) now.view.dues.owed
    all_whole =
        subst (λ (l : List ℕ). All (IsWhole (flat now.view.world) (state_of now.view.front)) l) (sym (p.owed ∙ ap cells_in whole_list))
        (subst (λ (w : WideWorldType). All (IsWhole (flat w) (state_of now.view.front)) (cells_in p.done)) (sym p.ready.belongs.world)
        (All-map (IsWhole (flat g.world) (state_of now.view.front)) (λ (v : OpenVertex). v.cell) p.done p.drawn))

    pub grown : IsComplete now.view → IsClosed (flat g.world) (state_of now.view.front) → IsGrownTo g.world (Closed vertices arrows)
    grown complete closed =
        closed_answer g.world now.view.front p.done vertices arrows legal closed p.roots
        (subst (λ (l : List OpenVertex). All (IsVertex g.world now.view.front) l) whole_list p.vertices_are)
        (λ weigh. subst (λ (l : List OpenVertex). sum_by weigh (cells_in l) ≡ sum_by weigh (cells_of (state_of now.view.front))) whole_list (owes complete weigh))
        p.many p.few p.counted

-- the start
pub growing_none : (g : WideGraphValue) (first now : WideSeatValue) (waiting : List OpenVertex) → IsReady g first → first.view ≡ first_view g.world → GoesOn first now [] waiting
    → All (IsIn g.world.space now.view.front) g.world.roots → IsGrowing g now waiting 0 0
growing_none g first now waiting ready is goes entered = record {
  done = [];
  ready = record { belongs = record { table = goes.table ∙ ready.belongs.table; world = goes.world ∙ ready.belongs.world }; idle = goes.idle };
  stake = goes.stake ∙ ap (λ (v : WideView). v.stake) is;
  known = goes.known;
  left = let a : first.view.left ≡ 2 ^ 32 - 1 = ap (λ (v : WideView). v.left) is in let b = goes.left in omega arith;
  owed = goes.owed ∙ ap (λ (v : WideView). v.dues.owed ++ cells_in goes.added) is ∙ ap cells_in (sym goes.list);
  vertices_are = subst (λ (l : List OpenVertex). All (IsVertex g.world now.view.front) l) (sym goes.list)
      (subst (λ (w : WideWorldType). All (IsVertex w now.view.front) goes.added) ready.belongs.world goes.vertices);
  drawn = All-nil (λ (v : OpenVertex). IsWhole (flat g.world) (state_of now.view.front) v.cell);
  many = refl;
  few = omega arith;
  counted = refl;
  roots = λ x among. All-contains (HasCode (state_of now.view.front)) (map (number g.world.space) g.world.roots) x (All-map (HasCode (state_of now.view.front)) (number g.world.space) g.world.roots entered) among;
}

-- how many arrows a round counts at most
pub few_of_round : (g : WideGraphValue) (old now : WideSeatValue) (waiting added : List OpenVertex) (used arrows : ℕ) → IsWideWorld g.world → IsRound g old now waiting added used arrows → arrows ≤ length waiting * 8
few_of_round g old now waiting added used arrows world r = let few = few_arrows g.world waiting world in let is = r.counted in omega arith

-- the open vertices can be drawn
pub can_draw : (g : WideGraphValue) (now : WideSeatValue) (waiting : List OpenVertex) (vertices arrows : ℕ) → IsGrowing g now waiting vertices arrows → IsWideWorld g.world → vertices + length waiting ≤ g.world.capacity
    → CanDraw g now waiting
can_draw g now waiting vertices arrows p world fits = record { ready = p.ready; vertices = waiting_vertices g now waiting vertices arrows p; few = let most = world.few in omega arith }
