-- The cells that wait at a seat, as it takes parcels in, draws and gives cells away.
use Rattle.std.proofs.Common.{◌≡◌, refl, sym, ap, ap₂, subst, ◌∙◌, ℕ, ◌+◌, ◌-◌, ◌<◌, ◌≤◌, inl, inr, nat_eq, List, [], ◌∷◌, ◌++◌, length, take, drop, Option, Some, None, Contains, arith}
use Rattle.std.specs.List.{IsDistinct}
use Rattle.std.proofs.lemmas.List.{take-append-drop}
use Rattle.std.proofs.lemmas.List.Elements.{All-weaker, All-contains, All-contains_itself, Contains-append_left, Contains-append_right, Contains-append_cases}
use Rattle.list_facts.proofs.Lists.{nothing_in, in_first, nothing}
use Rattle.tensor_words.specs.Worlds.{WorldType}
use Rattle.graph_history.specs.Views.{View}
use Rattle.graph_history.specs.Desks.{added_cells}
use Rattle.graph_history.specs.Notes.{no_dues}
use Rattle.graph_history.specs.History.{state_of, HasSome, IsWhole}
use Rattle.graph_history.proofs.CellLists.{distinct_both}
use Rattle.graph_history.proofs.Fitting.{vertices_fit}
use Rattle.graph_rule.specs.Rule.{IsPrefix, IsKnown}
use Rattle.graph_rule.specs.Told.{Advances}
use Rattle.graph_rule.specs.Parting.{joined, hand_left}
use Rattle.graph_rule.specs.Values.{GraphValue, SeatValue, Belongs}
use Rattle.graph_rule.proofs.Composing.{went_grows}
use Rattle.parcel_deques.specs.declared.parcel.Slip.{Slip}
use Rattle.parcel_deques.specs.Parcels.{IsHanded}
use Rattle.crystal_growers.specs.Drawing.{CanDraw, HasDrawn, IsWaiting, IsEnded}
use Rattle.crystal_growers.proofs.Parts.{rest_in, rest_has, rest_all, distinct_split}
use Rattle.crystal_growers.proofs.Histories.{never_added}
use Rattle.crystal_growers.proofs.DrawnCells.{whole_later}
use Rattle.crystal_growers.proofs.Acting.{drawn_spent}
use Rattle.crystal_growers.proofs.Vertices.{at_least, more_than}
use Rattle.shared_desk.proofs.SharedSteps.{worked_belongs, worked_world}

-- unpaid cells can be drawn
pub can_draw : (g : GraphValue) (s : SeatValue) (cells : List ℕ) → Belongs s g → IsKnown s.view → s.view.dues.pledge ≡ 0 → IsDistinct nat_eq cells → ((c : ℕ) → Contains cells c → Contains s.view.dues.unpaid c) → CanDraw g cells s
can_draw g s cells belongs known pledge once unpaid = record {
  belongs = belongs;
  pledge = pledge;
  once = once;
  there = All-weaker (Contains cells) (HasSome (state_of s.view.front)) (λ c h. known.dues.owed c (known.dues.among c (unpaid c h))) cells (All-contains_itself cells);
  unpaid = unpaid;
}

-- nothing waits at a seat that owes nothing
pub waits_none : (g : GraphValue) (s : SeatValue) → Belongs s g → IsKnown s.view → s.view.dues ≡ no_dues → IsWaiting g [] s
unfolding IsDistinct
waits_none g s belongs known none = record {
  can = can_draw g s [] belongs known (ap (λ d. d.pledge) none) tt (λ c h. absurd (nothing_in c h));
  no_other = λ c h. subst (λ (l : List ℕ). Contains l c) (ap (λ d. d.unpaid) none) h;
  covered = λ c h. absurd (nothing_in c (subst (λ (l : List ℕ). Contains l c) (ap (λ d. d.owed) none) h));
}

-- the cells of a parcel wait besides, after its seat joined
module _ (g : GraphValue) (s p now : SeatValue) (xs ys : List ℕ) (table : now.table ≡ s.table) (step : Advances (joined s.view p.view) now.view [] (joined s.view p.view).dues) (on : IsPrefix s.view.front now.view.front) where
  both_unpaid : now.view.dues.unpaid ≡ s.view.dues.unpaid ++ p.view.dues.unpaid
  both_unpaid = ap (λ (v : View). v.dues.unpaid) step.is

  pub waits_joined : IsWaiting g xs s → IsHanded g ys p → IsWaiting g (xs ++ ys) now
  waits_joined w h = record {
    can = can_draw g now (xs ++ ys) (record { table = table ∙ w.can.belongs.table; world = ap (λ (v : View). v.world) step.is ∙ w.can.belongs.world }) step.known
        (ap (λ (v : View). v.dues.pledge) step.is ∙ pledge)
        (distinct_both xs ys w.can.once h.once (λ c k l. apart.2 c (w.can.unpaid c k) (h.unpaid c l)))
        (λ c k. subst (λ (l : List ℕ). Contains l c) (sym both_unpaid) (elim (Contains-append_cases xs ys c k) [
          | inl l ↦ Contains-append_left s.view.dues.unpaid p.view.dues.unpaid c (w.can.unpaid c l)
          | inr r ↦ Contains-append_right s.view.dues.unpaid p.view.dues.unpaid c (h.unpaid c r)
        ]));
    no_other = λ c k. elim (Contains-append_cases s.view.dues.unpaid p.view.dues.unpaid c (subst (λ (l : List ℕ). Contains l c) both_unpaid k)) [
      | inl l ↦ Contains-append_left xs ys c (w.no_other c l)
      | inr r ↦ Contains-append_right xs ys c (h.no_other c r)
    ];
    covered = λ c k. elim (Contains-append_cases s.view.dues.owed p.view.dues.owed c (subst (λ (v : View). Contains v.dues.owed c) step.is k)) [
      | inl l ↦ elim (w.covered c l) [ inl whole ↦ inl (whole_later g.world s.view.front now.view.front c on whole) | inr waits ↦ inr (Contains-append_left xs ys c waits) ]
      | inr r ↦ inr (Contains-append_right xs ys c (h.owed c r))
    ];
  }
    where
      pledge : s.view.dues.pledge + p.view.dues.pledge ≡ 0
      pledge = let k = w.can.pledge in let l = h.pledge in omega arith

      apart : IsDistinct nat_eq s.view.dues.unpaid × IsDistinct nat_eq p.view.dues.unpaid × ((c : ℕ) → Contains s.view.dues.unpaid c → Contains p.view.dues.unpaid c → ⊥)
      apart = distinct_split s.view.dues.unpaid p.view.dues.unpaid (subst (λ (l : List ℕ). IsDistinct nat_eq l) both_unpaid step.known.dues.once)

-- a parcel is handed over in the graph of its name
pub handed_here : (g h : GraphValue) (p : SeatValue) (x : Slip) (cells : List ℕ) → h ≡ g → cells ≡ x.cells → IsHanded h cells p → IsHanded g x.cells p
handed_here g h p x cells named same handed = subst (λ (l : List ℕ). IsHanded g l p) same (subst (λ (k : GraphValue). IsHanded k cells p) named handed)

-- a list is its parts
pub split_at : (start : ℕ) (xs ys zs : List ℕ) → ys ≡ take start xs → zs ≡ drop start xs → xs ≡ ys ++ zs
split_at start xs ys zs p q = sym (take-append-drop start xs) ∙ ap₂ (λ (k l : List ℕ). k ++ l) (sym p) (sym q)

-- some of the cells are handed away, and the others wait
module _ (g : GraphValue) (s now : SeatValue) (rest part : List ℕ) (w : IsWaiting g (rest ++ part) s) where
  pub can_hand : CanDraw g part s
  can_hand = record {
    belongs = w.can.belongs;
    pledge = w.can.pledge;
    once = (distinct_split rest part w.can.once).1;
    there = All-weaker (Contains part) (HasSome (state_of s.view.front)) (λ c h. All-contains (HasSome (state_of s.view.front)) (rest ++ part) c w.can.there (Contains-append_right rest part c h)) part (All-contains_itself part);
    unpaid = λ c h. w.can.unpaid c (Contains-append_right rest part c h);
  }

  pub waits_handed : now.table ≡ s.table → now.view ≡ hand_left 1 1 part s.view → IsKnown now.view → IsWaiting g rest now
  waits_handed table is known = record {
    can = can_draw g now rest (record { table = table ∙ w.can.belongs.table; world = ap (λ (v : View). v.world) is ∙ w.can.belongs.world }) known (ap (λ (v : View). v.dues.pledge) is ∙ w.can.pledge) apart.0
        (λ c h. subst (λ (v : View). Contains v.dues.unpaid c) (sym is) (rest_has part s.view.dues.unpaid c (w.can.unpaid c (Contains-append_left rest part c h)) (λ there. apart.2 c h there)));
    no_other = λ c h. let k = rest_in part s.view.dues.unpaid c (subst (λ (v : View). Contains v.dues.unpaid c) is h) in
        elim (Contains-append_cases rest part c (w.no_other c k.0)) [ inl l ↦ l | inr r ↦ absurd (k.1 r) ];
    covered = λ c h. let k = rest_in part s.view.dues.owed c (subst (λ (v : View). Contains v.dues.owed c) is h) in
        elim (w.covered c k.0) [
          | inl whole ↦ inl (subst (λ (v : View). IsWhole g.world (state_of v.front) c) (sym is) whole)
          | inr waits ↦ elim (Contains-append_cases rest part c waits) [ inl l ↦ inr l | inr r ↦ absurd (k.1 r) ]
        ];
  }
    where
      apart : IsDistinct nat_eq rest × IsDistinct nat_eq part × ((c : ℕ) → Contains rest c → Contains part c → ⊥)
      apart = distinct_split rest part w.can.once

-- the cells were drawn, and those that were added wait
module _ (g : GraphValue) (old now : SeatValue) (cells added : List ℕ) (w : IsWaiting g cells old) where
  now_front : (full : Option ℕ) → HasDrawn cells old now added full → IsPrefix old.view.front now.view.front
  now_front full d = (d.worked.went.more, ap (λ (v : View). v.front) d.worked.went.is)

  added_owed : (full : Option ℕ) → HasDrawn cells old now added full → now.view.dues.owed ≡ old.view.dues.owed ++ added
  added_owed full d = d.worked.owed ∙ ap (λ (l : List ℕ). old.view.dues.owed ++ l) (sym d.listed)

  pub waits_drawn : HasDrawn cells old now added None → IsWaiting g added now
  waits_drawn d = record {
    can = can_draw g now added (worked_belongs g old now d.acts w.can.belongs d.worked) d.worked.went.known d.worked.pledge (subst (λ (l : List ℕ). IsDistinct nat_eq l) unpaid d.worked.went.known.dues.once)
        (λ c h. subst (λ (l : List ℕ). Contains l c) (sym unpaid) h);
    no_other = λ c h. subst (λ (l : List ℕ). Contains l c) unpaid h;
    covered = λ c h. elim (Contains-append_cases old.view.dues.owed added c (subst (λ (l : List ℕ). Contains l c) (added_owed None d) h)) [
      | inl before ↦ elim (w.covered c before) [
        | inl whole ↦ inl (whole_later g.world old.view.front now.view.front c (now_front None d) whole)
        | inr given ↦ inl (subst (λ (x : WorldType). IsWhole x (state_of now.view.front) c) w.can.belongs.world (d.ended c given))
      ]
      | inr later ↦ inr later
    ];
  }
    where
      unpaid : now.view.dues.unpaid ≡ added
      unpaid = d.paid ∙ ap (λ (l : List ℕ). l ++ added) (rest_all cells old.view.dues.unpaid w.no_other)

  pub ended_drawn : (full : Option ℕ) → HasDrawn cells old now added full → IsEnded g added now full
  ended_drawn None d = waits_drawn d
  ended_drawn (Some x) d = drawn_spent old now cells added x d

-- whether a list has a cell
abbrev pub waiting : List ℕ → ℕ
waiting [] = 0
waiting (c ∷ cells) = 1

pub some_waits : (list : List ℕ) → 0 < length list → waiting list ≡ 1
some_waits [] h = absurd (omega arith)
some_waits (c ∷ list) h = refl

-- what is added in a further turn has no vertex before, so that fewer cells are left or nothing is added
pub falls : (g : GraphValue) (old now : SeatValue) (cells added : List ℕ) (full : Option ℕ) → Belongs old g → HasDrawn cells old now added full → 0 < length cells
    → (g.world.cells - length (state_of now.view.front).vertices) + waiting added < (g.world.cells - length (state_of old.view.front).vertices) + waiting cells
falls g old now cells added full belongs d some =
    let k = up in
    let m = some_waits cells some in
    let fit : length (state_of now.view.front).vertices ≤ g.world.cells =
    subst (λ (w : WorldType). length (state_of now.view.front).vertices ≤ w.cells) (worked_world old now d.acts d.worked ∙ belongs.world) (vertices_fit now.view.world now.view.front d.worked.went.known.legal) in
    omega arith
  where
    on : IsPrefix old.view.front now.view.front
    on = (d.worked.went.more, ap (λ (v : View). v.front) d.worked.went.is)

    there : (c : ℕ) → Contains added c → HasSome (state_of now.view.front) c
    there c h = d.worked.went.known.dues.owed c (subst (λ (l : List ℕ). Contains l c) (sym d.worked.owed) (Contains-append_right old.view.dues.owed (added_cells d.acts) c (subst (λ (l : List ℕ). Contains l c) d.listed h)))

    new : (c : ℕ) → Contains added c → HasSome (state_of old.view.front) c → ⊥
    new c h was = never_added old.view.world old.view.number old.view.front now.view.front d.acts c (went_grows old.view now.view d.acts now.view.dues d.worked.went) (subst (λ (l : List ℕ). Contains l c) d.listed h) was

    up : waiting added + length (state_of old.view.front).vertices ≤ length (state_of now.view.front).vertices
    up = by added (λ c h. more_than old.view.front now.view.front c on (new c h) (there c h))
      where
        by : (l : List ℕ) → ((c : ℕ) → Contains l c → length (state_of old.view.front).vertices < length (state_of now.view.front).vertices)
            → waiting l + length (state_of old.view.front).vertices ≤ length (state_of now.view.front).vertices
        by [] more = let k = at_least old.view.front now.view.front on in omega arith
        by (c ∷ l) more = let k = more c (in_first c l) in omega arith
