-- What a grower's seat does, one piece after another.
use Rattle.std.proofs.Common.{◌≡◌, refl, sym, ap, ap₂, subst, ◌∙◌, ℕ, ◌+◌, ◌-◌, ◌<◌, ◌==◌, ◌⊎◌, inl, inr, List, [], ◌∷◌, ◌++◌, Option, Some, Contains, append-nil, append_assoc, arith}
use Rattle.std.proofs.lemmas.List.Elements.{Contains-append_left, Contains-append_right, Contains-append_cases}
use Rattle.list_facts.proofs.Lists.{nothing_in, in_cons, nothing}
use Rattle.tensor_words.specs.Worlds.{WorldType}
use Rattle.graph_history.specs.declared.event.Act.TheVariants.{Spent}
use Rattle.graph_history.specs.declared.event.Event.{Event}
use Rattle.graph_history.specs.Views.{View, Kept}
use Rattle.graph_history.specs.History.{calls}
use Rattle.graph_history.specs.Desks.{added_cells}
use Rattle.graph_rule.specs.Rule.{IsPrefix, IsKnown}
use Rattle.graph_rule.specs.Told.{Advances}
use Rattle.graph_rule.specs.Parting.{joined, hand_left}
use Rattle.graph_rule.specs.Values.{GraphValue, SeatValue, Belongs}
use Rattle.parcel_deques.specs.declared.parcel.Slip.{Slip}
use Rattle.parcel_deques.specs.Parcels.{IsHanded}
use Rattle.parcel_deques.specs.Benches.{BenchValue}
use Rattle.parcel_deques.proofs.Weights.{weigh-append}
use Rattle.crystal_growers.specs.GrowthEvents.{Grew}
use Rattle.crystal_growers.specs.Drawing.{HasDrawn, SeatHasSpent}
use Rattle.crystal_growers.specs.Grower.{HasActed, HasWorked, HasOffered}
use Rattle.crystal_growers.proofs.Parts.{has_or_not, rest_has}
use Rattle.crystal_growers.proofs.Histories.{grew_none, grew_then, same_calls, filter_in}
use Rattle.crystal_growers.proofs.DrawnCells.{by_has}
use Rattle.shared_desk.proofs.SharedSteps.{worked_belongs}
use Rattle.crystal_growers.proofs.SlipCells.{no_cell, cell_or, one_cell}

-- nothing yet
pub acted_none : (g : GraphValue) (s : SeatValue) → Belongs s g → IsKnown s.view → s.view.dues.pledge ≡ 0 → HasActed g s s [] []
acted_none g s belongs known pledge = record {
  belongs = belongs;
  number = refl;
  pledge = pledge;
  known = known;
  grew = grew_none g.world s.view.number s.view.front;
  news = [];
  kept = sym (append-nil s.view.kept);
  quiet = λ m h. absurd (nothing_in m h);
  stake = refl;
}

-- one piece after another
pub acted_then : (g : GraphValue) (a b c : SeatValue) (xs us ys vs : List Slip) → HasActed g a b xs us → HasActed g b c ys vs → HasActed g a c (xs ++ ys) (us ++ vs)
acted_then g a b c xs us ys vs p q = record {
  belongs = q.belongs;
  number = q.number ∙ p.number;
  pledge = q.pledge;
  known = q.known;
  grew = grew_then g.world a.view.number a.view.front b.view.front c.view.front p.grew (subst (λ (n : ℕ). Grew g.world n b.view.front c.view.front) p.number q.grew);
  news = p.news ++ q.news;
  kept = q.kept ∙ ap (λ (l : List Kept). l ++ q.news) p.kept ∙ append_assoc a.view.kept p.news q.news;
  quiet = λ m h. elim (Contains-append_cases p.news q.news m h) [ inl l ↦ p.quiet m l | inr r ↦ q.quiet m r ];
  stake = let k = p.stake in let l = q.stake in let got = weigh-append (λ (x : Slip). x.stake) xs ys in let given = weigh-append (λ (x : Slip). x.stake) us vs in omega arith;
}

-- a slip that was given away and came back
pub acted_back : (g : GraphValue) (a b : SeatValue) (x : Slip) → HasActed g a b (x ∷ []) (x ∷ []) → HasActed g a b [] []
acted_back g a b x p = record {
  belongs = p.belongs;
  number = p.number;
  pledge = p.pledge;
  known = p.known;
  grew = p.grew;
  news = p.news;
  kept = p.kept;
  quiet = p.quiet;
  stake = let k = p.stake in omega arith;
}

pub acted_front : (g : GraphValue) (a b : SeatValue) (xs us : List Slip) → HasActed g a b xs us → IsPrefix a.view.front b.view.front
acted_front g a b xs us p = (p.grew.more, p.grew.is)

pub spent_later : (g : GraphValue) (a b : SeatValue) (xs us : List Slip) (x : ℕ) → HasActed g a b xs us → SeatHasSpent a x → SeatHasSpent b x
spent_later g a b xs us x p h =
    subst (λ (n : ℕ). Contains b.view.front (record { caller = n; act = Spent x })) (sym p.number)
    (subst (λ (l : List Event). Contains l (record { caller = a.view.number; act = Spent x })) (sym p.grew.is) (Contains-append_left a.view.front p.grew.more (record { caller = a.view.number; act = Spent x }) h))

-- cells were drawn
module _ (g : GraphValue) (old now : SeatValue) (cells added : List ℕ) (full : Option ℕ) (belongs : Belongs old g) (d : HasDrawn cells old now added full) where
  pub acted_drawn : HasActed g old now [] []
  acted_drawn = record {
    belongs = worked_belongs g old now d.acts belongs d.worked;
    number = ap (λ (v : View). v.number) d.worked.went.is;
    pledge = d.worked.pledge;
    known = d.worked.went.known;
    grew = subst (λ (w : WorldType). Grew w old.view.number old.view.front now.view.front) belongs.world d.grew;
    news = [];
    kept = ap (λ (v : View). v.kept) d.worked.went.is ∙ sym (append-nil old.view.kept);
    quiet = λ m h. absurd (nothing_in m h);
    stake = ap (λ (v : View). v.stake + 0) d.worked.went.is;
  }

  pub works_drawn : HasWorked g old now [] []
  works_drawn = record {
    acted = acted_drawn;
    owes = λ c h. elim h [
      | inl owed ↦ subst (λ (l : List ℕ). Contains l c) (sym d.worked.owed) (Contains-append_left old.view.dues.owed (added_cells d.acts) c owed)
      | inr none ↦ absurd (no_cell c none)
    ];
  }

pub drawn_spent : (old now : SeatValue) (cells added : List ℕ) (x : ℕ) → HasDrawn cells old now added (Some x) → SeatHasSpent now x
drawn_spent old now cells added x d =
    let e : Event = record { caller = old.view.number; act = Spent x } in
    let own : Contains (calls d.worked.went.more old.view.number) e = subst (λ (l : List Event). Contains l e) (sym d.worked.went.own) (by_has old.view.number d.acts (Spent x) d.ended) in
    let later : Contains d.worked.went.more e = filter_in (λ (f : Event). f.caller == old.view.number) d.worked.went.more e own in
    subst (λ (n : ℕ). Contains now.view.front (record { caller = n; act = Spent x })) (sym (ap (λ (v : View). v.number) d.worked.went.is))
    (subst (λ (l : List Event). Contains l e) (sym (ap (λ (v : View). v.front) d.worked.went.is)) (Contains-append_right old.view.front d.worked.went.more e later))

-- a seat that was handed cells joined
module _ (g : GraphValue) (s p now : SeatValue) (x : Slip) (belongs : Belongs s g) (known : IsKnown s.view) (pledge : s.view.dues.pledge ≡ 0) (h : IsHanded g x.cells p) (stake : p.view.stake ≡ x.stake)
    (table : now.table ≡ s.table) (step : Advances (joined s.view p.view) now.view [] (joined s.view p.view).dues) (on : IsPrefix s.view.front now.view.front) where
  pub acted_joined : HasActed g s now (x ∷ []) []
  acted_joined = record {
    belongs = record { table = table ∙ belongs.table; world = ap (λ (v : View). v.world) step.is ∙ belongs.world };
    number = number;
    pledge = ap (λ (v : View). v.dues.pledge) step.is ∙ ap₂ (λ (k l : ℕ). k + l) pledge h.pledge;
    known = step.known;
    grew = same_calls g.world s.view.number s.view.front now.view.front on.0 on.1
        (known.sound.agrees.own.mine ∙ sym (append-nil s.view.calls) ∙ sym (ap (λ (v : View). v.calls) step.is) ∙ sym step.known.sound.agrees.own.mine ∙ ap (λ (n : ℕ). calls now.view.front n) number);
    news = record { number = p.view.number; calls = p.view.calls } ∷ [];
    kept = ap (λ (v : View). v.kept) step.is ∙ ap (λ (l : List Kept). s.view.kept ++ record { number = p.view.number; calls = p.view.calls } ∷ l) h.alone;
    quiet = λ m there. elim (in_cons (record { number = p.view.number; calls = p.view.calls }) [] m there) [
      | inl e ↦ sym (ap (λ (k : Kept). k.calls) e) ∙ h.unheard
      | inr none ↦ absurd (nothing_in m none)
    ];
    stake = let sum : now.view.stake ≡ s.view.stake + p.view.stake = ap (λ (v : View). v.stake) step.is in omega arith;
  }
    where
      number : now.view.number ≡ s.view.number
      number = ap (λ (v : View). v.number) step.is

  pub works_joined : HasWorked g s now (x ∷ []) []
  works_joined = record {
    acted = acted_joined;
    owes = λ c k. elim k [
      | inl owed ↦ subst (λ (l : List ℕ). Contains l c) (sym (ap (λ (v : View). v.dues.owed) step.is)) (Contains-append_left s.view.dues.owed p.view.dues.owed c owed)
      | inr got ↦ step.known.dues.among c (subst (λ (l : List ℕ). Contains l c) (sym (ap (λ (v : View). v.dues.unpaid) step.is)) (Contains-append_right s.view.dues.unpaid p.view.dues.unpaid c (h.unpaid c (one_cell x c got))))
    ];
  }

-- cells were handed over with one stake
pub acted_handed : (g : GraphValue) (s now : SeatValue) (x : Slip) (cells : List ℕ) → Belongs s g → s.view.dues.pledge ≡ 0 → now.table ≡ s.table → now.view ≡ hand_left 1 1 cells s.view → IsKnown now.view → x.stake ≡ 1 → 1 < s.view.stake
    → HasActed g s now [] (x ∷ [])
acted_handed g s now x cells belongs pledge table is known one some = record {
  belongs = record { table = table ∙ belongs.table; world = ap (λ (v : View). v.world) is ∙ belongs.world };
  number = ap (λ (v : View). v.number) is;
  pledge = ap (λ (v : View). v.dues.pledge) is ∙ pledge;
  known = known;
  grew = subst (λ (f : List Event). Grew g.world s.view.number s.view.front f) (sym (ap (λ (v : View). v.front) is)) (grew_none g.world s.view.number s.view.front);
  news = [];
  kept = ap (λ (v : View). v.kept) is ∙ sym (append-nil s.view.kept);
  quiet = λ m h. absurd (nothing_in m h);
  stake = let less : now.view.stake ≡ s.view.stake - 1 = ap (λ (v : View). v.stake) is in omega arith;
}

pub owes_handed : (s now : SeatValue) (cells : List ℕ) (c : ℕ) → now.view ≡ hand_left 1 1 cells s.view → Contains s.view.dues.owed c → Contains now.view.dues.owed c ⊎ Contains cells c
owes_handed s now cells c is owed = elim (has_or_not cells c) [
  | inl here ↦ inr here
  | inr none ↦ inl (subst (λ (l : List ℕ). Contains l c) (sym (ap (λ (v : View). v.dues.owed) is)) (rest_has cells s.view.dues.owed c owed none))
]

-- the same, with what is owed
pub works_none : (g : GraphValue) (s : SeatValue) → Belongs s g → IsKnown s.view → s.view.dues.pledge ≡ 0 → HasWorked g s s [] []
works_none g s belongs known pledge = record { acted = acted_none g s belongs known pledge; owes = λ c h. elim h [ inl owed ↦ owed | inr none ↦ absurd (no_cell c none) ] }

pub works_then : (g : GraphValue) (a b c : SeatValue) (xs us ys vs : List Slip) → HasWorked g a b xs us → HasWorked g b c ys vs → HasWorked g a c (xs ++ ys) (us ++ vs)
works_then g a b c xs us ys vs p q = record {
  acted = acted_then g a b c xs us ys vs p.acted q.acted;
  owes = λ d h. elim h [
    | inl owed ↦ q.owes d (inl (p.owes d (inl owed)))
    | inr got ↦ elim (cell_or xs ys d got) [ inl l ↦ q.owes d (inl (p.owes d (inr l))) | inr r ↦ q.owes d (inr r) ]
  ];
}

-- cells were offered
pub offers_none : (g : GraphValue) (s : SeatValue) (b : BenchValue) (cells : List ℕ) → Belongs s g → IsKnown s.view → s.view.dues.pledge ≡ 0 → HasOffered g s s b b cells
offers_none g s b cells belongs known pledge = record {
  given = [];
  pushed = λ i. record b { pushed = sym (append-nil b.pushed) i };
  acted = acted_none g s belongs known pledge;
  owes = λ c h. inl h;
}

pub offers_then : (g : GraphValue) (a b c : SeatValue) (bench mid next : BenchValue) (cells : List ℕ) → HasOffered g a b bench mid cells → HasOffered g b c mid next cells → HasOffered g a c bench next cells
offers_then g a b c bench mid next cells p q = record {
  given = p.given ++ q.given;
  pushed = q.pushed ∙ ap (λ (k : BenchValue). record k { pushed = k.pushed ++ q.given }) p.pushed ∙ (λ i. record bench { pushed = append_assoc bench.pushed p.given q.given i });
  acted = acted_then g a b c [] p.given [] q.given p.acted q.acted;
  owes = λ d h. elim (p.owes d h) [ inl still ↦ q.owes d still | inr one ↦ inr one ];
}

-- what was drawn in the end is owed besides
pub offers_works : (g : GraphValue) (a b c : SeatValue) (bench next : BenchValue) (cells : List ℕ) → HasOffered g a b bench next cells → HasWorked g b c [] [] → HasOffered g a c bench next cells
offers_works g a b c bench next cells p q = record {
  given = p.given;
  pushed = p.pushed;
  acted = subst (λ (l : List Slip). HasActed g a c [] l) (append-nil p.given) (acted_then g a b c [] p.given [] [] p.acted q.acted);
  owes = λ d h. elim (p.owes d h) [ inl still ↦ inl (q.owes d (inl still)) | inr one ↦ inr one ];
}
