-- A seat that gives numbers away and takes growers in.
use Rattle.std.proofs.Common.{◌≡◌, refl, sym, ap, ap₂, subst, ◌∙◌, ℕ, ◌+◌, ◌-◌, ◌⊎◌, inl, inr, List, [], ◌∷◌, ◌++◌, Contains, append-nil, append_assoc, arith}
use Rattle.std.proofs.lemmas.List.Elements.{Contains-append_left, Contains-append_right, Contains-append_cases}
use Rattle.list_facts.proofs.Lists.{nothing_in, in_cons}
use Rattle.graph_history.specs.declared.event.Act.TheVariants.{Spent}
use Rattle.graph_history.specs.declared.event.Event.{Event}
use Rattle.graph_history.specs.Views.{View, Kept}
use Rattle.graph_history.specs.History.{calls}
use Rattle.graph_rule.specs.Rule.{IsPrefix, IsKnown}
use Rattle.graph_rule.specs.Told.{Advances}
use Rattle.graph_rule.specs.Parting.{joined}
use Rattle.graph_rule.specs.Values.{GraphValue, SeatValue, Belongs}
use Rattle.shared_seats.proofs.Fronts.{prefix_self, prefix_on}
use Rattle.parcel_deques.specs.declared.parcel.Slip.{Slip}
use Rattle.crystal_growers.specs.GrowthEvents.{Grew}
use Rattle.crystal_growers.specs.Grower.{HasActed}
use Rattle.crystal_growers.specs.Gathering.{CameBack, HasTakenIn, IsSpentBy}
use Rattle.crystal_growers.specs.Growth.{IsLost}
use Rattle.crystal_growers.proofs.Histories.{came_on, came_before, came_quiet}

-- a view by its parts
grown_view : (v w : View) (used : ℕ) (news : List Kept) → w.world ≡ v.world → w.number ≡ v.number → w.calls ≡ v.calls → w.kept ≡ v.kept ++ news → w.next ≡ v.next + used → w.left ≡ v.left - used
    → w ≡ record v { kept = v.kept ++ news; next = v.next + used; left = v.left - used; stake = w.stake; front = w.front; olds = w.olds; dues = w.dues }
grown_view v w used news a b c d e f = λ i. record { world = a i; number = b i; calls = c i; kept = d i; next = e i; left = f i; stake = w.stake; front = w.front; olds = w.olds; dues = w.dues }

-- numbers were given away, and stake or cells with them
abbrev pub Gave : View → View → ℕ → Type 0
Gave v w used = w ≡ record v { next = v.next + used; left = v.left - used; stake = w.stake; dues = w.dues }

pub grown_gave : (g : GraphValue) (these : ℕ → Type 0) (old now : SeatValue) (used : ℕ) → Belongs old g → now.table ≡ old.table → Gave old.view now.view used → IsKnown now.view → now.view.dues.pledge ≡ 0 → HasTakenIn g these old now used []
grown_gave g these old now used belongs table is known free = record {
  belongs = record { table = table ∙ belongs.table; world = ap (λ (v : View). v.world) is ∙ belongs.world };
  is = grown_view old.view now.view used [] (ap (λ (v : View). v.world) is) (ap (λ (v : View). v.number) is) (ap (λ (v : View). v.calls) is) (ap (λ (v : View). v.kept) is ∙ sym (append-nil old.view.kept))
      (ap (λ (v : View). v.next) is) (ap (λ (v : View). v.left) is);
  known = known;
  pledge = free;
  front = subst (λ (f : List Event). IsPrefix old.view.front f) (sym (ap (λ (v : View). v.front) is)) (prefix_self old.view.front);
  came = λ m h. absurd (nothing_in m h);
  within = λ m h. absurd (nothing_in m h);
}

-- one number more is kept
pub kept_or : (news : List Kept) (m : Kept) (P : Kept → Type 0) → ((k : Kept) → Contains news k → P k) → P m → (k : Kept) → Contains (m ∷ news) k → P k
kept_or news m P old this k h = elim (in_cons m news k h) [ inl e ↦ subst P e this | inr rest ↦ old k rest ]

pub kept_both : (xs ys : List Kept) (P : Kept → Type 0) → ((k : Kept) → Contains xs k → P k) → ((k : Kept) → Contains ys k → P k) → (k : Kept) → Contains (xs ++ ys) k → P k
kept_both xs ys P p q k h = elim (Contains-append_cases xs ys k h) [ inl l ↦ p k l | inr r ↦ q k r ]

-- a seat that comes: since this front it grew, and nobody called under the numbers that it keeps
pub record IsComing (g : GraphValue) (these : ℕ → Type 0) (first : List Event) (s : SeatValue) : Type 0 where
  pub belongs : Belongs s g
  pub known : IsKnown s.view
  pub pledge : s.view.dues.pledge ≡ 0
  pub none : calls first s.view.number ≡ []
  pub grew : Grew g.world s.view.number first s.view.front
  pub quiet : (m : Kept) → Contains s.view.kept m → m.calls ≡ []
  pub mine : these s.view.number

-- a grower's seat that began with no calls and no numbers
pub coming : (g : GraphValue) (these : ℕ → Type 0) (first : List Event) (s t : SeatValue) (got given : List Slip) → IsKnown s.view → s.view.calls ≡ [] → s.view.kept ≡ [] → s.view.front ≡ first → these s.view.number
    → HasActed g s t got given → IsComing g these first t
coming g these first s t got given known none alone front mine a = record {
  belongs = a.belongs;
  known = a.known;
  pledge = a.pledge;
  none = subst (λ (n : ℕ). calls first n ≡ []) (sym a.number) (subst (λ (f : List Event). calls f s.view.number ≡ []) front (known.sound.agrees.own.mine ∙ none));
  grew = subst (λ (n : ℕ). Grew g.world n first t.view.front) (sym a.number) (subst (λ (f : List Event). Grew g.world s.view.number f t.view.front) front a.grew);
  quiet = λ m h. a.quiet m (subst (λ (l : List Kept). Contains l m) (a.kept ∙ ap (λ (l : List Kept). l ++ a.news) alone) h);
  mine = subst these (sym a.number) mine;
}

-- the number of a seat with its calls
abbrev pub own : SeatValue → Kept
own s = record { number = s.view.number; calls = s.view.calls }

-- it joined
module _ (g : GraphValue) (these : ℕ → Type 0) (first mid now s : SeatValue) (used : ℕ) (news : List Kept) (p : HasTakenIn g these first mid used news) (c : IsComing g these first.view.front s)
    (table : now.table ≡ mid.table) (step : Advances (joined mid.view s.view) now.view [] (joined mid.view s.view).dues) (on : IsPrefix mid.view.front now.view.front) (from : IsPrefix s.view.front now.view.front) where
  pub grown_joined : HasTakenIn g these first now used (news ++ own s ∷ s.view.kept)
  grown_joined = record {
    belongs = record { table = table ∙ p.belongs.table; world = ap (λ (v : View). v.world) step.is ∙ p.belongs.world };
    is = grown_view first.view now.view used (news ++ own s ∷ s.view.kept) (ap (λ (v : View). v.world) step.is ∙ ap (λ (v : View). v.world) p.is) (ap (λ (v : View). v.number) step.is ∙ ap (λ (v : View). v.number) p.is)
        (ap (λ (v : View). v.calls) step.is ∙ append-nil mid.view.calls ∙ ap (λ (v : View). v.calls) p.is)
        (ap (λ (v : View). v.kept) step.is ∙ ap (λ (v : View). v.kept ++ own s ∷ s.view.kept) p.is ∙ append_assoc first.view.kept news (own s ∷ s.view.kept))
        (ap (λ (v : View). v.next) step.is ∙ ap (λ (v : View). v.next) p.is) (ap (λ (v : View). v.left) step.is ∙ ap (λ (v : View). v.left) p.is);
    known = step.known;
    pledge = ap (λ (v : View). v.dues.pledge) step.is ∙ ap₂ (λ (k l : ℕ). k + l) p.pledge c.pledge;
    front = prefix_on first.view.front mid.view.front now.view.front p.front on;
    came = kept_both news (own s ∷ s.view.kept) (CameBack g.world first.view.front now.view.front) (λ k h. came_on g.world first.view.front mid.view.front now.view.front k on (p.came k h))
        (kept_or s.view.kept (own s) (CameBack g.world first.view.front now.view.front)
        (λ k h. came_quiet g.world first.view.front s.view.front now.view.front k (c.grew.more, c.grew.is) from (c.known.sound.agrees.own.kept k h) (c.quiet k h))
        (record { none = c.none; back = s.view.front; grew = c.grew; all = c.known.sound.agrees.own.mine; ends = from }));
    within = kept_both news (own s ∷ s.view.kept) (λ k. these k.number ⊎ (k.calls ≡ [])) p.within (kept_or s.view.kept (own s) (λ k. these k.number ⊎ (k.calls ≡ [])) (λ k h. inr (c.quiet k h)) (inl c.mine));
  }

-- more numbers may be meant
pub grown_wider : (g : GraphValue) (these those : ℕ → Type 0) (old now : SeatValue) (used : ℕ) (news : List Kept) → ((n : ℕ) → these n → those n) → HasTakenIn g these old now used news → HasTakenIn g those old now used news
grown_wider g these those old now used news wider p = record {
  belongs = p.belongs;
  is = p.is;
  known = p.known;
  pledge = p.pledge;
  front = p.front;
  came = p.came;
  within = λ m h. elim (p.within m h) [ inl l ↦ inl (wider m.number l) | inr quiet ↦ inr quiet ];
}

pub grown_then : (g : GraphValue) (these : ℕ → Type 0) (old mid now : SeatValue) (a b used : ℕ) (news more : List Kept) → used ≡ a + b → HasTakenIn g these old mid a news → HasTakenIn g these mid now b more → HasTakenIn g these old now used (news ++ more)
grown_then g these old mid now a b used news more sum p q = record {
  belongs = q.belongs;
  is = grown_view old.view now.view used (news ++ more) (ap (λ (v : View). v.world) q.is ∙ ap (λ (v : View). v.world) p.is) (ap (λ (v : View). v.number) q.is ∙ ap (λ (v : View). v.number) p.is)
      (ap (λ (v : View). v.calls) q.is ∙ ap (λ (v : View). v.calls) p.is) (ap (λ (v : View). v.kept) q.is ∙ ap (λ (v : View). v.kept ++ more) p.is ∙ append_assoc old.view.kept news more) next left;
  known = q.known;
  pledge = q.pledge;
  front = prefix_on old.view.front mid.view.front now.view.front p.front q.front;
  came = kept_both news more (CameBack g.world old.view.front now.view.front) (λ m h. came_on g.world old.view.front mid.view.front now.view.front m q.front (p.came m h))
      (λ m h. came_before g.world old.view.front mid.view.front now.view.front m p.front (q.came m h));
  within = kept_both news more (λ m. these m.number ⊎ (m.calls ≡ [])) p.within q.within;
}
  where
    next : now.view.next ≡ old.view.next + used
    next = let e : now.view.next ≡ mid.view.next + b = ap (λ (v : View). v.next) q.is in let k : mid.view.next ≡ old.view.next + a = ap (λ (v : View). v.next) p.is in omega arith

    left : now.view.left ≡ old.view.left - used
    left = let e : now.view.left ≡ mid.view.left - b = ap (λ (v : View). v.left) q.is in let k : mid.view.left ≡ old.view.left - a = ap (λ (v : View). v.left) p.is in omega arith

-- a word that found no cell under one of the numbers, seen later
pub spent_wider : (these those : ℕ → Type 0) (before news after : List Kept) (h k : List Event) (x : ℕ) → ((n : ℕ) → these n → those n) → IsPrefix h k → IsSpentBy these news h x → IsSpentBy those (before ++ (news ++ after)) k x
spent_wider these those before news after h k x wider on (m, there, mine, found) = (
  m,
  Contains-append_right before (news ++ after) m (Contains-append_left news after m there),
  wider m.number mine,
  subst (λ (l : List Event). Contains l (record { caller = m.number; act = Spent x })) (sym on.1)
      (Contains-append_left h on.0 (record { caller = m.number; act = Spent x }) found),
)

-- after want of memory

pub lost_none : (s : SeatValue) → IsLost s s
lost_none s = record { table = refl; world = refl; number = refl; kept = λ m h. h; front = prefix_self s.view.front; pledge = refl }

pub lost_both : (a b c : SeatValue) → IsLost a b → IsLost b c → IsLost a c
lost_both a b c p q = record {
  table = q.table ∙ p.table;
  world = q.world ∙ p.world;
  number = q.number ∙ p.number;
  kept = λ m h. q.kept m (p.kept m h);
  front = prefix_on a.view.front b.view.front c.view.front p.front q.front;
  pledge = q.pledge ∙ p.pledge;
}

pub lost_grown : (g : GraphValue) (these : ℕ → Type 0) (old now : SeatValue) (used : ℕ) (news : List Kept) → old.table ≡ g.table → old.view.dues.pledge ≡ 0 → HasTakenIn g these old now used news → IsLost old now
lost_grown g these old now used news table pledge p = record {
  table = p.belongs.table ∙ sym table;
  world = ap (λ (v : View). v.world) p.is;
  number = ap (λ (v : View). v.number) p.is;
  kept = λ m h. subst (λ (l : List Kept). Contains l m) (sym (ap (λ (v : View). v.kept) p.is)) (Contains-append_left old.view.kept news m h);
  front = p.front;
  pledge = p.pledge ∙ sym pledge;
}

-- numbers, stake and cells that were given away may be lost
pub lost_gave : (old now : SeatValue) (used : ℕ) → now.table ≡ old.table → Gave old.view now.view used → now.view.dues.pledge ≡ old.view.dues.pledge → IsLost old now
lost_gave old now used table is pledge = record {
  table = table;
  world = ap (λ (v : View). v.world) is;
  number = ap (λ (v : View). v.number) is;
  kept = λ m h. subst (λ (l : List Kept). Contains l m) (sym (ap (λ (v : View). v.kept) is)) h;
  front = subst (λ (f : List Event). IsPrefix old.view.front f) (sym (ap (λ (v : View). v.front) is)) (prefix_self old.view.front);
  pledge = pledge;
}
