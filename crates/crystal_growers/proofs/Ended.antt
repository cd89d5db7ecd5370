-- What a growth tells, from how it began and how it ended.
use Rattle.std.proofs.Common.{◌≡◌, refl, sym, ap, subst, ◌∙◌, ℕ, ◌+◌, ◌-◌, ◌*◌, ◌^◌, ◌<◌, ◌≤◌, ◌⊎◌, inl, inr, nat_eq, ◌==◌, eq-eqb, cond, Bool, true, false, List, [], ◌∷◌, ◌++◌, length, Option, Some, None, Contains, append-nil, arith}
use Rattle.std.specs.List.{IsDistinct}
use Rattle.std.proofs.lemmas.List.{append_cancel_left}
use Rattle.std.proofs.lemmas.List.Elements.{All-weaker, All-contains_itself, Contains-append_left, Contains-append_right, Contains-append_cases}
use Rattle.list_facts.proofs.Lists.{nothing_in, in_first, in_rest, in_cons, nothing}
use Rattle.tensor_words.specs.Worlds.{WorldType}
use Rattle.graph_history.specs.declared.event.Act.TheVariants.{Spent}
use Rattle.graph_history.specs.declared.event.Event.{Event}
use Rattle.graph_history.specs.Views.{Kept}
use Rattle.graph_history.specs.Views.{View}
use Rattle.graph_history.specs.History.{state_of, HasSome, IsWhole, calls}
use Rattle.graph_rule.specs.Rule.{IsUnused, IsKnown}
use Rattle.graph_rule.specs.Values.{GraphValue, SeatValue, Belongs}
use Rattle.crystal_growers.specs.declared.growth.Grown.{Grown}
use Rattle.crystal_growers.specs.declared.growth.Grown.TheVariants.{Closed, Full}
use Rattle.crystal_growers.specs.declared.grower.Start.{Start}
use Rattle.crystal_growers.specs.GrowthEvents.{GrowsFrom, Grew}
use Rattle.crystal_growers.specs.Expansion.{HasEnded, rest_of}
use Rattle.crystal_growers.specs.Drawing.{CanDraw}
use Rattle.crystal_growers.specs.Gathering.{numbers, HasTakenIn, IsSpentBy, IsPaidUp}
use Rattle.crystal_growers.specs.Growth.{GrowthEnded, IsGrown, IsCovered, HasBegun, IsNumberIn, HasClosed}
use Rattle.crystal_growers.proofs.Parts.{has_or_not, rest_in, rest_has}
use Rattle.crystal_growers.proofs.Histories.{came_grew, same_calls}
use Rattle.crystal_growers.proofs.DrawnCells.{whole_later}
use Rattle.crystal_growers.proofs.Coming.{grown_gave, grown_wider, grown_then}
use Rattle.crystal_growers.proofs.Numbers.{are_kept}

-- an event of a number is among its calls
in_calls : (h : List Event) (n : ℕ) (e : Event) → e.caller ≡ n → Contains h e → Contains (calls h n) e
in_calls [] n e own h = absurd (nothing_in e h)
in_calls (x ∷ h) n e own there = by (x.caller == n) refl (in_cons x h e there) (in_calls h n e own)
  where
    by : (b : Bool) → (x.caller == n) ≡ b → (x ≡ e) ⊎ Contains h e → (Contains h e → Contains (calls h n) e) → Contains (cond b (x ∷ calls h n) (calls h n)) e
    by true is (inl same) later = subst (λ (y : Event). Contains (x ∷ calls h n) y) same (in_first x (calls h n))
    by true is (inr rest) later = in_rest x (calls h n) e (later rest)
    by false is (inl same) later = let mine : (x.caller == n) ≡ true = eq-eqb x.caller n (ap (λ (y : Event). y.caller) same ∙ own) in cc
    by false is (inr rest) later = later rest

-- the numbers that were given
module _ {J : Type 0} (g : GraphValue) (v m w : SeatValue) (cells rest : List ℕ) (growers : ℕ) (starts : List (Start J)) (full : Option ℕ) (can : CanDraw g cells v) (known : IsKnown v.view) (mid_known : IsKnown m.view)
    (some : 0 < growers) (enough : 2 ^ 21 * growers ≤ v.view.left) (b : HasBegun g v m cells rest growers starts) (c : HasClosed g m w starts rest full) where
  used : ℕ
  used = b.parcels + growers * numbers + 1

  few_used : b.parcels + growers * numbers + 1 ≤ 2 ^ 21 * growers
  few_used = let f = b.few in omega arith

  gave : HasTakenIn g (IsUnused v.view) v m (b.parcels + growers * numbers) []
  gave = grown_gave g (IsUnused v.view) v m (b.parcels + growers * numbers) can.belongs b.table
      (b.view ∙ (λ i. record v.view { next = v.view.next + (b.parcels + growers * numbers); left = v.view.left - (b.parcels + growers * numbers); stake = m.view.stake; dues = sym (ap (λ (x : View). x.dues) b.view) i }))
      mid_known (ap (λ (x : View). x.dues.pledge) b.view ∙ can.pledge)

  unused : (n : ℕ) → IsNumberIn starts m.view n → IsUnused v.view n
  unused n (inl mine) = b.fresh n mine
  unused n (inr next) = let e : m.view.next ≡ v.view.next + (b.parcels + growers * numbers) = ap (λ (x : View). x.next) b.view in let f = few_used in (omega arith, omega arith)

  grown : HasTakenIn g (IsUnused v.view) v w (b.parcels + growers * numbers + 1) c.news
  grown = grown_then g (IsUnused v.view) v m w (b.parcels + growers * numbers) 1 (b.parcels + growers * numbers + 1) [] c.news refl gave (grown_wider g (IsNumberIn starts m.view) (IsUnused v.view) m w 1 c.news unused c.grown)

  world : w.view.world ≡ v.view.world
  world = ap (λ (x : View). x.world) grown.is

  left_is : m.view.dues.owed ≡ rest_of b.loaded v.view.dues.owed
  left_is = ap (λ (x : View). x.dues.owed) b.view

  unpaid_is : m.view.dues.unpaid ≡ rest_of b.loaded v.view.dues.unpaid
  unpaid_is = ap (λ (x : View). x.dues.unpaid) b.view

  in_loaded : (d : ℕ) → Contains b.loaded d → Contains cells d
  in_loaded d h = subst (λ (l : List ℕ). Contains l d) (sym b.cells_are) (Contains-append_left b.loaded rest d h)

  in_left : (d : ℕ) → Contains rest d → Contains cells d
  in_left d h = subst (λ (l : List ℕ). Contains l d) (sym b.cells_are) (Contains-append_right b.loaded rest d h)

  not_given : (d : ℕ) → (Contains b.loaded d → ⊥) → (Contains rest d → ⊥) → Contains cells d → ⊥
  not_given d p q h = elim (Contains-append_cases b.loaded rest d (subst (λ (l : List ℕ). Contains l d) b.cells_are h)) [ inl l ↦ p l | inr r ↦ q r ]

  owes : (d : ℕ) → Contains v.view.dues.owed d → Contains w.view.dues.owed d
  owes d h = elim (has_or_not b.loaded d) [
    | inl here ↦ c.owes d (inr (b.has d here))
    | inr none ↦ c.owes d (inl (subst (λ (l : List ℕ). Contains l d) (sym left_is) (rest_has b.loaded v.view.dues.owed d h none)))
  ]

  kept : w.view.kept ≡ v.view.kept ++ c.news
  kept = ap (λ (x : View). x.kept) grown.is

  own_same : calls v.view.front v.view.number ≡ calls w.view.front v.view.number
  own_same = known.sound.agrees.own.mine ∙ sym (ap (λ (x : View). x.calls) grown.is) ∙ sym grown.known.sound.agrees.own.mine ∙ ap (λ (k : ℕ). calls w.view.front k) (ap (λ (x : View). x.number) grown.is)

  kept_grew : (k : Kept) → Contains w.view.kept k → Grew v.view.world k.number v.view.front w.view.front
  kept_grew k here = elim (Contains-append_cases v.view.kept c.news k (subst (λ (l : List Kept). Contains l k) kept here)) [
    | inl old ↦ same_calls v.view.world k.number v.view.front w.view.front grown.front.0 grown.front.1 (known.sound.agrees.own.kept k old ∙ sym (grown.known.sound.agrees.own.kept k here))
    | inr new ↦ subst (λ (x : WorldType). Grew x k.number v.view.front w.view.front) (sym can.belongs.world) (came_grew g.world v.view.front w.view.front k (grown.came k new) (grown.known.sound.agrees.own.kept k here))
  ]

  fixed : (n : ℕ) → Grew v.view.world n v.view.front w.view.front → GrowsFrom v.view.world n (state_of v.view.front) grown.front.0
  fixed n r = subst (λ (l : List Event). GrowsFrom v.view.world n (state_of v.view.front) l) (append_cancel_left v.view.front r.more grown.front.0 (sym r.is ∙ grown.front.1)) r.growth

  full_ended : (x : ℕ) → IsSpentBy (IsNumberIn starts m.view) c.news w.view.front x → GrowthEnded v.view w.view cells grown.front.0 (Full x)
  full_ended x (k, there, mine, found) = (
    k.number,
    inr (unused k.number mine, (k, subst (λ (l : List Kept). Contains l k) (sym kept) (Contains-append_right v.view.kept c.news k there), refl)),
    elim (Contains-append_cases v.view.front grown.front.0 (record { caller = k.number; act = Spent x }) (subst (λ (l : List Event). Contains l (record { caller = k.number; act = Spent x })) grown.front.1 found)) [
      | inl before ↦ absurd (nothing_in (record { caller = k.number; act = Spent x }) (subst (λ (l : List Event). Contains l (record { caller = k.number; act = Spent x })) (known.sound.agrees.none k.number (unused k.number mine))
          (in_calls v.view.front k.number (record { caller = k.number; act = Spent x }) refl before)))
      | inr later ↦ later
    ],
  )

  closed_ended : IsCovered v cells → IsPaidUp g (rest_of rest m.view.dues.owed) (rest_of rest m.view.dues.unpaid) w → GrowthEnded v.view w.view cells grown.front.0 Closed
  closed_ended covered (unpaid, owed) = (
    λ d h. elim h [ inl given ↦ whole d (owes d (known.dues.among d (can.unpaid d given))) | inr here ↦ whole d here ],
    λ d h. let k = rest_in rest m.view.dues.unpaid d (subst (λ (l : List ℕ). Contains l d) unpaid h) in let l = rest_in b.loaded v.view.dues.unpaid d (subst (λ (l : List ℕ). Contains l d) unpaid_is k.0) in (l.0, not_given d l.1 k.1),
    λ d h none. subst (λ (l : List ℕ). Contains l d) (sym unpaid)
        (rest_has rest m.view.dues.unpaid d (subst (λ (l : List ℕ). Contains l d) (sym unpaid_is) (rest_has b.loaded v.view.dues.unpaid d h (λ here. none (in_loaded d here)))) (λ here. none (in_left d here))),
  )
    where
      whole : (d : ℕ) → Contains w.view.dues.owed d → IsWhole v.view.world (state_of w.view.front) d
      whole d h = elim (owed d h) [
        | inr done ↦ subst (λ (x : WorldType). IsWhole x (state_of w.view.front) d) (sym can.belongs.world) done
        | inl before ↦
            let k = rest_in rest m.view.dues.owed d before in
            let l = rest_in b.loaded v.view.dues.owed d (subst (λ (l : List ℕ). Contains l d) left_is k.0) in
            elim (covered d l.0) [ inl done ↦ whole_later v.view.world v.view.front w.view.front d grown.front done | inr given ↦ absurd (not_given d l.1 k.1 given) ]
      ]

  pub is_grown : IsCovered v cells → (answer : Grown) → ((x : ℕ) → full ≡ Some x → answer ≡ Full x) → (full ≡ None → answer ≡ Closed) → IsGrown v.view w.view cells growers answer
  is_grown covered answer when_full when_none = record {
    world = world;
    number = ap (λ (x : View). x.number) grown.is;
    stake = c.stake ∙ b.stake;
    falls = let e : w.view.left ≡ v.view.left - (b.parcels + growers * numbers + 1) = ap (λ (x : View). x.left) grown.is in omega arith;
    left = let e : w.view.left ≡ v.view.left - (b.parcels + growers * numbers + 1) = ap (λ (x : View). x.left) grown.is in let f = few_used in omega arith;
    unused = let e : w.view.left ≡ v.view.left - (b.parcels + growers * numbers + 1) = ap (λ (x : View). x.left) grown.is in
        let h : w.view.next ≡ v.view.next + (b.parcels + growers * numbers + 1) = ap (λ (x : View). x.next) grown.is in let f = few_used in omega arith;
    pledge = grown.pledge;
    known = grown.known;
    more = grown.front.0;
    front = grown.front.1;
    news = c.news;
    kept = kept;
    fresh = grown.within;
    workers = λ some_cell. are_kept v.view starts (v.view.next + b.parcels) growers c.news b.count b.numbered b.fresh c.keeps;
    owed = owes;
    growth = λ n grower. elim grower [
      | inl own ↦ fixed n (same_calls v.view.world n v.view.front w.view.front grown.front.0 grown.front.1 (subst (λ (k : ℕ). calls v.view.front k ≡ calls w.view.front k) (sym own) own_same))
      | inr other ↦ fixed n (subst (λ (k : ℕ). Grew v.view.world k v.view.front w.view.front) other.1.2 (kept_grew other.1.0 other.1.1))
    ];
    ended = by full refl c.ended;
  }
    where
      by : (f : Option ℕ) → full ≡ f → HasEnded (IsPaidUp g (rest_of rest m.view.dues.owed) (rest_of rest m.view.dues.unpaid) w) (IsSpentBy (IsNumberIn starts m.view) c.news w.view.front) f
          → GrowthEnded v.view w.view cells grown.front.0 answer
      by None is ended = subst (λ (a : Grown). GrowthEnded v.view w.view cells grown.front.0 a) (sym (when_none is)) (closed_ended covered ended)
      by (Some x) is ended = subst (λ (a : Grown). GrowthEnded v.view w.view cells grown.front.0 a) (sym (when_full x is)) (full_ended x ended)

-- nothing was given
pub grown_nothing : (g : GraphValue) (v : SeatValue) (cells : List ℕ) (growers : ℕ) → cells ≡ [] → CanDraw g cells v → IsKnown v.view → IsCovered v cells → IsGrown v.view v.view cells growers Closed
grown_nothing g v cells growers none can known covered = record {
  world = refl;
  number = refl;
  stake = refl;
  falls = omega arith;
  left = omega arith;
  unused = refl;
  pledge = can.pledge;
  known = known;
  more = [];
  front = sym (append-nil v.view.front);
  news = [];
  kept = sym (append-nil v.view.kept);
  fresh = λ m h. absurd (nothing_in m h);
  workers = λ some_cell. let e = ap length none in absurd (omega arith);
  owed = λ d h. h;
  growth = λ n grower. tt;
  ended = (
    λ d h. elim h [ inl given ↦ absurd (nothing d given) | inr owed ↦ elim (covered d owed) [ inl whole ↦ whole | inr given ↦ absurd (nothing d given) ] ],
    λ d h. (h, nothing d),
    λ d h other. h,
  );
}
  where
    nothing : (d : ℕ) → Contains cells d → ⊥
    nothing d h = nothing_in d (subst (λ (l : List ℕ). Contains l d) none h)

-- a growth may begin from a seat's unpaid cells, where it owes no others
pub can_grow : (g : GraphValue) (s : SeatValue) (cells : List ℕ) → Belongs s g → IsKnown s.view → s.view.dues.pledge ≡ 0 → s.view.dues.unpaid ≡ cells → CanDraw g cells s
can_grow g s cells belongs known pledge is = record {
  belongs = belongs;
  pledge = pledge;
  once = subst (λ (l : List ℕ). IsDistinct nat_eq l) is known.dues.once;
  there = All-weaker (Contains cells) (HasSome (state_of s.view.front)) (λ c h. known.dues.owed c (known.dues.among c (subst (λ (l : List ℕ). Contains l c) (sym is) h))) cells (All-contains_itself cells);
  unpaid = λ c h. subst (λ (l : List ℕ). Contains l c) (sym is) h;
}

-- and where it closes, nothing is unpaid
pub nothing_unpaid : (v w : View) (cells : List ℕ) (growers : ℕ) → v.dues.unpaid ≡ cells → IsGrown v w cells growers Closed → w.dues.unpaid ≡ []
nothing_unpaid v w cells growers is h = nothing w.dues.unpaid (λ c there. let k = h.ended.1 c there in k.1 (subst (λ (l : List ℕ). Contains l c) is k.0))
