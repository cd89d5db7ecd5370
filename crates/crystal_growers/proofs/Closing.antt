-- How a growth ends, from the growers that came back and what they left.
use Rattle.std.proofs.Common.{◌≡◌, refl, sym, ap, ap₂, subst, ◌∙◌, ℕ, suc, ◌+◌, ◌-◌, ◌<◌, ◌⊎◌, inl, inr, nat_eq, List, [], ◌∷◌, ◌++◌, length, get_or, Option, Some, None, Contains, append-nil, arith}
use Rattle.std.specs.List.{IsDistinct}
use Rattle.std.specs.Set.{is_member}
use Rattle.std.proofs.lemmas.List.Elements.{Contains-append_left, Contains-append_right, Contains-append_cases}
use Rattle.list_facts.proofs.Lists.{nothing_in, in_first, nothing, filter_keeps}
use Rattle.graph_history.specs.Views.{Kept}
use Rattle.graph_history.specs.Views.{View}
use Rattle.graph_history.specs.History.{state_of, IsWhole}
use Rattle.graph_history.proofs.CellLists.{into, out_of, part_of}
use Rattle.graph_rule.specs.Rule.{IsPrefix, IsKnown}
use Rattle.graph_rule.specs.Told.{Advances}
use Rattle.graph_rule.specs.Parting.{joined, hand_left, hand_right}
use Rattle.graph_rule.specs.Values.{GraphValue, SeatValue, Belongs}
use Rattle.shared_seats.proofs.Fronts.{prefix_self}
use Rattle.parcel_deques.specs.declared.parcel.Slip.{Slip}
use Rattle.parcel_deques.specs.Benches.{BenchValue}
use Rattle.parcel_deques.specs.Gather.{all_taken, IsGathered, AreGathered}
use Rattle.parcel_deques.proofs.Weights.{weigh-append}
use Rattle.crystal_growers.specs.declared.grower.Start.{Start}
use Rattle.crystal_growers.specs.Expansion.{HasEnded, rest_of}
use Rattle.crystal_growers.specs.Slips.{slip_stakes, HasCell, all_pushed}
use Rattle.crystal_growers.specs.Drawing.{IsWaiting}
use Rattle.crystal_growers.specs.Grower.{GoesOn}
use Rattle.crystal_growers.specs.Gathering.{HasTakenIn, IsSpentBy, IsNumberOf, IsPaidUp, HasCollected, AreHome, HasCleared, RestEndedWith, HasDrawnRest}
use Rattle.crystal_growers.specs.Growth.{IsLost, IsNumberIn, HasClosed}
use Rattle.crystal_growers.proofs.Parts.{has_or_not, rest_in, rest_has}
use Rattle.crystal_growers.proofs.SlipCells.{cell_or, same_cells}
use Rattle.crystal_growers.proofs.DrawnCells.{whole_later}
use Rattle.crystal_growers.proofs.Waiting.{can_draw}
use Rattle.crystal_growers.proofs.Coming.{IsComing, coming, own, grown_gave, grown_joined, grown_wider, grown_then, spent_wider, lost_gave}

-- a seat to which unpaid cells were handed waits for them
module _ (g : GraphValue) (s child : SeatValue) (rest : List ℕ) (belongs : Belongs s g) (table : child.table ≡ s.table) (is : child.view ≡ hand_right 1 1 rest s.view) (known : IsKnown child.view) where
  pub child_belongs : Belongs child g
  child_belongs = record { table = table ∙ belongs.table; world = ap (λ (v : View). v.world) is ∙ belongs.world }

  pub child_waits : IsDistinct nat_eq rest → ((c : ℕ) → Contains rest c → Contains s.view.dues.unpaid c) → IsWaiting g rest child
  child_waits once unpaid = record {
    can = can_draw g child rest child_belongs known (ap (λ (v : View). v.dues.pledge) is) once
        (λ c h. subst (λ (v : View). Contains v.dues.unpaid c) (sym is) (filter_keeps (is_member nat_eq rest) s.view.dues.unpaid c (unpaid c h) (into rest c h)));
    no_other = λ c h. out_of rest c (part_of (is_member nat_eq rest) s.view.dues.unpaid c (subst (λ (v : View). Contains v.dues.unpaid c) is h)).1;
    covered = λ c h. inr (out_of rest c (part_of (is_member nat_eq rest) s.view.dues.owed c (subst (λ (v : View). Contains v.dues.owed c) is h)).1);
  }

-- what was left was drawn at it, and it joined again
module _ (g : GraphValue) (old mid child t now : SeatValue) (benches : List BenchValue) (rest : List ℕ) (belongs : Belongs old g) (free : old.view.dues.pledge ≡ 0) (some : 1 < old.view.stake)
    (mid_table : mid.table ≡ old.table) (mid_is : mid.view ≡ hand_left 1 1 rest old.view) (mid_known : IsKnown mid.view)
    (child_is : child.view ≡ hand_right 1 1 rest old.view) (child_known : IsKnown child.view) (c : HasCleared g child t benches)
    (table : now.table ≡ mid.table) (step : Advances (joined mid.view t.view) now.view [] (joined mid.view t.view).dues) (on : IsPrefix mid.view.front now.view.front) (from : IsPrefix t.view.front now.view.front) where
  comes : IsComing g (λ n. n ≡ old.view.next) old.view.front t
  comes = coming g (λ n. n ≡ old.view.next) old.view.front child t c.got [] child_known (ap (λ (v : View). v.calls) child_is) (ap (λ (v : View). v.kept) child_is) (ap (λ (v : View). v.front) child_is)
      (ap (λ (v : View). v.number) child_is) c.worked.acted

  gave : HasTakenIn g (λ n. n ≡ old.view.next) old mid 1 []
  gave = grown_gave g (λ n. n ≡ old.view.next) old mid 1 belongs mid_table (mid_is ∙ (λ i. record old.view { next = old.view.next + 1; left = old.view.left - 1; stake = sym (ap (λ (v : View). v.stake) mid_is) i; dues = sym (ap (λ (v : View). v.dues) mid_is) i }))
      mid_known (ap (λ (v : View). v.dues.pledge) mid_is ∙ free)

  grown : HasTakenIn g (λ n. n ≡ old.view.next) old now 1 (own t ∷ t.view.kept)
  grown = grown_joined g (λ n. n ≡ old.view.next) old mid now t 1 [] gave comes table step on from

  owed_is : now.view.dues.owed ≡ rest_of rest old.view.dues.owed ++ t.view.dues.owed
  owed_is = ap (λ (v : View). v.dues.owed) step.is ∙ ap (λ (v : View). v.dues.owed ++ t.view.dues.owed) mid_is

  came : (d : ℕ) → Contains t.view.dues.owed d → Contains now.view.dues.owed d
  came d h = subst (λ (l : List ℕ). Contains l d) (sym owed_is) (Contains-append_right (rest_of rest old.view.dues.owed) t.view.dues.owed d h)

  owes : (d : ℕ) → Contains old.view.dues.owed d ⊎ HasCell c.got d → Contains now.view.dues.owed d
  owes d (inl h) = elim (has_or_not rest d) [
    | inl here ↦ came d (c.worked.owes d (inl (subst (λ (v : View). Contains v.dues.owed d) (sym child_is) (filter_keeps (is_member nat_eq rest) old.view.dues.owed d h (into rest d here)))))
    | inr none ↦ subst (λ (l : List ℕ). Contains l d) (sym owed_is) (Contains-append_left (rest_of rest old.view.dues.owed) t.view.dues.owed d (rest_has rest old.view.dues.owed d h none))
  ]
  owes d (inr h) = came d (c.worked.owes d (inr h))

  ended : (before full : Option ℕ) → GoesOn before g t full → RestEndedWith g old now rest (own t ∷ t.view.kept) before full
  ended None None waits = (
    ap (λ (v : View). v.dues.unpaid) step.is ∙ ap₂ (λ (k l : List ℕ). k ++ l) (ap (λ (v : View). v.dues.unpaid) mid_is) (nothing t.view.dues.unpaid (λ d h. nothing_in d (waits.no_other d h))) ∙ append-nil (rest_of rest old.view.dues.unpaid),
    λ d h. elim (Contains-append_cases (rest_of rest old.view.dues.owed) t.view.dues.owed d (subst (λ (l : List ℕ). Contains l d) owed_is h)) [
      | inl l ↦ inl l
      | inr r ↦ elim (waits.covered d r) [ inl whole ↦ inr (whole_later g.world t.view.front now.view.front d from whole) | inr none ↦ absurd (nothing_in d none) ]
    ],
  )
  ended None (Some x) found = spent_wider (λ n. n ≡ old.view.next) (λ n. n ≡ old.view.next) [] (own t ∷ []) t.view.kept t.view.front now.view.front x (λ n m. m) from (own t, in_first (own t) [], comes.mine, found)
  ended (Some x) full is = is

  pub has_finished : (before full : Option ℕ) → GoesOn before g t full → HasDrawnRest g old now benches rest before full
  has_finished before full goes = record {
    news = own t ∷ t.view.kept;
    grown = grown;
    got = c.got;
    all = c.all;
    stake =
        let sum : now.view.stake ≡ mid.view.stake + t.view.stake = ap (λ (v : View). v.stake) step.is in
        let less : mid.view.stake ≡ old.view.stake - 1 = ap (λ (v : View). v.stake) mid_is in
        let one : child.view.stake ≡ 1 = ap (λ (v : View). v.stake) child_is in
        let k = c.worked.acted.stake in
        omega arith;
    owes = owes;
    ended = ended before full goes;
  }

-- or the seat did not come back
pub lost_handed : (old mid : SeatValue) (rest : List ℕ) → mid.table ≡ old.table → mid.view ≡ hand_left 1 1 rest old.view → IsLost old mid
lost_handed old mid rest table is =
    lost_gave old mid 1 table (is ∙ (λ i. record old.view { next = old.view.next + 1; left = old.view.left - 1; stake = sym (ap (λ (v : View). v.stake) is) i; dues = sym (ap (λ (v : View). v.dues) is) i })) (ap (λ (v : View). v.dues.pledge) is)

-- the passes of all benches came home
pushed_same : (old now : List BenchValue) → length now ≡ length old → ((k : ℕ) (d e : BenchValue) → k < length old → IsGathered (get_or old k d) (get_or now k e)) → all_pushed now ≡ all_pushed old
pushed_same [] [] many each = refl
pushed_same [] (b ∷ bs) many each = absurd (omega arith)
pushed_same (a ∷ old) [] many each = absurd (omega arith)
pushed_same (a ∷ old) (b ∷ bs) many each = ap₂ (λ (k l : List Slip). k ++ l) (each 0 a b (omega arith)).pushed (pushed_same old bs (omega arith) (λ k d e below. each (suc k) d e (omega arith)))

pub are_home : (old now : List BenchValue) → AreGathered old now → AreHome now
are_home old now h k d below = let one = h.each k d d (let m = h.many in omega arith) in (one.home, one.taken)

-- where all was drawn, the unpaid cells are those from before
same_unpaid : (old mid : SeatValue) (full : Option ℕ) (owed : Type 0) (spent : ℕ → Type 0) → HasEnded ((mid.view.dues.unpaid ≡ old.view.dues.unpaid) × owed) spent full → full ≡ None → mid.view.dues.unpaid ≡ old.view.dues.unpaid
same_unpaid old mid None owed spent ended none = ended.0
same_unpaid old mid (Some x) owed spent ended none = cc

pub still_unpaid : {J : Type 0} (g : GraphValue) (old mid : SeatValue) (starts : List (Start J)) (benches : List BenchValue) (full : Option ℕ) (rest : List ℕ) → HasCollected g old mid starts benches full
    → ((c : ℕ) → Contains rest c → Contains old.view.dues.unpaid c) → full ≡ None → (c : ℕ) → Contains rest c → Contains mid.view.dues.unpaid c
still_unpaid g old mid starts benches full rest c unpaid none d h =
    subst (λ (l : List ℕ). Contains l d) (sym (same_unpaid old mid full ((d : ℕ) → Contains mid.view.dues.owed d → Contains old.view.dues.owed d ⊎ IsWhole g.world (state_of mid.view.front) d) (IsSpentBy (IsNumberOf starts) c.news mid.view.front) c.ended none)) (unpaid d h)

-- how a growth ends
module _ {J : Type 0} (g : GraphValue) (old mid now : SeatValue) (starts : List (Start J)) (benches home : List BenchValue) (rest : List ℕ) (full last : Option ℕ) (c : HasCollected g old mid starts benches full)
    (h : AreGathered benches home) (f : HasDrawnRest g mid now home rest full last) where
  pushed_is : all_pushed home ≡ all_pushed benches
  pushed_is = pushed_same benches home h.many h.each

  next_is : mid.view.next ≡ old.view.next
  next_is = ap (λ (v : View). v.next) c.grown.is ∙ (let e : old.view.next + 0 ≡ old.view.next = omega arith in e)

  in_next : (n : ℕ) → n ≡ mid.view.next → IsNumberIn starts old.view n
  in_next n is = inr (is ∙ next_is)

  spent : (x : ℕ) → IsSpentBy (IsNumberOf starts) c.news mid.view.front x → IsSpentBy (IsNumberIn starts old.view) (c.news ++ f.news) now.view.front x
  spent x found = spent_wider (IsNumberOf starts) (IsNumberIn starts old.view) [] c.news f.news mid.view.front now.view.front x (λ n m. inl m) f.grown.front found

  spent_last : (x : ℕ) → IsSpentBy (λ n. n ≡ mid.view.next) f.news now.view.front x → IsSpentBy (IsNumberIn starts old.view) (c.news ++ f.news) now.view.front x
  spent_last x found =
      subst (λ (l : List Kept). IsSpentBy (IsNumberIn starts old.view) (c.news ++ l) now.view.front x) (append-nil f.news)
      (spent_wider (λ n. n ≡ mid.view.next) (IsNumberIn starts old.view) c.news f.news [] now.view.front now.view.front x in_next (prefix_self now.view.front) found)

  paid : IsPaidUp g old.view.dues.owed old.view.dues.unpaid mid → IsPaidUp g (rest_of rest mid.view.dues.owed) (rest_of rest mid.view.dues.unpaid) now → IsPaidUp g (rest_of rest old.view.dues.owed) (rest_of rest old.view.dues.unpaid) now
  paid (unpaid, owed) (unpaid_now, owed_now) = (
    unpaid_now ∙ ap (λ (l : List ℕ). rest_of rest l) unpaid,
    λ d there. elim (owed_now d there) [
      | inl l ↦ let k = rest_in rest mid.view.dues.owed d l in elim (owed d k.0) [
        | inl before ↦ inl (rest_has rest old.view.dues.owed d before k.1)
        | inr whole ↦ inr (whole_later g.world mid.view.front now.view.front d f.grown.front whole)
      ]
      | inr whole ↦ inr whole
    ],
  )

  both_ended : (full last : Option ℕ) → HasEnded (IsPaidUp g old.view.dues.owed old.view.dues.unpaid mid) (IsSpentBy (IsNumberOf starts) c.news mid.view.front) full → RestEndedWith g mid now rest f.news full last
      → HasEnded (IsPaidUp g (rest_of rest old.view.dues.owed) (rest_of rest old.view.dues.unpaid) now) (IsSpentBy (IsNumberIn starts old.view) (c.news ++ f.news) now.view.front) last
  both_ended None None before after = paid before after
  both_ended None (Some x) before after = spent_last x after
  both_ended (Some x) last before after =
      subst (λ (o : Option ℕ). HasEnded (IsPaidUp g (rest_of rest old.view.dues.owed) (rest_of rest old.view.dues.unpaid) now) (IsSpentBy (IsNumberIn starts old.view) (c.news ++ f.news) now.view.front) o) (sym after) (spent x before)

  pub has_closed : HasClosed g old now starts rest last
  has_closed = record {
    news = c.news ++ f.news;
    keeps = λ n mine. let m = c.keeps n mine in (m.0, Contains-append_left c.news f.news m.0 m.1, m.2);
    grown = grown_then g (IsNumberIn starts old.view) old mid now 0 1 1 c.news f.news refl (grown_wider g (IsNumberOf starts) (IsNumberIn starts old.view) old mid 0 c.news (λ n m. inl m) c.grown)
        (grown_wider g (λ n. n ≡ mid.view.next) (IsNumberIn starts old.view) mid now 1 f.news in_next f.grown);
    stake =
        let k = c.stake in
        let l = f.stake in
        let pushed : slip_stakes (all_pushed home) ≡ slip_stakes (all_pushed benches) = ap slip_stakes pushed_is in
        let taken = h.slips (λ (y : Slip). y.stake) in
        let all = f.all (λ (y : Slip). y.stake) in
        let sum = weigh-append (λ (y : Slip). y.stake) (all_taken home) f.got in
        omega arith;
    owes = λ d k. elim k [
      | inl owed ↦ f.owes d (inl (c.owes d (inl owed)))
      | inr some ↦ elim (cell_or (all_taken home) f.got d (same_cells (all_pushed home) (all_taken home ++ f.got) d (λ w. sym (f.all w)) (subst (λ (l : List Slip). HasCell l d) (sym pushed_is) (c.has d some)))) [
        | inl taken ↦ f.owes d (inl (c.owes d (inr (same_cells (all_taken home) (all_taken benches) d h.slips taken))))
        | inr got ↦ f.owes d (inr got)
      ]
    ];
    ended = both_ended full last c.ended f.ended;
  }
