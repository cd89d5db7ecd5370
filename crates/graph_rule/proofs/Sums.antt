-- Debts, added up over a list of views.
use Rattle.std.proofs.Common.{◌≡◌, refl, sym, ap, subst, ℕ, zero, suc, ◌+◌, ◌<◌, ◌≤◌, ◌==◌, inl, inr, Bool, true, false, nat_eq, if◌then◌else◌, List, [], ◌∷◌, ◌++◌, length, set, Contains, length-append, ◌⊎◌, ⊎_elim, le_trans, arith}
use Rattle.std.specs.List.{IsDistinct}
use Rattle.std.proofs.lemmas.Grind.{common_steps}
use Rattle.std.proofs.lemmas.List.Elements.{Contains-append_left, Contains-append_right, Contains-append_cases}
use Rattle.std.proofs.lemmas.Map.Steps.{length-le_from_distinct_below}
use mathlib.Core.Option.{some, some-injective, some-ne-none}
use lib.ListN.{get_elem?}
use Rattle.tensor_words.specs.Worlds.{WorldType}
use Rattle.graph_history.specs.Views.{View}
use Rattle.graph_history.specs.History.{State, HasVertex, IsWhole, unfinished}
use Rattle.graph_history.proofs.SoundStates.{IsSound}
use Rattle.graph_history.proofs.Counting.{unfinished_within}
use Rattle.shared_seats.specs.Seats.{stakes}
use Rattle.shared_seats.proofs.Stakes.{stakes-at}
use Rattle.graph_rule.specs.Rule.{due, debts_of, IsUnpaid}
use Rattle.graph_history.proofs.CellLists.{distinct_both, out_of}

-- debts
pub due_live : (v : View) → 0 < v.stake → due v ≡ length v.dues.unpaid + v.dues.pledge
unfolding due
due_live v live = grind (arith, common_steps)

pub due_spent : (v : View) → v.stake ≡ 0 → due v ≡ 0
unfolding due
due_spent v none = grind (arith, common_steps)

pub debts-set : (views : List View) (id : ℕ) (v w : View) → get_elem? views id ≡ some v → debts_of (set views id w) + due v ≡ debts_of views + due w
debts-set [] id v w at = absurd (some-ne-none v (sym at))
debts-set (u ∷ us) zero v w at = let e = ap due (some-injective u v at) in omega arith
debts-set (u ∷ us) (suc id) v w at = let rest = debts-set us id v w at in omega arith

pub debts-at : (views : List View) (id : ℕ) (v : View) → get_elem? views id ≡ some v → due v ≤ debts_of views
debts-at [] id v at = absurd (some-ne-none v (sym at))
debts-at (u ∷ us) zero v at = let e = ap due (some-injective u v at) in omega arith
debts-at (u ∷ us) (suc id) v at = let rest = debts-at us id v at in omega arith

pub debts-push : (views : List View) (w : View) → debts_of (views ++ w ∷ []) ≡ debts_of views + due w
debts-push [] w = omega arith
debts-push (u ∷ us) w = let rest = debts-push us w in omega arith

-- a view that has all stakes has all debts
no_debts : (views : List View) → stakes views ≡ 0 → debts_of views ≡ 0
no_debts [] none = refl
no_debts (u ∷ us) none = let here = due_spent u (omega arith) in let rest = no_debts us (omega arith) in omega arith

pub debts_alone : (views : List View) (id : ℕ) (v : View) → get_elem? views id ≡ some v → v.stake ≡ stakes views → debts_of views ≡ due v
debts_alone [] id v at all = absurd (some-ne-none v (sym at))
debts_alone (u ∷ us) zero v at all =
    let same = some-injective u v at in let e : u.stake ≡ v.stake = ap (λ (x : View). x.stake) same in
    let d = ap due same in let rest = no_debts us (omega arith) in omega arith
debts_alone (u ∷ us) (suc id) v at all =
    let most = stakes-at us id v at in let here = due_spent u (omega arith) in let rest = debts_alone us id v at (omega arith) in omega arith

-- the unpaid cells of all live views
abbrev unpaid_live : View → List ℕ
unpaid_live v = if v.stake == 0 then [] else v.dues.unpaid

abbrev pub all_unpaid : List View → List ℕ
all_unpaid [] = []
all_unpaid (v ∷ vs) = unpaid_live v ++ all_unpaid vs

live_unpaid : (v : View) → 0 < v.stake → unpaid_live v ≡ v.dues.unpaid
live_unpaid v live = grind (arith, common_steps)

unpaid_of_live : (v : View) (c : ℕ) → Contains (unpaid_live v) c → (0 < v.stake) × Contains v.dues.unpaid c
unpaid_of_live v c h = by (v.stake == 0) refl h
  where
    by : (b : Bool) → (v.stake == 0) ≡ b → Contains (if b then [] else v.dues.unpaid) c → (0 < v.stake) × Contains v.dues.unpaid c
    by true is there = absurd (not_there there)
      where
        not_there : Contains [] c → ⊥
        not_there there = let k = there.1 in omega arith
    by false is there = (grind (arith, common_steps), there)

pub unpaid_there : (views : List View) (c : ℕ) → IsUnpaid views c → Contains (all_unpaid views) c
unpaid_there [] c (id, v, at, live, there) = absurd (some-ne-none v (sym at))
unpaid_there (u ∷ us) c (zero, v, at, live, there) =
    let same = some-injective u v at in
    Contains-append_left (unpaid_live u) (all_unpaid us) c
    (subst (λ (x : View). Contains (unpaid_live x) c) (sym same) (subst (λ (l : List ℕ). Contains l c) (sym (live_unpaid v live)) there))
unpaid_there (u ∷ us) c (suc id, v, at, live, there) =
    Contains-append_right (unpaid_live u) (all_unpaid us) c (unpaid_there us c (id, v, at, live, there))

unpaid_due : (v : View) → length (unpaid_live v) ≤ due v
unfolding due
unpaid_due v = grind (arith, common_steps)

pub unpaid_most : (views : List View) → length (all_unpaid views) ≤ debts_of views
unpaid_most [] = omega arith
unpaid_most (v ∷ vs) = let here = unpaid_due v in let rest = unpaid_most vs in omega (arith, length-append (unpaid_live v) (all_unpaid vs))

-- where each vertex is whole or unpaid somewhere, the debts are at least the vertices that are not whole
pub unfinished_debts : (w : WorldType) (s : State) (views : List View) → IsSound w s → ((c x : ℕ) → HasVertex s c x → IsWhole w s c ⊎ IsUnpaid views c) → unfinished w s ≤ debts_of views
unfinished_debts w s views sound covered =
    le_trans (unfinished_within w s (all_unpaid views) sound (λ c x h. ⊎_elim (λ all. inl all) (λ some_one. inr (unpaid_there views c some_one)) (covered c x h))) (unpaid_most views)

-- where no cell is unpaid twice, and no pledge is above 1, the debts are at most the cells and the stakes
debts_split : (views : List View) → ((id : ℕ) (v : View) → get_elem? views id ≡ some v → 0 < v.stake → v.dues.pledge ≤ 1) → debts_of views ≤ length (all_unpaid views) + stakes views
debts_split [] small = omega arith
debts_split (v ∷ vs) small = by (v.stake == 0) refl (debts_split vs (λ id u at live. small (suc id) u at live))
  where
    by : (b : Bool) → (v.stake == 0) ≡ b → debts_of vs ≤ length (all_unpaid vs) + stakes vs → due v + debts_of vs ≤ length (unpaid_live v ++ all_unpaid vs) + (v.stake + stakes vs)
    by true is rest =
        let none : v.stake ≡ 0 = grind (arith, common_steps) in
        let here = due_spent v none in omega (arith, length-append (unpaid_live v) (all_unpaid vs))
    by false is rest =
        let live : 0 < v.stake = grind (arith, common_steps) in
        let here = due_live v live in let few = small 0 v refl live in
        let cells = ap (λ (l : List ℕ). length l) (live_unpaid v live) in omega (arith, length-append (unpaid_live v) (all_unpaid vs))

-- which view pays a cell, counted from a base on
record Pays (payer : ℕ → ℕ) (base : ℕ) (views : List View) : Type 0 where
  once : (id : ℕ) (v : View) → get_elem? views id ≡ some v → 0 < v.stake → IsDistinct nat_eq v.dues.unpaid
  payer_is : (id : ℕ) (v : View) (c : ℕ) → get_elem? views id ≡ some v → 0 < v.stake → Contains v.dues.unpaid c → payer c ≡ base + id

pays_rest : (payer : ℕ → ℕ) (base : ℕ) (v : View) (vs : List View) → Pays payer base (v ∷ vs) → Pays payer (base + 1) vs
pays_rest payer base v vs p = record {
  once = λ id u at live. p.once (suc id) u at live;
  payer_is = λ id u c at live there. let is = p.payer_is (suc id) u c at live there in omega arith;
}

paid_from : (payer : ℕ → ℕ) (base : ℕ) (views : List View) → Pays payer base views → (c : ℕ) → Contains (all_unpaid views) c → base ≤ payer c
paid_from payer base [] p c h = let k = h.1 in absurd (omega arith)
paid_from payer base (v ∷ vs) p c h =
    elim (Contains-append_cases (unpaid_live v) (all_unpaid vs) c h) [
      | inl here ↦ let own = unpaid_of_live v c here in let is = p.payer_is 0 v c refl own.0 own.1 in omega arith
      | inr there ↦ let rest = paid_from payer (base + 1) vs (pays_rest payer base v vs p) c there in omega arith
    ]

all_apart : (payer : ℕ → ℕ) (base : ℕ) (views : List View) → Pays payer base views → IsDistinct nat_eq (all_unpaid views)
unfolding IsDistinct
all_apart payer base [] p = tt
all_apart payer base (v ∷ vs) p =
    distinct_both (unpaid_live v) (all_unpaid vs) (own (v.stake == 0) refl) (all_apart payer (base + 1) vs (pays_rest payer base v vs p))
    (λ c here there.
    let mine = unpaid_of_live v c here in let is = p.payer_is 0 v c refl mine.0 mine.1 in
    let after = paid_from payer (base + 1) vs (pays_rest payer base v vs p) c there in omega arith)
  where
    own : (b : Bool) → (v.stake == 0) ≡ b → IsDistinct nat_eq (if b then [] else v.dues.unpaid)
    own true is = tt
    own false is = p.once 0 v refl (grind (arith, common_steps))

unpaid_below : (cells : ℕ) (views : List View) → ((id : ℕ) (v : View) (c : ℕ) → get_elem? views id ≡ some v → 0 < v.stake → Contains v.dues.unpaid c → c < cells) → (c : ℕ) → Contains (all_unpaid views) c → c < cells
unpaid_below cells [] below c h = let k = h.1 in absurd (omega arith)
unpaid_below cells (v ∷ vs) below c h =
    elim (Contains-append_cases (unpaid_live v) (all_unpaid vs) c h) [
      | inl here ↦ let own = unpaid_of_live v c here in below 0 v c refl own.0 own.1
      | inr there ↦ unpaid_below cells vs (λ id u d at live in_it. below (suc id) u d at live in_it) c there
    ]

pub debts_within : (cells : ℕ) (payer : ℕ → ℕ) (views : List View)
    → ((id : ℕ) (v : View) → get_elem? views id ≡ some v → 0 < v.stake → (v.dues.pledge ≤ 1) × IsDistinct nat_eq v.dues.unpaid)
    → ((id : ℕ) (v : View) (c : ℕ) → get_elem? views id ≡ some v → 0 < v.stake → Contains v.dues.unpaid c → (payer c ≡ id) × (c < cells))
    → debts_of views ≤ cells + stakes views
debts_within cells payer views each cell =
    let pays : Pays payer 0 views = record {
      once = λ id v at live. (each id v at live).1;
      payer_is = λ id v c at live there. let is = (cell id v c at live there).0 in omega arith;
    } in
    let split = debts_split views (λ id v at live. (each id v at live).0) in
    let few = length-le_from_distinct_below (all_unpaid views) cells (all_apart payer 0 views pays)
    (λ c there. unpaid_below cells views (λ id v d at live in_it. (cell id v d at live in_it).1) c (out_of (all_unpaid views) c there)) in
    omega arith
