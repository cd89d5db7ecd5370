-- What the live views owe and have pending, over a list of views.
use Rattle.std.proofs.Common.{◌≡◌, refl, sym, ap, subst, ◌∙◌, ℕ, zero, suc, ◌+◌, ◌<◌, ◌≤◌, ◌==◌, Bool, true, false, if◌then◌else◌, List, [], ◌∷◌, ◌++◌, length, set, sum_by, Option, Some, None, Contains, length-append, arith}
use Rattle.std.proofs.lemmas.Grind.{common_steps}
use Rattle.std.proofs.lemmas.List.Elements.{Contains-append_left, Contains-append_right, Contains-push}
use mathlib.Core.Option.{some, some-injective, some-ne-none}
use lib.ListN.{get_elem?}
use Rattle.shared_seats.specs.Seats.{stakes}
use Rattle.shared_seats.proofs.Stakes.{stakes-at}
use Rattle.wide_rule.specs.Rule.{WideView, IsPending, due, dues_of}

-- what is owed, each cell weighed
module _ (weigh : ℕ → ℕ) where
  pub due_live : (v : WideView) → 0 < v.stake → due weigh v ≡ sum_by weigh v.dues.owed
  unfolding due
  due_live v live = grind (arith, common_steps)

  pub due_spent : (v : WideView) → v.stake ≡ 0 → due weigh v ≡ 0
  unfolding due
  due_spent v none = grind (arith, common_steps)

  pub dues-set : (views : List WideView) (id : ℕ) (v w : WideView) → get_elem? views id ≡ some v → dues_of weigh (set views id w) + due weigh v ≡ dues_of weigh views + due weigh w
  dues-set [] id v w at = absurd (some-ne-none v (sym at))
  dues-set (u ∷ us) zero v w at = let e = ap (due weigh) (some-injective u v at) in omega arith
  dues-set (u ∷ us) (suc id) v w at = let rest = dues-set us id v w at in omega arith

  pub dues-push : (views : List WideView) (w : WideView) → dues_of weigh (views ++ w ∷ []) ≡ dues_of weigh views + due weigh w
  dues-push [] w = omega arith
  dues-push (u ∷ us) w = let rest = dues-push us w in omega arith

  -- a view that has all stakes owes all
  no_dues : (views : List WideView) → stakes views ≡ 0 → dues_of weigh views ≡ 0
  no_dues [] none = refl
  no_dues (u ∷ us) none = let here = due_spent u (omega arith) in let rest = no_dues us (omega arith) in omega arith

  pub dues_alone : (views : List WideView) (id : ℕ) (v : WideView) → get_elem? views id ≡ some v → v.stake ≡ stakes views → dues_of weigh views ≡ due weigh v
  dues_alone [] id v at all = absurd (some-ne-none v (sym at))
  dues_alone (u ∷ us) zero v at all =
      let same = some-injective u v at in let e : u.stake ≡ v.stake = ap (λ (x : WideView). x.stake) same in
      let d = ap (due weigh) same in let rest = no_dues us (omega arith) in omega arith
  dues_alone (u ∷ us) (suc id) v at all =
      let most = stakes-at us id v at in let here = due_spent u (omega arith) in let rest = dues_alone us id v at (omega arith) in omega arith

-- the pending cells of all live views: no more than there are stakes
abbrev cells_in : Option ℕ → List ℕ
cells_in None = []
cells_in (Some c) = c ∷ []

abbrev pending_live : WideView → List ℕ
pending_live v = if v.stake == 0 then [] else cells_in v.dues.pending

abbrev pub all_pending : List WideView → List ℕ
all_pending [] = []
all_pending (v ∷ vs) = pending_live v ++ all_pending vs

live_pending : (v : WideView) → 0 < v.stake → pending_live v ≡ cells_in v.dues.pending
live_pending v live = grind (arith, common_steps)

pub pending_there : (views : List WideView) (c : ℕ) → IsPending views c → Contains (all_pending views) c
pending_there [] c (id, v, at, live, there) = absurd (some-ne-none v (sym at))
pending_there (u ∷ us) c (zero, v, at, live, there) =
    let same = some-injective u v at in
    let cells : pending_live u ≡ c ∷ [] = ap pending_live same ∙ live_pending v live ∙ ap cells_in there in
    Contains-append_left (pending_live u) (all_pending us) c (subst (λ (l : List ℕ). Contains l c) (sym cells) (Contains-push [] c))
pending_there (u ∷ us) c (suc id, v, at, live, there) =
    Contains-append_right (pending_live u) (all_pending us) c (pending_there us c (id, v, at, live, there))

cells_few : (o : Option ℕ) → length (cells_in o) ≤ 1
cells_few None = omega arith
cells_few (Some c) = omega arith

pending_few : (v : WideView) → length (pending_live v) ≤ v.stake
pending_few v = by (v.stake == 0) refl
  where
    by : (b : Bool) → (v.stake == 0) ≡ b → length (if b then [] else cells_in v.dues.pending) ≤ v.stake
    by true is = omega arith
    by false is = let some_stake : 0 < v.stake = grind (arith, common_steps) in let few = cells_few v.dues.pending in omega arith

pub pending_most : (views : List WideView) → length (all_pending views) ≤ stakes views
pending_most [] = omega arith
pending_most (v ∷ vs) = let here = pending_few v in let rest = pending_most vs in omega (arith, length-append (pending_live v) (all_pending vs))
