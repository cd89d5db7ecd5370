-- How seats that know one history go on.
use Rattle.std.specs.Prelude.{ℕ, ◌<◌, ◌≤◌, ◌≡◌, ◌≢◌, List, [], ◌∷◌, ◌++◌, set}
use mathlib.Core.Option.{some}
use lib.ListN.{get_elem?}
use Rattle.shared_seats.specs.declared.view.View.{View}
use Rattle.shared_seats.specs.Seats.{calls, IsSeated, first_view, went, cut_left, cut_right, joined}

-- the first seat of a table knows the empty history
abbrev pub SeatsOpen : (W E D : Type 0) → Type 0
SeatsOpen W E D = (whole : ℕ) (by : E → ℕ) (key : W) (dues : D) → 0 < whole → IsSeated {D = D} whole by key (first_view whole dues key ∷ []) []

-- who has the whole stake is the only live seat, and has seen the whole history
abbrev pub WholeIsAlone : (W E D : Type 0) → Type 0
WholeIsAlone W E D =
    (whole : ℕ) (by : E → ℕ) (key : W) (views : List (View W E D)) (h : List E) → IsSeated whole by key views h →
    (id : ℕ) (v : View W E D) → get_elem? views id ≡ some v → 0 < v.stake → v.stake ≡ whole →
    ((j : ℕ) (u : View W E D) → get_elem? views j ≡ some u → 0 < u.stake → u ≡ v) × (h ≡ v.front)

-- a live seat adds events of its number at the end of the history
abbrev pub StepsKeep : (W E D : Type 0) → Type 0
StepsKeep W E D =
    (whole : ℕ) (by : E → ℕ) (key : W) (views : List (View W E D)) (h : List E) → IsSeated whole by key views h →
    (id : ℕ) (v : View W E D) → get_elem? views id ≡ some v → 0 < v.stake →
    (es : List E) (dues : D) → calls by es v.number ≡ es → ((m : ℕ) → v.number ≢ m → calls by es m ≡ []) →
    IsSeated whole by key (set views id (went v h es dues)) (h ++ es)

-- a seat gives numbers and a part of its stake to a new one, and each has what is said of what was begun
abbrev pub SplitsKeep : (W E D : Type 0) → Type 0
SplitsKeep W E D =
    (whole : ℕ) (by : E → ℕ) (key : W) (views : List (View W E D)) (h : List E) → IsSeated whole by key views h →
    (id : ℕ) (v : View W E D) → get_elem? views id ≡ some v →
    (parent child : D) (count stake : ℕ) → 1 ≤ count → count ≤ v.left → 1 ≤ stake → stake < v.stake →
    IsSeated whole by key (set views id (cut_left parent count stake v) ++ cut_right child count stake v ∷ []) h

-- a live seat takes in another; of this one a view without a stake is left
abbrev pub JoinsKeep : (W E D : Type 0) → Type 0
JoinsKeep W E D =
    (whole : ℕ) (by : E → ℕ) (key : W) (views : List (View W E D)) (h : List E) → IsSeated whole by key views h →
    (id : ℕ) (v : View W E D) → get_elem? views id ≡ some v → 0 < v.stake →
    (other : ℕ) (w : View W E D) → get_elem? views other ≡ some w → 0 < w.stake → other ≢ id →
    (mix : D → D → D) (spent : View W E D) → spent.stake ≡ 0 →
    IsSeated whole by key (set (set views id (joined mix v w)) other spent) h
