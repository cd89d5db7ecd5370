-- What the seats of a shared table know together: stakes, numbers, fronts and joins. Nothing here knows what the table is
-- of. A world W is what the table was made for, an event E is what a caller did, and D is the dues of a seat, what it has
-- begun; `by` tells whose event it is.
use Rattle.std.specs.Prelude.{ℕ, ◌+◌, ◌-◌, ◌^◌, ◌<◌, ◌≤◌, ◌≡◌, ◌==◌, nat_lt, if◌then◌else◌, List, [], ◌∷◌, ◌++◌, length, filter, Contains}
use mathlib.Core.Option.{some}
use lib.ListN.{get_elem?}
use Rattle.shared_seats.specs.declared.view.View.{View}
use Rattle.shared_seats.specs.declared.view.Kept.{Kept}

-- the history begins with this list
abbrev pub IsPrefix : {E : Type 0} → List E → List E → Type 0
IsPrefix {E} f h = (rest : List E) × (h ≡ f ++ rest)

abbrev pub longer : {E : Type 0} → List E → List E → List E
longer f g = if nat_lt (length f) (length g) then g else f

-- the events of one caller, in their order
abbrev pub calls : {E : Type 0} → (E → ℕ) → List E → ℕ → List E
calls {E} by h n = filter (λ (e : E). by e == n) h

-- the number is one that the seat may give to a seat that is split off
abbrev pub IsUnused : {W E D : Type 0} → View W E D → ℕ → Type 0
IsUnused v n = (v.next ≤ n) × (n < v.next + v.left)

-- how a seat has a number: it calls under it, keeps it for a seat that joined it, or has it to give
pub data Role : Type 0 where
  calling keeping spare : Role

module _ {W E D : Type 0} where
  -- the calls of the view's number, and of each number that it keeps, are in this history just those that the view has
  pub record HasCalls (by : E → ℕ) (v : View W E D) (h : List E) : Type 0 where
    pub mine : calls by h v.number ≡ v.calls
    pub kept : (m : Kept E) → Contains v.kept m → calls by h m.number ≡ m.calls

  -- the same, and nobody has called under an unused number
  pub record Agrees (by : E → ℕ) (v : View W E D) (h : List E) : Type 0 where
    pub own : HasCalls by v h
    pub none : (n : ℕ) → IsUnused v n → calls by h n ≡ []

  -- what every seat that was not joined away knows, from its own front alone; all seats together have the stake `whole`
  pub record IsSound (whole : ℕ) (by : E → ℕ) (v : View W E D) : Type 0 where
    pub live : 0 < v.stake
    pub staked : v.stake ≤ whole
    pub numbered : v.next + v.left ≤ 2 ^ 32
    pub agrees : Agrees by v v.front
    pub olds : (old : List E) → Contains v.olds old → IsPrefix old v.front

  -- how one live view fits into the history: `owner` names for each number its one seat and role, so that no number belongs
  -- to two seats
  pub record Fits (whole : ℕ) (by : E → ℕ) (world : W) (owner : ℕ → ℕ × Role) (h : List E) (id : ℕ) (v : View W E D) : Type 0 where
    pub sound : IsSound whole by v
    pub world_is : v.world ≡ world
    pub front : IsPrefix v.front h
    pub agrees : Agrees by v h
    pub owns : owner v.number ≡ (id, calling)
    pub owns_kept : (m : Kept E) → Contains v.kept m → owner m.number ≡ (id, keeping)
    pub owns_unused : (n : ℕ) → IsUnused v n → owner n ≡ (id, spare)

  -- all seats together: a view is live where its stake is not 0
  abbrev pub stakes : List (View W E D) → ℕ
  stakes [] = 0
  stakes (v ∷ vs) = v.stake + stakes vs

  -- some live view is so
  abbrev pub HasLive : List (View W E D) → (View W E D → Type 0) → Type 0
  HasLive views P = (id : ℕ) × (v : View W E D) × (get_elem? views id ≡ some v) × (0 < v.stake) × P v

  -- the seats know one history together: the stakes add up to the whole, some live view's front is this history, and every
  -- other live view fits into it
  pub record IsSeated (whole : ℕ) (by : E → ℕ) (world : W) (views : List (View W E D)) (h : List E) : Type 0 where
    pub owner : ℕ → ℕ × Role
    pub staked : stakes views ≡ whole
    pub longest : HasLive views (λ v. v.front ≡ h)
    pub fits : (id : ℕ) (v : View W E D) → get_elem? views id ≡ some v → 0 < v.stake → Fits whole by world owner h id v

  -- the view after own events at the end of the history h
  abbrev pub went : View W E D → List E → List E → D → View W E D
  went v h es dues = record v { calls = v.calls ++ es; front = h ++ es; dues = dues }

  -- the first seat of a table: number 0, all other numbers to give, the whole stake
  abbrev pub first_view : ℕ → D → W → View W E D
  first_view whole dues w = record { world = w; number = 0; calls = []; kept = []; next = 1; left = 2 ^ 32 - 1; stake = whole; front = []; olds = []; dues = dues }

  -- a seat is split: the child takes the least unused numbers, and calls under the first of them. Each has its part of what
  -- was begun
  abbrev pub cut_left : D → ℕ → ℕ → View W E D → View W E D
  cut_left dues count stake v = record v { next = v.next + count; left = v.left - count; stake = v.stake - stake; dues = dues }

  abbrev pub cut_right : D → ℕ → ℕ → View W E D → View W E D
  cut_right dues count stake v = record { world = v.world; number = v.next; calls = []; kept = []; next = v.next + 1; left = count - 1; stake = stake; front = v.front; olds = []; dues = dues }

  -- a seat joins another: its number is kept with its calls, and what it has is added; both fronts become olds, and the
  -- longer is the front
  abbrev pub joined : (D → D → D) → View W E D → View W E D → View W E D
  joined mix v w = record v { kept = v.kept ++ record { number = w.number; calls = w.calls } ∷ w.kept; stake = v.stake + w.stake; front = longer v.front w.front; olds = v.olds ++ v.front ∷ w.front ∷ w.olds; dues = mix v.dues w.dues }
