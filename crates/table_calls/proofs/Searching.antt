-- A search along the path of a code, step by step.
use Rattle.std.proofs.Common.{◌≡◌, ◌≢◌, refl, sym, ap, subst, ◌∙◌, ℕ, ◌+◌, ◌-◌, ◌%◌, ◌<◌, ◌⊎◌, inl, inr, Bool, true, false, eqb-true, eq-eqb, List, [], ◌∷◌, ◌++◌, append_assoc, Some, min, ◌≤◌, arith}
use Rattle.std.proofs.Math.Nat.{mod-add-mod, mod-eq_of_lt, mod_self}
use Rattle.graph_history.proofs.Growing.{calls_both}
use Rattle.list_facts.proofs.Numbers.{below_or_last}
use Rattle.tensor_words.specs.Spaces.{size}
use Rattle.tensor_words.specs.Worlds.{WorldType, IsWorld}
use Rattle.graph_history.specs.declared.event.Origin.{Origin}
use Rattle.graph_history.specs.declared.event.Act.{Act}
use Rattle.graph_history.specs.declared.event.Act.TheVariants.{Met, Missed, Spent}
use Rattle.graph_history.specs.declared.event.Event.{Event}
use Rattle.graph_history.specs.declared.view.Dues.{Dues}
use Rattle.graph_history.specs.Views.{View}
use Rattle.graph_history.specs.History.{State, state_of, vertex_at, HasVertex, IsNew, IsOrigin, calls}
use Rattle.graph_rule.specs.Layout.{code_word, home, cell_on, is_last, IsSearched}
use Rattle.graph_rule.specs.Told.{Advances, Watched, cell_word, sought_empty_acts, claimed_acts, claimed_dues}
use Rattle.graph_rule.specs.Values.{SeatValue, GraphValue, Belongs}
use Rattle.graph_rule.proofs.CellSteps.{origin_stays}
use Rattle.graph_rule.proofs.Composing.{watched_none, then_step, then_watch, watched_stays, advanced_stays, step_state}
use Rattle.graph_rule.proofs.Paths.{one_place, word_other, searched_stays, home_first}
use Rattle.table_calls.specs.Search.{IsAt, Searching, Probed}
use Rattle.table_calls.specs.declared.entries.Probe.{Probe}
use Rattle.table_calls.specs.declared.entries.Probe.TheVariants.{Found, Empty, AllTaken}
use Rattle.table_calls.proofs.Acts.{looked_last, claimed_on, dues_left}
use Rattle.table_calls.proofs.Stretches.{straight_cell}

-- where it begins
pub begins : (first : SeatValue) (x : ℕ) → 0 < first.view.world.cells → Searching first first x 0 (home first.view.world.cells x)
begins first x some_cell = record {
  table = refl;
  watched = watched_none first.view;
  at = record {
    searched = record { steps = 0; short = some_cell; at = home_first first.view.world.cells x some_cell; before = λ k below. absurd (omega arith) };
    step = refl;
  };
}

module _ (first now : SeatValue) (x k c : ℕ) (s : Searching first now x k c) where
  world_is : now.view.world ≡ first.view.world
  world_is = ap (λ (v : View). v.world) s.watched.is

  dues_are : now.view.dues ≡ first.view.dues
  dues_are = ap (λ (v : View). v.dues) s.watched.is

  pub belongs_now : (g : GraphValue) → Belongs first g → Belongs now g
  belongs_now g b = record { table = s.table ∙ b.table; world = world_is ∙ b.world }

  pub below_now : k < now.view.world.cells
  below_now = let short = s.at.searched.short in omega (arith, s.at.step)

  pub cell_below : c < now.view.world.cells
  cell_below = let short = s.at.searched.short in let at = s.at.searched.at in omega arith

  pub origin_now : (o : Origin) → IsOrigin first.view.world (state_of first.view.front) x o → IsOrigin now.view.world (state_of now.view.front) x o
  origin_now o h =
      subst (λ (w : WorldType). IsOrigin w (state_of now.view.front) x o) (sym world_is)
      (origin_stays first.view.world (state_of first.view.front) (state_of now.view.front) x o (watched_stays first.view now.view s.watched) h)

  -- whether the cell is the last
  pub last_now : k + 1 ≡ now.view.world.cells → is_last now.view.world x c ≡ true
  last_now end =
      let w = now.view.world in
      let steps : s.at.searched.steps ≡ w.cells - 1 = omega (arith, s.at.step) in
      eq-eqb c (cell_on w x (w.cells - 1)) (s.at.searched.at ∙ ap (cell_on w x) steps)

  pub not_last : k + 1 ≢ now.view.world.cells → is_last now.view.world x c ≡ false
  not_last more = by (is_last now.view.world x c) refl
    where
      w : WorldType
      w = now.view.world

      by : (b : Bool) → is_last now.view.world x c ≡ b → b ≡ false
      by false is = refl
      by true is =
          let end = eqb-true c (cell_on now.view.world x (now.view.world.cells - 1)) is in
          let short = s.at.searched.short in
          let same = one_place now.view.world x s.at.searched.steps (now.view.world.cells - 1) short (omega arith) (sym s.at.searched.at ∙ end) in
          absurd (more (omega (arith, s.at.step)))

  -- a step that ends the search
  pub ends : (next : View) (acts : List Act) (f : Dues → Dues) → Advances now.view next acts (f now.view.dues) → Advances first.view next acts (f first.view.dues)
  ends next acts f a = subst (λ (d : Dues). Advances first.view next acts (f d)) dues_are (then_step first.view now.view next s.watched acts (f now.view.dues) a)

  -- a step past a cell with another code
  module _ (next : SeatValue) (n : ℕ) (a : Advances now.view next.view [] now.view.dues) (word : n ≡ cell_word next.view c) where
    next_world : next.view.world ≡ now.view.world
    next_world = ap (λ (v : View). v.world) a.is

    still : (q : IsSearched next.view.world (state_of next.view.front) c x) × (q.steps ≡ k)
    still =
        subst (λ (w : WorldType). (q : IsSearched w (state_of next.view.front) c x) × (q.steps ≡ k)) (sym next_world)
        (searched_stays now.view.world (state_of now.view.front) (state_of next.view.front) c x (advanced_stays now.view next.view [] now.view.dues a) s.at.searched, s.at.step)

    still_at : IsSearched next.view.world (state_of next.view.front) c x
    still_at = still.0

    still_step : still_at.steps ≡ k
    unfolding still_at
    still_step = still.1

    other_code : n ≢ 0 → n ≢ x + 1 → (y : ℕ) × (vertex_at (state_of next.view.front).vertices c ≡ Some y) × (y ≢ x)
    other_code z e = word_other (vertex_at (state_of next.view.front).vertices c) x (λ h. z (word ∙ h)) (λ h. e (word ∙ h))

    pub goes_on : next.table ≡ now.table → n ≢ 0 → n ≢ x + 1 → k + 1 ≢ now.view.world.cells → Searching first next x (k + 1) ((c + 1) % now.view.world.cells)
    goes_on same z e more = record {
      table = same ∙ s.table;
      watched = then_watch first.view now.view next.view s.watched a;
      at = record {
        searched = record {
          steps = still_at.steps + 1;
          short = let cells = ap (λ (w : WorldType). w.cells) next_world in let below = below_now in omega (arith, still_step);
          at = next_cell;
          before = passed;
        };
        step = ap (λ (j : ℕ). j + 1) still_step;
      };
    }
      where
        next_cell : (c + 1) % now.view.world.cells ≡ cell_on next.view.world x (still_at.steps + 1)
        next_cell =
            let w = next.view.world in
            let cells = ap (λ (u : WorldType). u.cells) next_world in
            ap (λ (m : ℕ). (c + 1) % m) (sym cells) ∙ ap (λ (m : ℕ). (m + 1) % w.cells) still_at.at ∙ mod-add-mod (home w.cells x + still_at.steps) w.cells 1
            ∙ ap (λ (m : ℕ). m % w.cells) (sum (home w.cells x) still_at.steps)
          where
            sum : (a b : ℕ) → a + b + 1 ≡ a + (b + 1)
            sum a b = omega arith

        here : (y : ℕ) × HasVertex (state_of next.view.front) (cell_on next.view.world x still_at.steps) y × (y ≢ x)
        here = let o = other_code z e in (o.0, subst (λ (d : ℕ). HasVertex (state_of next.view.front) d o.0) still_at.at o.1, o.2)

        passed : (j : ℕ) → j < still_at.steps + 1 → (y : ℕ) × HasVertex (state_of next.view.front) (cell_on next.view.world x j) y × (y ≢ x)
        passed j below =
            elim (below_or_last j still_at.steps below) [
              | inl before ↦ still_at.before j before
              | inr same ↦ subst (λ (i : ℕ). (y : ℕ) × HasVertex (state_of next.view.front) (cell_on next.view.world x i) y × (y ≢ x)) (sym same) here
            ]

-- the same with the numbers that the code has at hand
pub begins_at : (first : SeatValue) (g : GraphValue) (w : WorldType) (x cells start : ℕ) → Belongs first g → w ≡ g.world → IsWorld w → cells ≡ w.cells → start ≡ home cells x → Searching first first x 0 start
begins_at first g w x cells start b is lawful count at =
    let same : cells ≡ first.view.world.cells = count ∙ ap (λ (u : WorldType). u.cells) is ∙ sym (ap (λ (u : WorldType). u.cells) b.world) in
    let low = lawful.some in
    subst (λ (h : ℕ). Searching first first x 0 h) (sym (at ∙ ap (λ (m : ℕ). home m x) same)) (begins first x (omega arith))

module _ (first now : SeatValue) (x k c : ℕ) (s : Searching first now x k c) (g : GraphValue) (w : WorldType) (cells : ℕ) (b : Belongs first g) (is : w ≡ g.world) (count : cells ≡ w.cells) where
  pub cells_now : now.view.world.cells ≡ cells
  cells_now = ap (λ (u : WorldType). u.cells) (belongs_now first now x k c s g b).world ∙ sym (ap (λ (u : WorldType). u.cells) is) ∙ sym count

  pub below_all : c < g.world.cells
  below_all = subst (λ (u : WorldType). c < u.cells) (belongs_now first now x k c s g b).world (cell_below first now x k c s)

  pub word_now : x < size g.world.space → x < size now.view.world.space
  word_now h = subst (λ (u : WorldType). x < size u.space) (sym (belongs_now first now x k c s g b).world) h

  pub is_last_now : k + 1 ≡ cells → is_last now.view.world x c ≡ true
  is_last_now end = last_now first now x k c s (end ∙ sym cells_now)

  pub is_not_last : k + 1 ≢ cells → is_last now.view.world x c ≡ false
  is_not_last more = not_last first now x k c s (λ e. more (e ∙ cells_now))

  pub on_next : (next : SeatValue) (n after : ℕ) (acts : List Act) (d : Dues) → acts ≡ [] → d ≡ now.view.dues → Advances now.view next.view acts d → next.table ≡ now.table → n ≡ cell_word next.view c
      → n ≢ 0 → n ≢ x + 1 → k + 1 ≢ cells → after ≡ (c + 1) % cells → Searching first next x (k + 1) after
  on_next next n after acts d none same_dues a same word z e more at =
      let quiet = subst (λ (l : List Act). Advances now.view next.view l now.view.dues) none (subst (λ (u : Dues). Advances now.view next.view acts u) same_dues a) in
      let further = goes_on first now x k c s next n quiet word same z e (λ h. more (h ∙ cells_now)) in
      subst (λ (d : ℕ). Searching first next x (k + 1) d) (sym (at ∙ ap (λ (m : ℕ). (c + 1) % m) (sym cells_now))) further

-- a step without an event, after which the search is at the same cell
module _ (first now : SeatValue) (x k c : ℕ) (s : Searching first now x k c) (next : SeatValue) (n : ℕ) (acts : List Act) (d : Dues) (none : acts ≡ []) (same_dues : d ≡ now.view.dues) (a : Advances now.view next.view acts d)
    (word : n ≡ cell_word next.view c) (same : next.table ≡ now.table) where
  quiet_step : Advances now.view next.view [] now.view.dues
  quiet_step = subst (λ (l : List Act). Advances now.view next.view l now.view.dues) none (subst (λ (u : Dues). Advances now.view next.view acts u) same_dues a)

  pub stays_here : Searching first next x k c
  stays_here = record {
    table = same ∙ s.table;
    watched = then_watch first.view now.view next.view s.watched quiet_step;
    at = record { searched = still_at first now x k c s next n quiet_step word; step = still_step first now x k c s next n quiet_step word };
  }

  pub taken_there : n ≢ 0 → n ≢ x + 1 → (y : ℕ) × HasVertex (state_of next.view.front) c y × (y ≢ x)
  taken_there z e = other_code first now x k c s next n quiet_step word z e

-- an exchange that another code was faster than
pub beaten : (first now : SeatValue) (x k c : ℕ) (s : Searching first now x k c) (o : Origin) (next : SeatValue) (n : ℕ) → n ≢ 0 → n ≢ x + 1 → Advances now.view next.view (claimed_acts c x o n) (claimed_dues c n now.view.dues)
    → (n ≢ 0 → n ≡ cell_word next.view c) → next.table ≡ now.table → Searching first next x k c × ((y : ℕ) × HasVertex (state_of next.view.front) c y × (y ≢ x))
beaten first now x k c s o next n z e a word same =
    let acts = claimed_on now.view.world c x n o z e in let left = dues_left c n now.view.dues z in (
      stays_here first now x k c s next n (claimed_acts c x o n) (claimed_dues c n now.view.dues) acts left a (word z) same,
      taken_there first now x k c s next n (claimed_acts c x o n) (claimed_dues c n now.view.dues) acts left a (word z) same z e,
    )

-- a cell that has another code at the end of the path shows that every cell is taken
pub ends_full : (first now : SeatValue) (x k c : ℕ) (s : Searching first now x k c) (next : SeatValue) (n : ℕ) → (y : ℕ) × HasVertex (state_of now.view.front) c y × (y ≢ x) → is_last now.view.world x c ≡ true
    → Advances now.view next.view (sought_empty_acts now.view.world c x n) now.view.dues → n ≡ cell_word next.view c → Advances first.view next.view (Spent x ∷ []) first.view.dues
ends_full first now x k c s next n (y, there, other) last a word =
    let later = (advanced_stays now.view next.view (sought_empty_acts now.view.world c x n) now.view.dues a).vertices c y there in
    let is : n ≡ y + 1 = word ∙ ap code_word later in
    let acts = looked_last now.view.world c x n (λ z. omega arith) (λ e. other (omega arith)) last in
    ends first now x k c s next.view (Spent x ∷ []) (λ (d : Dues). d) (subst (λ (l : List Act). Advances now.view next.view l now.view.dues) acts a)

-- the same search at a cell that is said in another way
pub moved_to : (first now : SeatValue) (x k c d : ℕ) → Searching first now x k c → c ≡ d → Searching first now x k d
moved_to first now x k c d s same = subst (λ (e : ℕ). Searching first now x k e) same s

-- a search that goes on from where another one is
pub from_here : (s : SeatValue) (x k c : ℕ) → IsAt s.view x k c → Searching s s x k c
from_here s x k c at = record { table = refl; watched = watched_none s.view; at = at }

watched_then : (u v w : View) → Watched u v → Watched v w → Watched u w
watched_then u v w s t = record {
  more = s.more ++ t.more;
  is = t.is ∙ ap (λ (z : View). record z { front = z.front ++ t.more }) s.is ∙ ap (λ (h : List Event). record u { front = h }) (append_assoc u.front s.more t.more);
  quiet = calls_both s.more t.more u.number s.quiet (subst (λ (n : ℕ). calls t.more n ≡ []) (ap (λ (z : View). z.number) s.is) t.quiet);
  alone = λ all. let before = s.alone all in let here = t.alone (ap (λ (z : View). z.stake) s.is ∙ all) in ap (λ (l : List Event). l ++ t.more) before ∙ here;
}

module _ (first mid : SeatValue) (x j d : ℕ) (s : Searching first mid x j d) where
  pub searching_then : (now : SeatValue) (k c : ℕ) → Searching mid now x k c → Searching first now x k c
  searching_then now k c t = record { table = t.table ∙ s.table; watched = watched_then first.view mid.view now.view s.watched t.watched; at = t.at }

  pub probed_then : (w : View) (probe : Probe) → Probed mid.view w x probe → Probed first.view w x probe
  probed_then w (Found c) a = ends first mid x j d s w (Met c x ∷ []) (λ (e : Dues). e) a
  probed_then w AllTaken a = ends first mid x j d s w (Spent x ∷ []) (λ (e : Dues). e) a
  probed_then w (Empty c k) (seen, at) = (watched_then first.view mid.view w s.watched seen, at)

-- what is known of a search that goes on at another seat: of the seat, and of what a later probe tells
pub record Resumed (first now : SeatValue) (g : GraphValue) (x k c : ℕ) (o : Origin) : Type 0 where
  pub belongs : Belongs now g
  pub origin : IsOrigin now.view.world (state_of now.view.front) x o
  pub at : IsAt now.view x k c
  pub probed : (w : View) (probe : Probe) → Probed now.view w x probe → Probed first.view w x probe

pub resumed : (first now : SeatValue) (g : GraphValue) (x k c d : ℕ) (o : Origin) → Belongs first g → IsOrigin first.view.world (state_of first.view.front) x o → Searching first now x k c → c ≡ d
    → Resumed first now g x k d o
resumed first now g x k c d o b from there same =
    let s = moved_to first now x k c d there same in
    record { belongs = belongs_now first now x k d s g b; origin = origin_now first now x k d s o from; at = s.at; probed = probed_then first now x k d s }

-- after the first stretch, with the numbers that the code has at hand
pub turned : (first now : SeatValue) (g : GraphValue) (w : WorldType) (x start turn cells next : ℕ) (o : Origin) → Belongs first g → IsOrigin first.view.world (state_of first.view.front) x o → w ≡ g.world → cells ≡ w.cells
    → next ≡ (start + turn) % cells → Searching first now x turn ((start + (turn - 0)) % g.world.cells) → Resumed first now g x turn next o
turned first now g w x start turn cells next o b from is count at there =
    let all : g.world.cells ≡ cells = ap (λ (u : WorldType). u.cells) (sym is) ∙ sym count in
    let none : turn - 0 ≡ turn = omega arith in
    resumed first now g x turn ((start + (turn - 0)) % g.world.cells) next o b from there
    (ap (λ (t : ℕ). (start + t) % g.world.cells) none ∙ ap (λ (m : ℕ). (start + turn) % m) all ∙ sym at)

-- and after the second
pub stretched : (first now : SeatValue) (g : GraphValue) (w : WorldType) (x turn cell cells : ℕ) (o : Origin) → Belongs first g → IsOrigin first.view.world (state_of first.view.front) x o → w ≡ g.world → cells ≡ w.cells
    → cell + (g.world.cells - 1 - turn) < g.world.cells → Searching first now x (cells - 1) ((cell + (cells - 1 - turn)) % g.world.cells) → Resumed first now g x (cells - 1) (cell + (cells - 1 - turn)) o
stretched first now g w x turn cell cells o b from is count straight there =
    let all : g.world.cells ≡ cells = ap (λ (u : WorldType). u.cells) (sym is) ∙ sym count in
    resumed first now g x (cells - 1) ((cell + (cells - 1 - turn)) % g.world.cells) (cell + (cells - 1 - turn)) o b from there
    (straight_cell cell (cells - 1 - turn) g.world.cells (subst (λ (m : ℕ). cell + (m - 1 - turn) < g.world.cells) all straight))

-- what a deciding event shows
pub missed_new : (v w : View) (x : ℕ) (d : Dues) → Advances v w (Missed x ∷ []) d → IsNew (state_of w.front) x
missed_new v w x d a = let r = step_state v w (Missed x) d a in λ c there. r.1.fresh c (subst (λ (s : State). HasVertex s c x) r.2 there)

pub met_there : (v w : View) (c x : ℕ) (d : Dues) → Advances v w (Met c x ∷ []) d → HasVertex (state_of w.front) c x
met_there v w c x d a = let r = step_state v w (Met c x) d a in subst (λ (s : State). HasVertex s c x) (sym r.2) r.1
