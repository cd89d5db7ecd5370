-- A search along the path of a pair, cell by cell.
use Rattle.std.proofs.Common.{◌≡◌, ◌≢◌, refl, sym, ap, subst, ◌∙◌, ℕ, ◌+◌, ◌-◌, ◌%◌, ◌<◌, ◌==◌, inl, inr, Bool, true, false, eqb-true, eq-eqb, None, arith}
use Rattle.std.proofs.Math.Nat.{mod-add-mod}
use Rattle.list_facts.proofs.Numbers.{below_or_last}
use Rattle.graph_history.specs.declared.event.Origin.{Origin}
use Rattle.graph_history.specs.History.{state_of, IsOrigin}
use Rattle.graph_rule.specs.Layout.{home}
use Rattle.graph_rule.proofs.Paths.{home_first, one_place}
use Rattle.wide_words.specs.declared.spaces.WideCode.{WideCode}
use Rattle.wide_words.specs.WideSpaces.{IsWide, number}
use Rattle.wide_words.specs.WideHistory.{WideWorldType, flat}
use Rattle.wide_rule.specs.Layout.{cell_count, mixed, cell_on, is_last, IsPassed, IsSearched}
use Rattle.wide_rule.specs.Values.{WideGraphValue, WideSeatValue, Belongs}
use Rattle.wide_graph.specs.Search.{Passing, Probing, Searching}
use Rattle.wide_graph.proofs.Looking.{looked_none, world_looked, searched_looked, origin_looked, looked_then}

same_test : (p q : Bool) → (p ≡ true → q ≡ true) → (q ≡ true → p ≡ true) → p ≡ q
same_test true q f g = sym (f refl)
same_test false true f g = g refl
same_test false false f g = refl

-- where it begins
some_cell : (w : WideWorldType) → 0 < cell_count w
some_cell w = omega arith

pub begins : (first : WideSeatValue) (g : WideGraphValue) (x : WideCode) (cells start : ℕ) → Belongs first g → cells ≡ cell_count g.world → start ≡ home cells (mixed x) → first.view.dues.pending ≡ None → Searching first first x 0 start
begins first g x cells start b count at idle = record {
  table = refl;
  looked = looked_none first.view;
  idle = idle;
  at = record {
    searched = record {
      steps = 0;
      short = some_cell first.view.world;
      at = at ∙ ap (λ (n : ℕ). home n (mixed x)) same ∙ home_first (cell_count first.view.world) (mixed x) (some_cell first.view.world);
      before = λ k less. absurd (omega arith);
    };
    step = refl;
  };
}
  where
    same : cells ≡ cell_count first.view.world
    same = count ∙ ap cell_count (sym b.world)

module _ (first now : WideSeatValue) (x : WideCode) (k c : ℕ) (s : Searching first now x k c) (g : WideGraphValue) (b : Belongs first g) (cells : ℕ) (count : cells ≡ cell_count g.world) where
  world_now : now.view.world ≡ g.world
  world_now = world_looked first.view now.view s.looked ∙ b.world

  count_now : cells ≡ cell_count now.view.world
  count_now = count ∙ ap cell_count (sym world_now)

  pub step_below : k < cells
  step_below = let short = s.at.searched.short in omega (arith, s.at.step, count_now)

  pub cell_below : c < cells
  cell_below = let at = s.at.searched.at in omega (arith, count_now)

  pub origin_now : (o : Origin) → IsOrigin (flat first.view.world) (state_of first.view.front) (number first.view.world.space x) o → IsOrigin (flat now.view.world) (state_of now.view.front) (number now.view.world.space x) o
  origin_now o cause = origin_looked first.view now.view s.looked x o cause

  -- whether the cell is the last
  last_here : (k + 1 == cells) ≡ is_last now.view.world x c
  last_here = same_test (k + 1 == cells) (is_last now.view.world x c) ends ended
    where
      w : WideWorldType
      w = now.view.world

      ends : (k + 1 == cells) ≡ true → is_last now.view.world x c ≡ true
      ends is =
          let end : k + 1 ≡ cells = eqb-true (k + 1) cells is in
          let steps : s.at.searched.steps ≡ cell_count w - 1 = omega (arith, s.at.step, count_now) in
          eq-eqb c (cell_on w x (cell_count w - 1)) (s.at.searched.at ∙ ap (cell_on w x) steps)

      ended : is_last now.view.world x c ≡ true → (k + 1 == cells) ≡ true
      ended is =
          let end = eqb-true c (cell_on w x (cell_count w - 1)) is in
          let short = s.at.searched.short in
          let same = one_place (flat w) (mixed x) s.at.searched.steps (cell_count w - 1) short (omega arith) (sym s.at.searched.at ∙ end) in
          eq-eqb (k + 1) cells (omega (arith, s.at.step, count_now))

  pub probing_now : IsWide first.view.world.space x → Probing g now x c (k + 1 == cells)
  probing_now wide = record {
    belongs = record { table = s.table ∙ b.table; world = world_now };
    cell = subst (λ (n : ℕ). c < n) count cell_below;
    code = subst (λ (w : WideWorldType). IsWide w.space x) (sym (world_looked first.view now.view s.looked)) wide;
    searched = s.at.searched;
    ends = last_here;
  }

  -- a step past the cell
  pub goes_on : (next : WideSeatValue) (after : ℕ) → next.table ≡ now.table → ((k + 1 == cells) ≡ false) × Passing now.view next.view x c → after ≡ (c + 1) % cells → Searching first next x (k + 1) after
  goes_on next after same (more, p) at = record {
    table = same ∙ s.table;
    looked = looked_then first.view now.view s.looked next.view p.looked;
    idle = p.idle;
    at = record {
      searched = record {
        steps = both.0.steps + 1;
        short = short;
        at = at ∙ next_cell;
        before = passed;
      };
      step = ap (λ (j : ℕ). j + 1) still_step;
    };
  }
    where
      both : (r : IsSearched next.view.world (state_of next.view.front) next.view.dues.seen x c) × (r.steps ≡ s.at.searched.steps)
      both = searched_looked now.view next.view p.looked x c s.at.searched

      still_step : both.0.steps ≡ k
      still_step = both.1 ∙ s.at.step

      count_next : cells ≡ cell_count next.view.world
      count_next = count_now ∙ ap cell_count (sym (world_looked now.view next.view p.looked))

      further : k + 1 ≢ cells
      further is = let yes = eq-eqb (k + 1) cells is in cc

      short : both.0.steps + 1 < cell_count next.view.world
      short = let below = step_below in omega (arith, still_step, further, count_next)

      next_cell : (c + 1) % cells ≡ cell_on next.view.world x (both.0.steps + 1)
      next_cell =
          let w = next.view.world in
          ap (λ (m : ℕ). (c + 1) % m) count_next ∙ ap (λ (m : ℕ). (m + 1) % cell_count w) both.0.at ∙ mod-add-mod (home (cell_count w) (mixed x) + both.0.steps) (cell_count w) 1
          ∙ ap (λ (m : ℕ). m % cell_count w) (sum (home (cell_count w) (mixed x)) both.0.steps)
        where
          sum : (a d : ℕ) → a + d + 1 ≡ a + (d + 1)
          sum a d = omega arith

      passed : (j : ℕ) → j < both.0.steps + 1 → IsPassed next.view.world (state_of next.view.front) next.view.dues.seen x (cell_on next.view.world x j)
      passed j below =
          elim (below_or_last j both.0.steps below) [
            | inl before ↦ both.0.before j before
            | inr same_step ↦ subst (λ (d : ℕ). IsPassed next.view.world (state_of next.view.front) next.view.dues.seen x d) (both.0.at ∙ ap (cell_on next.view.world x) (sym same_step)) p.passed
          ]
