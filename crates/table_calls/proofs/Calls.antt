-- What the tests' calls owe.
use Rattle.std.proofs.Common.{◌≡◌, ◌≢◌, sym, ap, subst, ◌∙◌, ℕ, ◌+◌, ◌-◌, ◌%◌, ◌<◌, [], Some, add-zero, arith}
use Rattle.std.proofs.Math.Nat.{mod-eq_of_lt}
use Rattle.crystal_cartan.specs.declared.types.Arrow.{Arrow}
use Rattle.tensor_words.specs.Operators.{op}
use Rattle.tensor_words.specs.Worlds.{WorldType}
use Rattle.graph_history.specs.declared.view.Dues.{Dues}
use Rattle.graph_history.specs.Views.{View}
use Rattle.graph_history.specs.History.{State, state_of, vertex_at, HasVertex}
use Rattle.graph_rule.specs.Layout.{home, IsSearched, LeadsTo}
use Rattle.graph_rule.specs.Told.{Advances, cell_word}
use Rattle.graph_rule.proofs.Composing.{advanced_stays}
use Rattle.graph_rule.proofs.Paths.{word_some}

-- the first cell of a path
no_round : (a n : ℕ) → a < n → a ≡ (a + 0) % n
no_round a n below = sym (ap (λ (k : ℕ). k % n) (add-zero a) ∙ mod-eq_of_lt below)

pub at_home : (w : WorldType) (s : State) (c x n : ℕ) → n ≡ w.cells → c ≡ home n x → c < n → IsSearched w s c x
at_home w s c x n same is below = record {
  steps = 0;
  short = omega arith;
  at = subst (λ (m : ℕ). c ≡ (home m x + 0) % m) same (no_round c n below ∙ ap (λ (h : ℕ). (h + 0) % n) is);
  before = λ k less. absurd (omega arith);
}

-- the vertex that a load found
pub loaded : (v : View) (c word : ℕ) → word ≢ 0 → word ≡ cell_word v c → HasVertex (state_of v.front) c (word - 1)
loaded v c word some found =
    let less : word ≡ (word - 1) + 1 = omega arith in word_some (vertex_at (state_of v.front).vertices c) (word - 1) (sym found ∙ less)

pub leads_to : (v w : View) (d : Dues) (c t x word there : ℕ) (a : Arrow) → Advances v w [] d → word ≢ 0 → word ≡ cell_word v c → there ≢ 0 → there ≡ cell_word w t → there - 1 ≡ x
    → op w.world.space a (word - 1) ≡ Some x → LeadsTo w.world (state_of w.front) c a (Some t)
leads_to v w d c t x word there a step some found also here same leads =
    (word - 1, (advanced_stays v w [] d step).vertices c (word - 1) (loaded v c word some found), (x, leads, subst (λ (k : ℕ). HasVertex (state_of w.front) t k) same (loaded w t there also here)))
