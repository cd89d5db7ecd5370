-- What a look and a drawing tell.
use Rattle.std.proofs.Common.{◌≡◌, refl, sym, ap, subst, ◌∙◌, ℕ, Bool, true, false, Option, Some, None, arith}
use Rattle.crystal_cartan.specs.declared.types.Arrow.{Arrow}
use Rattle.graph_history.specs.declared.event.Act.TheVariants.{Drew, Saw}
use Rattle.graph_history.specs.declared.answer.Look.{Look}
use Rattle.graph_history.specs.declared.answer.Look.TheVariants.{Blank, Zero, To}
use Rattle.graph_history.specs.declared.view.Dues.{Dues}
use Rattle.graph_history.specs.Views.{View}
use Rattle.graph_history.specs.History.{State, state_of, HasArrow}
use Rattle.graph_history.specs.ArrowRows.{edge_word, seen}
use Rattle.graph_history.specs.Desks.{look_acts}
use Rattle.graph_history.proofs.Histories.{target_at-new, own_edge}
use Rattle.graph_rule.specs.Told.{Advances, target_in, glanced_acts, drawn_acts}
use Rattle.graph_rule.proofs.Composing.{step_state}

-- the word tells what is drawn
one_word : (o p : Option (Option ℕ)) → edge_word o ≡ edge_word p → o ≡ p
one_word None None e = refl
one_word None (Some None) e = absurd (omega arith)
one_word None (Some (Some u)) e = absurd (omega arith)
one_word (Some None) None e = absurd (omega arith)
one_word (Some None) (Some None) e = refl
one_word (Some None) (Some (Some u)) e = absurd (omega arith)
one_word (Some (Some t)) None e = absurd (omega arith)
one_word (Some (Some t)) (Some None) e = absurd (omega arith)
one_word (Some (Some t)) (Some (Some u)) e = let same : t ≡ u = omega arith in ap (λ (k : ℕ). Some (Some k)) same

module _ (v w : View) (d : Dues) (c : ℕ) (a : Arrow) where
  acts_seen : (answer : Look) → glanced_acts c a (seen answer) ≡ look_acts c a answer
  acts_seen Blank = refl
  acts_seen Zero = refl
  acts_seen (To t) = refl

  pub looked : (answer : Look) (n : ℕ) → n ≡ edge_word (target_in w c a) → n ≡ edge_word (seen answer) → seen answer ≡ target_in w c a
  looked answer n found told = one_word (seen answer) (target_in w c a) (sym told ∙ found)

  pub told : (answer : Look) → seen answer ≡ target_in w c a → Advances v w (glanced_acts c a (target_in w c a)) d → Advances v w (look_acts c a answer) d
  told answer is step =
      subst (λ acts. Advances v w acts d) (acts_seen answer) (subst (λ (o : Option (Option ℕ)). Advances v w (glanced_acts c a o) d) (sym is) step)

  -- afterwards the arrow is drawn, whoever did it
  pub drawn_then : (t : Option ℕ) (b : Bool) → Advances v w (drawn_acts c a t b) d → HasArrow (state_of w.front) c a t
  drawn_then t true step =
      let r = step_state v w (Drew c a t) d step in
      subst (λ (s : State). HasArrow s c a t) (sym r.2) (target_at-new r.0.drawn (record { cell = c; arrow = a; to = t }) c a (own_edge c c a a refl refl) r.1.undrawn)
  drawn_then t false step =
      let r = step_state v w (Saw c a t) d step in subst (λ (s : State). HasArrow s c a t) (sym r.2) r.1
