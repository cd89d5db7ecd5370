-- The acts of a step by the word that was found.
use Rattle.std.proofs.Common.{◌≡◌, ◌≢◌, ap, ℕ, ◌+◌, ◌==◌, Bool, true, false, eq-eqb, ne_eqb, if◌then◌else◌, List, [], ◌∷◌, ◌∙◌}
use Rattle.tensor_words.specs.Worlds.{WorldType}
use Rattle.graph_history.specs.declared.event.Origin.{Origin}
use Rattle.graph_history.specs.declared.event.Act.{Act}
use Rattle.graph_history.specs.declared.event.Act.TheVariants.{Added, Met, Missed, Spent}
use Rattle.graph_history.specs.declared.view.Dues.{Dues}
use Rattle.graph_rule.specs.Layout.{is_last}
use Rattle.graph_rule.specs.Told.{sought_acts, sought_empty_acts, claimed_acts, claimed_dues, with_cell}

-- a choice by three tests
first_of_three : (a b c d : List Act) (p q l : Bool) → p ≡ true → (if p then a else (if q then b else (if l then c else d))) ≡ a
first_of_three a b c d p q l e = ap (λ (t : Bool). if t then a else (if q then b else (if l then c else d))) e

second_of_three : (a b c d : List Act) (p q l : Bool) → p ≡ false → q ≡ true → (if p then a else (if q then b else (if l then c else d))) ≡ b
second_of_three a b c d p q l e f =
    ap (λ (t : Bool). if t then a else (if q then b else (if l then c else d))) e ∙ ap (λ (t : Bool). if t then b else (if l then c else d)) f

third_of_three : (a b c d : List Act) (p q l k : Bool) → p ≡ false → q ≡ false → l ≡ k → (if p then a else (if q then b else (if l then c else d))) ≡ (if k then c else d)
third_of_three a b c d p q l k e f g =
    ap (λ (t : Bool). if t then a else (if q then b else (if l then c else d))) e ∙ ap (λ (t : Bool). if t then b else (if l then c else d)) f ∙ ap (λ (t : Bool). if t then c else d) g

module _ (w : WorldType) (c x n : ℕ) where
  pub sought_empty : n ≡ 0 → sought_acts w c x n ≡ Missed x ∷ []
  sought_empty e = first_of_three _ _ _ _ (n == 0) (n == x + 1) (is_last w x c) (eq-eqb n 0 e)

  pub sought_here : n ≢ 0 → n ≡ x + 1 → sought_acts w c x n ≡ Met c x ∷ []
  sought_here z e = second_of_three _ _ _ _ (n == 0) (n == x + 1) (is_last w x c) (ne_eqb n 0 z) (eq-eqb n (x + 1) e)

  pub sought_last : n ≢ 0 → n ≢ x + 1 → is_last w x c ≡ true → sought_acts w c x n ≡ Missed x ∷ []
  sought_last z e l = third_of_three _ _ _ _ (n == 0) (n == x + 1) (is_last w x c) true (ne_eqb n 0 z) (ne_eqb n (x + 1) e) l

  pub sought_on : n ≢ 0 → n ≢ x + 1 → is_last w x c ≡ false → sought_acts w c x n ≡ []
  sought_on z e l = third_of_three (Missed x ∷ []) (Met c x ∷ []) (Missed x ∷ []) [] (n == 0) (n == x + 1) (is_last w x c) false (ne_eqb n 0 z) (ne_eqb n (x + 1) e) l

  pub looked_empty : n ≡ 0 → sought_empty_acts w c x n ≡ []
  looked_empty e = first_of_three [] (Met c x ∷ []) (Spent x ∷ []) [] (n == 0) (n == x + 1) (is_last w x c) (eq-eqb n 0 e)

  pub looked_here : n ≢ 0 → n ≡ x + 1 → sought_empty_acts w c x n ≡ Met c x ∷ []
  looked_here z e = second_of_three _ _ _ _ (n == 0) (n == x + 1) (is_last w x c) (ne_eqb n 0 z) (eq-eqb n (x + 1) e)

  pub looked_last : n ≢ 0 → n ≢ x + 1 → is_last w x c ≡ true → sought_empty_acts w c x n ≡ Spent x ∷ []
  looked_last z e l = third_of_three _ _ _ _ (n == 0) (n == x + 1) (is_last w x c) true (ne_eqb n 0 z) (ne_eqb n (x + 1) e) l

  pub looked_on : n ≢ 0 → n ≢ x + 1 → is_last w x c ≡ false → sought_empty_acts w c x n ≡ []
  looked_on z e l = third_of_three [] (Met c x ∷ []) (Spent x ∷ []) [] (n == 0) (n == x + 1) (is_last w x c) false (ne_eqb n 0 z) (ne_eqb n (x + 1) e) l

  pub claimed_empty : (o : Origin) → n ≡ 0 → claimed_acts c x o n ≡ Added c x o ∷ []
  claimed_empty o e = ap (λ (t : Bool). if t then Added c x o ∷ [] else (if n == x + 1 then Met c x ∷ [] else [])) (eq-eqb n 0 e)

  pub claimed_here : (o : Origin) → n ≢ 0 → n ≡ x + 1 → claimed_acts c x o n ≡ Met c x ∷ []
  claimed_here o z e =
      ap (λ (t : Bool). if t then Added c x o ∷ [] else (if n == x + 1 then Met c x ∷ [] else [])) (ne_eqb n 0 z) ∙ ap (λ (t : Bool). if t then Met c x ∷ [] else []) (eq-eqb n (x + 1) e)

  pub claimed_on : (o : Origin) → n ≢ 0 → n ≢ x + 1 → claimed_acts c x o n ≡ []
  claimed_on o z e =
      ap (λ (t : Bool). if t then Added c x o ∷ [] else (if n == x + 1 then Met c x ∷ [] else [])) (ne_eqb n 0 z) ∙ ap (λ (t : Bool). if t then Met c x ∷ [] else []) (ne_eqb n (x + 1) e)

pub dues_taken : (c n : ℕ) (d : Dues) → n ≡ 0 → claimed_dues c n d ≡ with_cell c d
dues_taken c n d e = ap (λ (t : Bool). if t then with_cell c d else d) (eq-eqb n 0 e)

pub dues_left : (c n : ℕ) (d : Dues) → n ≢ 0 → claimed_dues c n d ≡ d
dues_left c n d z = ap (λ (t : Bool). if t then with_cell c d else d) (ne_eqb n 0 z)
