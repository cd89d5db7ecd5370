-- Fronts with further acts of one caller.
use Rattle.std.proofs.Common.{◌≡◌, ◌≢◌, refl, sym, ap, ◌∙◌, ℕ, ◌==◌, not, List, [], ◌∷◌, ◌++◌, append-nil, append_assoc, arith}
use Rattle.std.proofs.lemmas.Grind.{common_steps}
use Rattle.std.proofs.lemmas.List.Elements.{filter-append}
use Rattle.tensor_words.specs.Worlds.{WorldType}
use Rattle.graph_history.specs.declared.event.Act.{Act}
use Rattle.graph_history.specs.declared.event.Event.{Event}
use Rattle.graph_history.specs.History.{IsLegal, calls, others}
use Rattle.graph_history.specs.Desks.{by, Grows, EndsWith, added_by, added_cells}

pub calls_by : (n : ℕ) (acts : List Act) → calls (by n acts) n ≡ by n acts
calls_by n [] = refl
calls_by n (a ∷ acts) = grind (arith, common_steps, calls_by n acts)

pub calls_other : (n m : ℕ) (acts : List Act) → n ≢ m → calls (by n acts) m ≡ []
calls_other n m [] e = refl
calls_other n m (a ∷ acts) e = grind (arith, common_steps, calls_other n m acts e)

pub calls-append : (f g : List Event) (n : ℕ) → calls (f ++ g) n ≡ calls f n ++ calls g n
calls-append f g n = filter-append (λ (e : Event). e.caller == n) f g

-- who did nothing in two lists did nothing in both together
pub calls_both : (f g : List Event) (n : ℕ) → calls f n ≡ [] → calls g n ≡ [] → calls (f ++ g) n ≡ []
calls_both f g n p q = calls-append f g n ∙ ap (λ (l : List Event). l ++ calls g n) p ∙ q

pub others_by : (n : ℕ) (acts : List Act) → others n (by n acts) ≡ []
others_by n [] = refl
others_by n (a ∷ acts) = grind (arith, common_steps, others_by n acts)

pub others_after : (n : ℕ) (h : List Event) (acts : List Act) → others n (h ++ by n acts) ≡ others n h
others_after n h acts = filter-append (λ (e : Event). not (e.caller == n)) h (by n acts) ∙ ap (λ l. others n h ++ l) (others_by n acts) ∙ append-nil (others n h)

pub grew : (w : WorldType) (n : ℕ) (h : List Event) (acts : List Act) → IsLegal w (h ++ by n acts) → Grows w n h (h ++ by n acts) acts
grew w n h acts legal = record { more = by n acts; is = refl; own = calls_by n acts; legal = legal }

pub ends : (n : ℕ) (h : List Event) (a : Act) → EndsWith n (h ++ by n (a ∷ []))
ends n h a = (h, a, refl)

pub by_append : (n : ℕ) (xs ys : List Act) → by n xs ++ by n ys ≡ by n (xs ++ ys)
by_append n [] ys = refl
by_append n (x ∷ xs) ys = ap (λ (l : List Event). record { caller = n; act = x } ∷ l) (by_append n xs ys)

pub ends_by : (n : ℕ) (h : List Event) (acts : List Act) (a : Act) → EndsWith n (h ++ by n (acts ++ a ∷ []))
ends_by n h acts a = (
  h ++ by n acts,
  a,
  ap (λ (l : List Event). h ++ l) (sym (by_append n acts (a ∷ []))) ∙ sym (append_assoc h (by n acts) (record { caller = n; act = a } ∷ [])),
)

-- the cells of new vertices in two lists of acts
pub added_cells-append : (xs ys : List Act) → added_cells (xs ++ ys) ≡ added_cells xs ++ added_cells ys
added_cells-append [] ys = refl
added_cells-append (a ∷ xs) ys = ap (λ (l : List ℕ). added_by a ++ l) (added_cells-append xs ys) ∙ sym (append_assoc (added_by a) (added_cells xs) (added_cells ys))
