-- The acts of a step by the word that was found, and what the seat has begun after it.
use Rattle.std.proofs.Common.{◌≡◌, ◌≢◌, refl, sym, ap, subst, ◌∙◌, ℕ, ◌+◌, ◌==◌, Bool, true, false, eq-eqb, ne_eqb, if◌then◌else◌, List, [], ◌∷◌, ◌++◌, Option, Some, None}
use Rattle.std.proofs.lemmas.List.Elements.{Contains-append_left, Contains-push}
use Rattle.graph_history.specs.declared.event.Origin.{Origin}
use Rattle.graph_history.specs.declared.event.Act.{Act}
use Rattle.graph_history.specs.declared.event.Act.TheVariants.{Added, Met}
use Rattle.graph_rule.specs.Told.{probed}
use Rattle.wide_words.specs.declared.spaces.WideCode.{WideCode}
use Rattle.wide_words.specs.WideSpaces.{number}
use Rattle.wide_words.specs.WideHistory.{WideWorldType}
use Rattle.wide_rule.specs.declared.dues.WideDues.{WideDues}
use Rattle.wide_rule.specs.Layout.{HasSeen}
use Rattle.wide_rule.specs.Told.{claim_second_acts, with_seen, saw, claimed, tried, unless, finished}

-- the acts of a load
module _ (n half : ℕ) (last : Bool) (empty same other : List Act) where
  pub probed_empty : n ≡ 0 → probed n half last empty same other ≡ empty
  probed_empty e = ap (λ (t : Bool). if t then empty else (if n == half then same else (if last then other else []))) (eq-eqb n 0 e)

  past_empty : n ≢ 0 → probed n half last empty same other ≡ (if n == half then same else (if last then other else []))
  past_empty z = ap (λ (t : Bool). if t then empty else (if n == half then same else (if last then other else []))) (ne_eqb n 0 z)

  pub probed_same : n ≢ 0 → n ≡ half → probed n half last empty same other ≡ same
  probed_same z e = past_empty z ∙ ap (λ (t : Bool). if t then same else (if last then other else [])) (eq-eqb n half e)

  past_same : n ≢ 0 → n ≢ half → probed n half last empty same other ≡ (if last then other else [])
  past_same z e = past_empty z ∙ ap (λ (t : Bool). if t then same else (if last then other else [])) (ne_eqb n half e)

  pub probed_last : n ≢ 0 → n ≢ half → last ≡ true → probed n half last empty same other ≡ other
  probed_last z e l = past_same z e ∙ ap (λ (t : Bool). if t then other else []) l

  pub probed_on : n ≢ 0 → n ≢ half → last ≡ false → probed n half last empty same other ≡ []
  probed_on z e l = past_same z e ∙ ap (λ (t : Bool). if t then other else []) l

-- the acts of an exchange of a second word
module _ (w : WideWorldType) (c : ℕ) (x : WideCode) (o : Origin) (n : ℕ) where
  abbrev added : List Act
  added = Added c (number w.space x) o ∷ []

  abbrev met : List Act
  met = Met c (number w.space x) ∷ []

  pub second_won : n ≡ 0 → claim_second_acts w c x o n ≡ Added c (number w.space x) o ∷ []
  second_won e = ap (λ (t : Bool). if t then added else (if n == x.low + 1 then met else [])) (eq-eqb n 0 e)

  pub second_met : n ≢ 0 → n ≡ x.low + 1 → claim_second_acts w c x o n ≡ Met c (number w.space x) ∷ []
  second_met z e =
      ap (λ (t : Bool). if t then added else (if n == x.low + 1 then met else [])) (ne_eqb n 0 z) ∙ ap (λ (t : Bool). if t then met else []) (eq-eqb n (x.low + 1) e)

  pub second_lost : n ≢ 0 → n ≢ x.low + 1 → claim_second_acts w c x o n ≡ []
  second_lost z e =
      ap (λ (t : Bool). if t then added else (if n == x.low + 1 then met else [])) (ne_eqb n 0 z) ∙ ap (λ (t : Bool). if t then met else []) (ne_eqb n (x.low + 1) e)

-- one first word more
module _ (c n : ℕ) (dues : WideDues) where
  more_keeps : (d m : ℕ) → HasSeen dues.seen d m → HasSeen (dues.seen ++ record { cell = c; word = n } ∷ []) d m
  more_keeps d m has = Contains-append_left dues.seen (record { cell = c; word = n } ∷ []) (record { cell = d; word = m }) has

  more_has : HasSeen (dues.seen ++ record { cell = c; word = n } ∷ []) c n
  more_has = Contains-push dues.seen (record { cell = c; word = n })

-- after a load of a first word
module _ (c n : ℕ) (dues : WideDues) where
  pub saw_owed : (saw c n dues).owed ≡ dues.owed
  saw_owed = by (n == 0)
    where
      by : (b : Bool) → (if b then dues else with_seen c n dues).owed ≡ dues.owed
      by true = refl
      by false = refl

  pub saw_pending : (saw c n dues).pending ≡ dues.pending
  saw_pending = by (n == 0)
    where
      by : (b : Bool) → (if b then dues else with_seen c n dues).pending ≡ dues.pending
      by true = refl
      by false = refl

  pub saw_keeps : (d m : ℕ) → HasSeen dues.seen d m → HasSeen (saw c n dues).seen d m
  saw_keeps d m has = by (n == 0)
    where
      by : (b : Bool) → HasSeen (if b then dues else with_seen c n dues).seen d m
      by true = has
      by false = more_keeps c n dues d m has

  pub saw_has : n ≢ 0 → HasSeen (saw c n dues).seen c n
  saw_has z = subst (λ (b : Bool). HasSeen (if b then dues else with_seen c n dues).seen c n) (sym (ne_eqb n 0 z)) (more_has c n dues)

-- after an exchange of a first word
module _ (c : ℕ) (x : WideCode) (n : ℕ) (dues : WideDues) where
  pub tried_owed : (tried c x n dues).owed ≡ dues.owed
  tried_owed = by (n == 0)
    where
      by : (b : Bool) → (if b then claimed c x dues else with_seen c n dues).owed ≡ dues.owed
      by true = refl
      by false = refl

  pub tried_keeps : (d m : ℕ) → HasSeen dues.seen d m → HasSeen (tried c x n dues).seen d m
  tried_keeps d m has = by (n == 0)
    where
      by : (b : Bool) → HasSeen (if b then claimed c x dues else with_seen c n dues).seen d m
      by true = more_keeps c (x.high + 1) dues d m has
      by false = more_keeps c n dues d m has

  pub tried_won : n ≡ 0 → tried c x n dues ≡ claimed c x dues
  tried_won e = ap (λ (b : Bool). if b then claimed c x dues else with_seen c n dues) (eq-eqb n 0 e)

  pub tried_lost : n ≢ 0 → tried c x n dues ≡ with_seen c n dues
  tried_lost z = ap (λ (b : Bool). if b then claimed c x dues else with_seen c n dues) (ne_eqb n 0 z)

  pub claimed_has : HasSeen (claimed c x dues).seen c (x.high + 1)
  claimed_has = more_has c (x.high + 1) dues

  pub seen_has : HasSeen (with_seen c n dues).seen c n
  seen_has = more_has c n dues

-- a cell that was pending is not any more
pub unless_same : (c : ℕ) → unless c (Some c) ≡ None
unless_same c = ap (λ (b : Bool). if b then None else Some c) (eq-eqb c c refl)

pub unless_idle : (c : ℕ) (p : Option ℕ) → p ≡ None → unless c p ≡ None
unless_idle c p e = ap (unless c) e

-- after an exchange of a second word
module _ (c n : ℕ) (dues : WideDues) where
  abbrev won : WideDues
  won = record dues { owed = dues.owed ++ c ∷ []; pending = unless c dues.pending }

  abbrev lost : WideDues
  lost = record dues { pending = unless c dues.pending }

  pub finished_pending : (finished c n dues).pending ≡ unless c dues.pending
  finished_pending = by (n == 0)
    where
      by : (b : Bool) → (if b then won else lost).pending ≡ unless c dues.pending
      by true = refl
      by false = refl

  pub finished_keeps : (d m : ℕ) → HasSeen dues.seen d m → HasSeen (finished c n dues).seen d m
  finished_keeps d m has = by (n == 0)
    where
      by : (b : Bool) → HasSeen (if b then won else lost).seen d m
      by true = has
      by false = has

  pub finished_owes : n ≡ 0 → (finished c n dues).owed ≡ dues.owed ++ c ∷ []
  finished_owes e = ap (λ (b : Bool). (if b then won else lost).owed) (eq-eqb n 0 e)

  pub finished_owed : n ≢ 0 → (finished c n dues).owed ≡ dues.owed
  finished_owed z = ap (λ (b : Bool). (if b then won else lost).owed) (ne_eqb n 0 z)
