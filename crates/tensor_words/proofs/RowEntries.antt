-- One entry more in a row.
use Rattle.std.proofs.Common.{◌≡◌, ◌∙◌, sym, ap, subst, ℕ, ◌+◌, ◌-◌, ◌≤◌, ◌<◌, List, length, get_or, set, inl, inr, arith}
use Rattle.std.proofs.lemmas.Bool.{cases_eq}
use Rattle.std.proofs.lemmas.Grind.{get_or-set_at}
use Rattle.std.proofs.lemmas.List.{get_or-set_other}
use Rattle.crystal_cartan.specs.Types.{CartanType, HasIndex}

pub entries_more :
    {X : Type 0} (t : CartanType) (xs : List X) (k : ℕ) (x d : X) (f : ℕ → X) → k < length xs → x ≡ f (k + 1)
    → ((i : ℕ) → HasIndex t i → i ≤ k → get_or xs (i - 1) d ≡ f i) → (i : ℕ) → HasIndex t i → i ≤ k + 1 → get_or (set xs k x) (i - 1) d ≡ f i
entries_more t xs k x d f lt new before i index high =
    elim (cases_eq (i - 1) k) as (λ o. get_or (set xs k x) (i - 1) d ≡ f i) [
      | inl here ↦
          let last : k + 1 ≡ i = omega (arith, index.low) in
          get_or-set_at xs k (i - 1) x d here lt ∙ new ∙ ap f last
      | inr other ↦ get_or-set_other xs k (i - 1) x d other ∙ before i index (omega (arith, index.low))
    ]

pub all_more :
    {X : Type 0} (P : X → Type 0) (xs : List X) (k : ℕ) (x d : X) → k < length xs → P x → ((j : ℕ) → P (get_or xs j d)) → (j : ℕ) → P (get_or (set xs k x) j d)
all_more P xs k x d lt new before j =
    elim (cases_eq j k) as (λ o. P (get_or (set xs k x) j d)) [
      | inl here ↦ subst P (sym (get_or-set_at xs k j x d here lt)) new
      | inr other ↦ subst P (sym (get_or-set_other xs k j x d other)) (before j)
    ]
