-- A seat with the whole stake knows that every vertex is whole or unpaid.
use Rattle.std.proofs.Common.{◌≡◌, subst, ◌⊎◌, inl, inr, ℕ, List, Contains, All}
use Rattle.std.proofs.lemmas.List.Elements.{All-contains}
use Rattle.tensor_words.specs.Worlds.{WorldType}
use Rattle.graph_history.specs.declared.event.Event.{Event}
use Rattle.graph_history.specs.Views.{View}
use Rattle.graph_history.specs.History.{state_of, IsWhole, IsClosed}
use Rattle.graph_rule.specs.Rule.{whole, IsComplete}

pub settled : (v : View) (w : WorldType) (f : List Event) → IsComplete v → v.stake ≡ whole → All (IsWhole v.world (state_of v.front)) v.dues.unpaid
    → v.world ≡ w → v.front ≡ f → IsClosed w (state_of f)
settled v w f complete all paid same_world same_front =
    subst (λ (u : WorldType). IsClosed u (state_of f)) same_world (subst (λ (h : List Event). IsClosed v.world (state_of h)) same_front closed)
  where
    finished : (c : ℕ) → IsWhole v.world (state_of v.front) c ⊎ Contains v.dues.unpaid c → IsWhole v.world (state_of v.front) c
    finished c (inl done) = done
    finished c (inr has) = All-contains (IsWhole v.world (state_of v.front)) v.dues.unpaid c paid has

    closed : IsClosed v.world (state_of v.front)
    closed c there = finished c ((complete all).vertices c there.0 there.1)
