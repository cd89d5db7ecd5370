-- A seat with the whole stake knows that every vertex is whole or owed.
use Rattle.std.proofs.Common.{◌≡◌, subst, ◌⊎◌, inl, inr, ℕ, List, Contains, All}
use Rattle.std.proofs.lemmas.List.Elements.{All-contains}
use Rattle.graph_history.specs.declared.event.Event.{Event}
use Rattle.graph_history.specs.History.{state_of, IsWhole, IsClosed}
use Rattle.wide_words.specs.WideHistory.{WideWorldType, flat}
use Rattle.wide_rule.specs.Rule.{WideView, whole, IsComplete}

pub settled : (v : WideView) (w : WideWorldType) (f : List Event) → IsComplete v → v.stake ≡ whole → All (IsWhole (flat v.world) (state_of v.front)) v.dues.owed
    → v.world ≡ w → v.front ≡ f → IsClosed (flat w) (state_of f)
settled v w f complete all done same_world same_front =
    subst (λ (u : WideWorldType). IsClosed (flat u) (state_of f)) same_world (subst (λ (h : List Event). IsClosed (flat v.world) (state_of h)) same_front closed)
  where
    finished : (c : ℕ) → IsWhole (flat v.world) (state_of v.front) c ⊎ Contains v.dues.owed c → IsWhole (flat v.world) (state_of v.front) c
    finished c (inl ended) = ended
    finished c (inr has) = All-contains (IsWhole (flat v.world) (state_of v.front)) v.dues.owed c done has

    closed : IsClosed (flat v.world) (state_of v.front)
    closed c there = finished c ((complete all).vertices c there.0 there.1)
