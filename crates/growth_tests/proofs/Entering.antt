-- The cell of a root that was put in, whether it was new or not.
use Rattle.std.proofs.Common.{◌≡◌, ◌⊎◌, inl, inr, ℕ, [], ◌∷◌, subst, List, None}
use Rattle.graph_history.specs.declared.event.Act.{Act}
use Rattle.graph_history.specs.declared.event.Act.TheVariants.{Owed, Settled}
use Rattle.graph_history.specs.declared.event.Origin.TheVariants.{Root}
use Rattle.graph_history.specs.declared.answer.Added.{Added}
use Rattle.graph_history.specs.declared.answer.Added.TheVariants.{New, Old}
use Rattle.graph_history.specs.History.{state_of, HasVertex}
use Rattle.graph_history.specs.Desks.{Standing, IsEntry, Goes, Entering, met, spent, added, owed_met, owed_spent}
use Rattle.graph_history.proofs.OwnActs.{added_there, met_there}

pub entered_at : {Bond : Type 0} (old new : Standing Bond) (x t : ℕ) (r : Added) → (r ≡ New t) ⊎ (r ≡ Old t) → Entering old new x Root r → HasVertex (state_of new.front) t x
entered_at {Bond} old new x t r is e = at r e.acts is e.entry e.does.goes
  where
    moved : (c : ℕ) → c ≡ t → HasVertex (state_of new.front) c x → HasVertex (state_of new.front) t x
    moved c same has = subst (λ (d : ℕ). HasVertex (state_of new.front) d x) same has

    at : (r : Added) (acts : List Act) → (r ≡ New t) ⊎ (r ≡ Old t) → IsEntry x Root r acts → Goes old new 1 acts → HasVertex (state_of new.front) t x
    at r acts (inl is) (met c) g = cc
    at r acts (inr is) (met c) g = let same : c ≡ t = cc in moved c same (met_there old.world old.caller old.front new.front [] c x [] g.grows)
    at r acts (inl is) spent g = cc
    at r acts (inr is) spent g = cc
    at r acts (inl is) (added c) g = let same : c ≡ t = cc in moved c same (added_there old.world old.caller old.front new.front (Owed ∷ []) c x Root [] g.grows)
    at r acts (inr is) (added c) g = cc
    at r acts (inl is) (owed_met c) g = cc
    at r acts (inr is) (owed_met c) g = let same : c ≡ t = cc in moved c same (met_there old.world old.caller old.front new.front (Owed ∷ []) c x (Settled None ∷ []) g.grows)
    at r acts (inl is) owed_spent g = cc
    at r acts (inr is) owed_spent g = cc
