-- Desks that go on, one call after another.
use Rattle.std.proofs.Common.{◌≡◌, refl, sym, ap, ap₂, subst, ◌∙◌, ℕ, ◌+◌, ◌≤◌, ◌==◌, List, [], ◌∷◌, ◌++◌, append-nil, append_assoc, arith}
use Rattle.std.proofs.lemmas.List.Elements.{filter-append}
use Rattle.tensor_words.specs.Worlds.{WorldType}
use Rattle.graph_history.specs.declared.event.Origin.{Origin}
use Rattle.graph_history.specs.declared.event.Act.{Act}
use Rattle.graph_history.specs.declared.answer.Added.{Added}
use Rattle.graph_history.specs.declared.event.Event.{Event}
use Rattle.graph_history.specs.History.{IsLegal}
use Rattle.graph_history.specs.Desks.{Grows, unpaid_then, unpaid_by, unpaid_after, Standing, Goes, IsEntry, met, spent, added, owed_met, owed_spent}
use Rattle.graph_history.proofs.Growing.{by_append}

pub grows_then : (w : WorldType) (n : ℕ) (old mid new : List Event) (xs ys : List Act) → Grows w n old mid xs → Grows w n mid new ys → Grows w n old new (xs ++ ys)
grows_then w n old mid new xs ys p q = record {
  more = p.more ++ q.more;
  is = q.is ∙ ap (λ (l : List Event). l ++ q.more) p.is ∙ append_assoc old p.more q.more;
  own = filter-append (λ (e : Event). e.caller == n) p.more q.more ∙ ap₂ (λ (k l : List Event). k ++ l) p.own q.own ∙ by_append n xs ys;
  legal = q.legal;
}

pub grows_none : (w : WorldType) (n : ℕ) (h : List Event) → IsLegal w h → Grows w n h h []
grows_none w n h legal = record { more = []; is = sym (append-nil h); own = refl; legal = legal }

pub unpaid_by-append : (cells : List ℕ) (xs ys : List Act) → unpaid_by cells (xs ++ ys) ≡ unpaid_by (unpaid_by cells xs) ys
unpaid_by-append cells [] ys = refl
unpaid_by-append cells (x ∷ xs) ys = unpaid_by-append (unpaid_then cells x) xs ys

module _ {Bond : Type 0} where
  -- a desk at rest
  pub goes_still : (s : Standing Bond) → IsLegal s.world s.front → Goes s s 0 []
  goes_still s legal = record {
    world = refl;
    caller = refl;
    bond = refl;
    alone = refl;
    least = omega arith;
    most = omega arith;
    grows = grows_none s.world s.caller s.front legal;
    unpaid = refl;
  }

  pub goes_then : (old mid new : Standing Bond) (p q places : ℕ) (xs ys : List Act) → p + q ≤ places → Goes old mid p xs → Goes mid new q ys → Goes old new places (xs ++ ys)
  goes_then old mid new p q places xs ys within a b = record {
    world = b.world ∙ a.world;
    caller = b.caller ∙ a.caller;
    bond = b.bond ∙ a.bond;
    alone = b.alone ∙ a.alone;
    least = omega (arith, a.least, b.least);
    most = omega (arith, a.most, b.most);
    grows = grows_then old.world old.caller old.front mid.front new.front xs ys a.grows
        (subst (λ (w : WorldType). Grows w old.caller mid.front new.front ys) a.world (subst (λ (n : ℕ). Grows mid.world n mid.front new.front ys) a.caller b.grows));
    unpaid = b.unpaid ∙ ap (λ (cells : List ℕ). unpaid_by cells ys) a.unpaid ∙ sym (unpaid_by-append old.unpaid xs ys);
  }

  pub goes_within : (old new : Standing Bond) (p places : ℕ) (acts : List Act) → p ≤ places → Goes old new p acts → Goes old new places acts
  goes_within old new p places acts within g = record {
    world = g.world;
    caller = g.caller;
    bond = g.bond;
    alone = g.alone;
    least = g.least;
    most = omega (arith, g.most);
    grows = g.grows;
    unpaid = g.unpaid;
  }

-- what is unpaid after an entry
pub entry_unpaid : (cells : List ℕ) (x : ℕ) (o : Origin) (answer : Added) (acts : List Act) → IsEntry x o answer acts → unpaid_by cells acts ≡ unpaid_after answer cells
entry_unpaid cells x o answer acts (met c) = refl
entry_unpaid cells x o answer acts spent = refl
entry_unpaid cells x o answer acts (added c) = refl
entry_unpaid cells x o answer acts (owed_met c) = refl
entry_unpaid cells x o answer acts owed_spent = refl
