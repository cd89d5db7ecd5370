-- An entry from the steps of which it is made.
use Rattle.std.proofs.Common.{◌≡◌, sym, ap, subst, ◌∙◌, ℕ, ◌<◌, Bool, true, false, List, [], ◌∷◌, None}
use Rattle.tensor_words.specs.Spaces.{size}
use Rattle.tensor_words.specs.Worlds.{WorldType}
use Rattle.graph_history.specs.declared.event.Origin.{Origin}
use Rattle.graph_history.specs.declared.event.Act.{Act}
use Rattle.graph_history.specs.declared.event.Act.TheVariants.{Added as AddedAct, Met, Spent, Owed, Settled}
use Rattle.graph_history.specs.declared.answer.Added.{Added}
use Rattle.graph_history.specs.declared.answer.Added.TheVariants.{New, Old, Full}
use Rattle.graph_history.specs.declared.view.Dues.{Dues}
use Rattle.graph_history.specs.Views.{View}
use Rattle.graph_history.specs.History.{state_of, IsOrigin}
use Rattle.graph_history.specs.Desks.{Grows, IsEntry, met, spent, added, owed_met, owed_spent, EndsWith}
use Rattle.graph_history.proofs.OwnActs.{spent_full, added_there, met_there}
use Rattle.graph_rule.specs.Layout.{IsSearched}
use Rattle.graph_rule.specs.Rule.{IsKnown}
use Rattle.graph_rule.specs.Told.{Advances, Watched, Went, confirmed_acts, pledged, unpledged, with_cell}
use Rattle.graph_rule.specs.Values.{SeatValue, GraphValue, Belongs}
use Rattle.graph_rule.proofs.CellSteps.{origin_stays}
use Rattle.graph_rule.proofs.Composing.{watched_none, then_watch, then_went, watched_stays, advanced_stays, went_one, went_then, went_watched, went_grows, step_ends, origin_word}
use Rattle.graph_rule.proofs.Paths.{searched_stays}
use Rattle.table_calls.specs.Entries.{Enters, IsAddedIn, entered_dues}
use Rattle.table_calls.specs.Search.{Confirmed, IsAt}

-- the answer of an entry is that of the front which is left
module _ (v w : View) (x : ℕ) (o : Origin) where
  by_entry : (answer : Added) (acts : List Act) → IsEntry x o answer acts → Grows v.world v.number v.front w.front acts → IsAddedIn v.world (state_of w.front) x answer
  by_entry _ _ (met c) g = met_there v.world v.number v.front w.front [] c x [] g
  by_entry _ _ spent g = spent_full v.world v.number v.front w.front [] x [] g
  by_entry _ _ (added c) g = added_there v.world v.number v.front w.front (Owed ∷ []) c x o [] g
  by_entry _ _ (owed_met c) g = met_there v.world v.number v.front w.front (Owed ∷ []) c x (Settled None ∷ []) g
  by_entry _ _ owed_spent g = spent_full v.world v.number v.front w.front (Owed ∷ []) x (Settled None ∷ []) g

  pub exact_in : (answer : Added) → Enters v w x o answer → IsAddedIn w.world (state_of w.front) x answer
  exact_in answer e =
      subst (λ (u : WorldType). IsAddedIn u (state_of w.front) x answer) (sym (ap (λ (z : View). z.world) e.went.is))
      (by_entry answer e.acts e.entry (went_grows v w e.acts (entered_dues answer v.dues) e.went))

  -- the code was met, or every cell was taken
  pub met_entry : (c : ℕ) → Advances v w (Met c x ∷ []) v.dues → Enters v w x o (Old c)
  met_entry c a = record { acts = Met c x ∷ []; entry = met c; went = went_one v w (Met c x ∷ []) v.dues a; last = step_ends v w (Met c x) v.dues a }

  pub spent_entry : Advances v w (Spent x ∷ []) v.dues → Enters v w x o Full
  spent_entry a = record { acts = Spent x ∷ []; entry = spent; went = went_one v w (Spent x ∷ []) v.dues a; last = step_ends v w (Spent x) v.dues a }

-- a debt was owed after an empty cell was found
module _ (u v w : View) (x : ℕ) (o : Origin) (s : Watched u v) (owe : Advances v w (Owed ∷ []) (pledged v.dues)) where
  dues_owed : w.dues ≡ pledged u.dues
  dues_owed = ap (λ (z : View). z.dues) owe.is ∙ ap (λ (z : View). pledged z.dues) s.is

  world_owed : w.world ≡ u.world
  world_owed = ap (λ (z : View). z.world) owe.is ∙ ap (λ (z : View). z.world) s.is

  number_owed : w.number ≡ u.number
  number_owed = ap (λ (z : View). z.number) owe.is ∙ ap (λ (z : View). z.number) s.is

  went_owed : Went u w (Owed ∷ []) (pledged v.dues)
  went_owed = went_watched u v w (Owed ∷ []) (pledged v.dues) s owe

  pub origin_owed : IsOrigin u.world (state_of u.front) x o → IsOrigin w.world (state_of w.front) x o
  origin_owed h =
      subst (λ (k : WorldType). IsOrigin k (state_of w.front) x o) (sym world_owed)
      (origin_stays u.world (state_of v.front) (state_of w.front) x o (advanced_stays v w (Owed ∷ []) (pledged v.dues) owe) (origin_stays u.world (state_of u.front) (state_of v.front) x o (watched_stays u v s) h))

  pub at_owed : (k c : ℕ) → IsAt v x k c → IsAt w x k c
  at_owed k c at =
      let both = subst (λ (m : WorldType). (q : IsSearched m (state_of w.front) c x) × (q.steps ≡ k)) (sym (ap (λ (z : View). z.world) owe.is))
      (searched_stays v.world (state_of v.front) (state_of w.front) c x (advanced_stays v w (Owed ∷ []) (pledged v.dues) owe) at.searched, at.step) in
      record { searched = both.0; step = both.1 }

  -- the word was put in
  pub new_entry : (last : View) (c : ℕ) → Advances w last (AddedAct c x o ∷ []) (with_cell c w.dues) → Enters u last x o (New c)
  new_entry last c a =
      let dues : with_cell c w.dues ≡ with_cell c u.dues = ap (with_cell c) dues_owed in
      record {
        acts = Owed ∷ AddedAct c x o ∷ [];
        entry = added c;
        went = subst (λ (d : Dues). Went u last (Owed ∷ AddedAct c x o ∷ []) d) dues
            (went_then u w last (Owed ∷ []) (AddedAct c x o ∷ []) (pledged v.dues) (with_cell c w.dues) went_owed (went_one w last (AddedAct c x o ∷ []) (with_cell c w.dues) a));
        last = subst (λ (n : ℕ). EndsWith n last.front) number_owed (step_ends w last (AddedAct c x o) (with_cell c w.dues) a);
      }

  -- somebody was faster, and the debt was taken back
  module _ (free : u.dues.pledge ≡ 0) (act : Act) (third last : View) (a : Advances w third (act ∷ []) w.dues) (back : Advances third last (Settled None ∷ []) (unpledged third.dues)) where
    dues_back : unpledged third.dues ≡ u.dues
    dues_back =
        ap (λ (z : View). unpledged z.dues) a.is ∙ ap unpledged dues_owed ∙ (λ i. record { owed = u.dues.owed; unpaid = u.dues.unpaid; pledge = sym free i })

    number_back : third.number ≡ u.number
    number_back = ap (λ (z : View). z.number) a.is ∙ number_owed

    pub went_back : Went u last (Owed ∷ act ∷ Settled None ∷ []) u.dues
    went_back =
        subst (λ (d : Dues). Went u last (Owed ∷ act ∷ Settled None ∷ []) d) dues_back
        (went_then u third last (Owed ∷ act ∷ []) (Settled None ∷ []) w.dues (unpledged third.dues)
        (went_then u w third (Owed ∷ []) (act ∷ []) (pledged v.dues) w.dues went_owed (went_one w third (act ∷ []) w.dues a))
        (went_one third last (Settled None ∷ []) (unpledged third.dues) back))

    pub last_back : EndsWith u.number last.front
    last_back = subst (λ (n : ℕ). EndsWith n last.front) number_back (step_ends third last (Settled None) (unpledged third.dues) back)

  pub old_entry : u.dues.pledge ≡ 0 → (third last : View) (c : ℕ) → Advances w third (Met c x ∷ []) w.dues → Advances third last (Settled None ∷ []) (unpledged third.dues) → Enters u last x o (Old c)
  old_entry free third last c a back = record { acts = Owed ∷ Met c x ∷ Settled None ∷ []; entry = owed_met c; went = went_back free (Met c x) third last a back; last = last_back free (Met c x) third last a back }

  pub full_entry : u.dues.pledge ≡ 0 → (third last : View) → Advances w third (Spent x ∷ []) w.dues → Advances third last (Settled None ∷ []) (unpledged third.dues) → Enters u last x o Full
  full_entry free third last a back = record { acts = Owed ∷ Spent x ∷ Settled None ∷ []; entry = owed_spent; went = went_back free (Spent x) third last a back; last = last_back free (Spent x) third last a back }

-- what a look at one cell told, and an entry after a look that found nothing
pub confirmed_at : (v w : View) (c x : ℕ) (b : Bool) → Advances v w (confirmed_acts c x b) v.dues → Confirmed v w c x b
confirmed_at v w c x true a = a
confirmed_at v w c x false a = then_watch v v w (watched_none v) a

module _ (u v : View) (s : Watched u v) where
  pub pledge_watched : u.dues.pledge ≡ 0 → v.dues.pledge ≡ 0
  pledge_watched free = ap (λ (z : View). z.dues.pledge) s.is ∙ free

  pub origin_watched : (x : ℕ) (o : Origin) → IsOrigin u.world (state_of u.front) x o → IsOrigin v.world (state_of v.front) x o
  origin_watched x o h =
      subst (λ (k : WorldType). IsOrigin k (state_of v.front) x o) (sym (ap (λ (z : View). z.world) s.is)) (origin_stays u.world (state_of u.front) (state_of v.front) x o (watched_stays u v s) h)

  pub watched_entry : (w : View) (x : ℕ) (o : Origin) (answer : Added) → Enters v w x o answer → Enters u w x o answer
  watched_entry w x o answer e = record {
    acts = e.acts;
    entry = e.entry;
    went = subst (λ (d : Dues). Went u w e.acts d) (ap (λ (z : View). entered_dues answer z.dues) s.is) (then_went u v w s e.acts (entered_dues answer v.dues) e.went);
    last = subst (λ (n : ℕ). EndsWith n w.front) (ap (λ (z : View). z.number) s.is) e.last;
  }

pub belongs_watched : (s t : SeatValue) (g : GraphValue) → t.table ≡ s.table → Watched s.view t.view → Belongs s g → Belongs t g
belongs_watched s t g same watched b = record { table = same ∙ b.table; world = ap (λ (z : View). z.world) watched.is ∙ b.world }

-- a word that may be put in is a word of the graph's space
pub word_of_origin : (s : SeatValue) (g : GraphValue) (x : ℕ) (o : Origin) → Belongs s g → IsKnown s.view → IsOrigin s.view.world (state_of s.view.front) x o → x < size g.world.space
word_of_origin s g x o b known cause = subst (λ (w : WorldType). x < size w.space) b.world (origin_word s.view.world s.view.front x o known.world known.legal cause)
