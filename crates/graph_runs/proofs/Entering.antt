-- Roots are put in.
use Rattle.std.proofs.Common.{◌≡◌, refl, sym, subst, ap, ◌∙◌, arith, ℕ, inl, inr, List, [], ◌∷◌, ◌++◌, None, true, false, Contains}
use Rattle.std.proofs.lemmas.List.Elements.{Contains-append_right, Contains-push_cases}
use Rattle.tensor_words.specs.Worlds.{WorldType}
use Rattle.graph_history.specs.declared.event.Origin.TheVariants.{Root}
use Rattle.graph_history.specs.declared.event.Act.{Act}
use Rattle.graph_history.specs.declared.event.Act.TheVariants.{Spent, Owed, Settled}
use Rattle.graph_history.specs.declared.event.Event.{Event}
use Rattle.graph_history.specs.declared.answer.Added.{Added}
use Rattle.graph_history.specs.declared.answer.Added.TheVariants.{Full}
use Rattle.graph_history.specs.Views.{View}
use Rattle.graph_history.specs.History.{state_of, HasCode, HasVertex}
use Rattle.graph_history.specs.Desks.{by, IsEntry, spent, owed_spent, unpaid_after}
use Rattle.graph_history.proofs.Histories.{stays_append}
use Rattle.graph_history.proofs.OwnActs.{own_at}
use Rattle.graph_history.proofs.DeskSteps.{entry_unpaid}
use Rattle.graph_rule.specs.Values.{SeatValue}
use Rattle.table_calls.specs.Entries.{Enters}
use Rattle.shared_desk.specs.SharedDesks.{Worked}
use Rattle.shared_desk.proofs.SharedSteps.{worked_then, worked_entry, unpaid_entry}
use Rattle.graph_runs.specs.Runs.{HasSpent}
use Rattle.graph_runs.specs.Ending.{IsEntering, HasEnteredRoots}

-- a vertex stays
pub code_stays : (v w : SeatValue) (acts : List Act) (x : ℕ) → Worked v w acts → HasCode (state_of v.view.front) x → HasCode (state_of w.view.front) x
code_stays v w acts x p (c, there) =
    (c, subst (λ (h : List Event). HasVertex (state_of h) c x) (sym (ap (λ (u : View). u.front) p.went.is)) ((stays_append v.view.front p.went.more).vertices c x there))

module _ (old mid new : SeatValue) (before cells longer roots more : List ℕ) (root : ℕ) (answer : Added) (s : IsEntering old mid before cells roots) (table : new.table ≡ mid.table)
    (e : Enters mid.view new.view root Root answer) where
  step : Worked mid new e.acts
  step = worked_entry mid new root Root answer e table s.worked.pledge

  -- one more root was put in, or was there
  pub entering_on : more ≡ roots ++ root ∷ [] → HasCode (state_of new.view.front) root → longer ≡ unpaid_after answer cells → IsEntering old new before longer more
  entering_on pushed there noted = record {
    acts = s.acts ++ e.acts;
    worked = worked_then old mid new s.acts e.acts s.worked step;
    unpaid = λ same. unpaid_entry mid new root Root answer e ∙ entry_unpaid mid.view.dues.unpaid root Root answer e.acts e.entry ∙ ap (unpaid_after answer) (s.unpaid same) ∙ sym noted;
    there = λ x at. elim (Contains-push_cases roots root x (subst (λ (l : List ℕ). Contains l x) pushed at)) [
      | inl earlier ↦ code_stays mid new e.acts x step (s.there x earlier)
      | inr here ↦ subst (λ (y : ℕ). HasCode (state_of new.view.front) y) here there
    ];
  }

  spent_in : (xs : List Act) (ys : List Act) → e.acts ≡ xs ++ Spent root ∷ ys → HasSpent new.view.front
  spent_in xs ys is =
      let n = mid.view.number in
      let at = own_at n e.went.more xs (Spent root) ys (e.went.own ∙ ap (by n) is) in
      let split : new.view.front ≡ mid.view.front ++ (at.front ++ record { caller = n; act = Spent root } ∷ at.rest) =
      ap (λ (u : View). u.front) e.went.is ∙ ap (λ (l : List Event). mid.view.front ++ l) at.is in (
        n,
        root,
        subst (λ (h : List Event). Contains h (record { caller = n; act = Spent root })) (sym split)
            (Contains-append_right mid.view.front (at.front ++ record { caller = n; act = Spent root } ∷ at.rest) (record { caller = n; act = Spent root })
            (Contains-append_right at.front (record { caller = n; act = Spent root } ∷ at.rest) (record { caller = n; act = Spent root }) (0, omega arith, refl))),
      )

  spent_by : (acts : List Act) → IsEntry root Root Full acts → e.acts ≡ acts → HasSpent new.view.front
  spent_by acts spent is = spent_in [] [] is
  spent_by acts owed_spent is = spent_in (Owed ∷ []) (Settled None ∷ []) is

  -- one root found no cell
  pub entered_full : (w : WorldType) → answer ≡ Full → HasEnteredRoots w old new before longer false
  entered_full w full = record {
    acts = s.acts ++ e.acts;
    worked = worked_then old mid new s.acts e.acts s.worked step;
    unpaid = λ clash same. absurd (cc);
    there = spent_by e.acts (subst (λ (a : Added). IsEntry root Root a e.acts) full e.entry) refl;
  }

pub entered_all : (w : WorldType) (old new : SeatValue) (before cells roots : List ℕ) → w.roots ≡ roots → IsEntering old new before cells roots → HasEnteredRoots w old new before cells true
entered_all w old new before cells roots is s = record {
  acts = s.acts;
  worked = s.worked;
  unpaid = λ all same. s.unpaid same;
  there = λ x at. s.there x (subst (λ (l : List ℕ). Contains l x) is at);
}
