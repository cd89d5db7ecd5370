-- A word that is put in.
use Rattle.std.proofs.Common.{◌≡◌, refl, sym, ap, subst, ◌∙◌, ℕ, List, [], ◌∷◌, ◌++◌, ◌<◌, zero, suc, length, get_or, map, None, All, Contains, arith}
use Rattle.std.proofs.lemmas.List.{append-nil}
use Rattle.std.proofs.lemmas.List.Elements.{All-nil, All-cons, All-get_or, Contains-push}
use Rattle.tensor_words.specs.Reach.{Outnumber}
use Rattle.graph_history.specs.declared.event.Origin.{Origin}
use Rattle.graph_history.specs.declared.event.Origin.TheVariants.{Root}
use Rattle.graph_history.specs.declared.event.Act.TheVariants.{Added as AddedAct, Met, Spent}
use Rattle.graph_history.specs.declared.event.Event.{Event}
use Rattle.graph_history.specs.History.{State, state_of, HasVertex, IsOrigin}
use Rattle.wide_words.specs.declared.spaces.WideCode.{WideCode}
use Rattle.wide_words.specs.WideSpaces.{IsWide, number}
use Rattle.wide_words.specs.WideHistory.{WideWorldType, IsWideWorld, flat, counted}
use Rattle.wide_words.proofs.WideSound.{wide_spent_outnumbers}
use Rattle.wide_rule.specs.Rule.{WideView}
use Rattle.wide_rule.specs.Values.{WideGraphValue, WideSeatValue}
use Rattle.wide_graph.specs.Entries.{Ends}
use Rattle.wide_growth.specs.declared.drawing.OpenVertex.{OpenVertex}
use Rattle.wide_growth.specs.Drawing.{IsVertex, IsReady, GoesOn}
use Rattle.wide_growth.proofs.Going.{goes_by}

module _ (g : WideGraphValue) (a b : WideSeatValue) (ready : IsReady g a) (table : b.table ≡ a.table) (code : WideCode) (o : Origin) where
  -- it is new
  pub entered_new : (c : ℕ) (before after : List OpenVertex) → IsWide g.world.space code → HasVertex (state_of b.view.front) c (number g.world.space code)
      → Ends a.view b.view (AddedAct c (number a.view.world.space code) o) (c ∷ []) → after ≡ before ++ record { cell = c; code = code } ∷ [] → GoesOn a b before after
  entered_new c before after word there e list =
      goes_by a b (AddedAct c (number a.view.world.space code) o ∷ []) e.dues (record { cell = c; code = code } ∷ []) before after list table e.advances e.owed e.idle
      (All-cons (IsVertex a.view.world b.view.front) (record { cell = c; code = code }) []
      (record { word = subst (λ (w : WideWorldType). IsWide w.space code) (sym ready.belongs.world) word; there = subst (λ (w : WideWorldType). HasVertex (state_of b.view.front) c (number w.space code)) (sym ready.belongs.world) there })
      (All-nil (IsVertex a.view.world b.view.front)))

  -- it was there
  pub entered_old : (c : ℕ) (list : List OpenVertex) → Ends a.view b.view (Met c (number a.view.world.space code)) [] → GoesOn a b list list
  entered_old c list e =
      goes_by a b (Met c (number a.view.world.space code) ∷ []) e.dues [] list list (sym (append-nil list)) table e.advances e.owed e.idle (All-nil (IsVertex a.view.world b.view.front))

  -- there was no cell for it
  pub entered_full : Ends a.view b.view (Spent (number a.view.world.space code)) [] → Outnumber (counted g.world)
  entered_full e =
      subst (λ (w : WideWorldType). Outnumber (counted w)) (world ∙ ready.belongs.world) (wide_spent_outnumbers b.view.world b.view.front a.view.number (number a.view.world.space code) e.advances.known.legal event)
    where
      world : b.view.world ≡ a.view.world
      world = ap (λ (v : WideView). v.world) e.advances.is

      event : Contains b.view.front (record { caller = a.view.number; act = Spent (number a.view.world.space code) })
      event = subst (λ (h : List Event). Contains h (record { caller = a.view.number; act = Spent (number a.view.world.space code) })) (sym (ap (λ (v : WideView). v.front) e.advances.is))
          (Contains-push (a.view.front ++ e.advances.between) (record { caller = a.view.number; act = Spent (number a.view.world.space code) }))
