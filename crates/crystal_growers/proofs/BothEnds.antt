-- An arrow on the shared table that is drawn from both of its ends.
use Rattle.std.proofs.Common.{◌≡◌, refl, sym, subst, ℕ, ◌<◌, ◌⊎◌, Bool, Some, Ok, Err}
use Rattle.crystal_cartan.specs.declared.types.Arrow.{Arrow}
use Rattle.tensor_words.specs.Spaces.{SpaceType, size}
use Rattle.tensor_words.specs.Operators.{IsArrow, op}
use Rattle.tensor_words.specs.Worlds.{WorldType}
use Rattle.tensor_words.specs.Laws.{reversed_arrow}
use Rattle.tensor_words.proofs.KeptWords.{factors_of_space}
use Rattle.tensor_words.proofs.Strings.{arrows_lead_back}
use Rattle.graph_history.specs.declared.event.Origin.TheVariants.{By}
use Rattle.graph_history.specs.declared.answer.Added.{Added as AddedAnswer}
use Rattle.graph_history.specs.declared.answer.Added.TheVariants.{New, Old, Full}
use Rattle.graph_history.specs.declared.answer.Draw.TheVariants.{To as DrawsTo, Full as DrawsFull}
use Rattle.graph_history.specs.History.{state_of, HasVertex}
use Rattle.graph_history.specs.Desks.{Does}
use Rattle.graph_rule.specs.Layout.{LeadsTo}
use Rattle.graph_rule.specs.Rule.{IsKnown}
use Rattle.graph_rule.specs.Told.{drawn_acts}
use Rattle.shared_desk.specs.SharedDesks.{DeskValue, standing_of, Entered}
use Rattle.crystal_growers.specs.Expansion.{ArrowDrawn}
use Rattle.shared_desk.proofs.SharedSteps.{drawn_quiet}
use Rattle.shared_desk.proofs.Drawings.{vertex_goes, there_in, drawing_entered, drawing_full, word_fits}
use Rattle.crystal_growers.proofs.ExpandSteps.{arrow_drawn, arrow_full, step_run, before_step, drawn_growth}

module _ (old mid : DeskValue) (c x y : ℕ) (a : Arrow) (r : AddedAnswer) (e : Entered old mid x (By c a) r) (there : HasVertex (state_of old.seat.view.front) c y)
    (arrow : IsArrow old.seat.view.world.space a) (leads : op old.seat.view.world.space a y ≡ Some x) where
  -- the word was put in, and the arrow to its cell drawn
  module _ (now : DeskValue) (t : ℕ) (b : Bool) (is : (r ≡ New t) ⊎ (r ≡ Old t)) (d : Does (standing_of mid) (standing_of now) 0 (drawn_acts c a (Some t) b)) where
    drawn_there : ArrowDrawn (standing_of old) (standing_of now) c y a (Ok tt)
    drawn_there =
        arrow_drawn (standing_of old) (standing_of now) c y a (DrawsTo t) there arrow (drawing_entered old mid c x y a r e there leads now t b is d) (λ full. cc)

    pub arrow_back : IsArrow now.seat.view.world.space (reversed_arrow a)
    arrow_back = record { index = (subst (λ (w : WorldType). IsArrow w.space a) (sym drawn_there.run.goes.world) arrow).index }

    -- the arrow leads back
    pub leads_back : IsKnown now.seat.view → LeadsTo now.seat.view.world (state_of now.seat.view.front) t (reversed_arrow a) (Some c)
    leads_back known =
        let to : HasVertex (state_of now.seat.view.front) t x = vertex_goes (standing_of mid) (standing_of now) 0 t x (drawn_acts c a (Some t) b) d.goes (there_in old mid c x y a r e there leads t is) in
        let from : HasVertex (state_of now.seat.view.front) c y = vertex_goes (standing_of old) (standing_of now) 1 c y drawn_there.acts drawn_there.run.goes there in
        let s : SpaceType = now.seat.view.world.space in
        let at : op s a y ≡ Some x = subst (λ (w : WorldType). op w.space a y ≡ Some x) (sym drawn_there.run.goes.world) leads in
        let fits : IsArrow s a = record { index = arrow_back.index } in
        let low : y < size s = word_fits now.seat.view.world now.seat.view.front c y known.legal from in
        let below : x < size s = word_fits now.seat.view.world now.seat.view.front t x known.legal to in
        (x, to, (y, (arrows_lead_back s a y x (factors_of_space s known.world.space) fits low below).0 at, from))

    -- it was drawn, and nothing else
    pub both_drawn : (new : DeskValue) (k : Bool) → Does (standing_of now) (standing_of new) 0 (drawn_acts t (reversed_arrow a) (Some c) k) → ArrowDrawn (standing_of old) (standing_of new) c y a (Ok tt)
    both_drawn new k back =
        before_step (standing_of old) (standing_of now) (standing_of new) c y a (drawn_acts t (reversed_arrow a) (Some c) k) drawn_there
        (step_run (standing_of now) (standing_of new) c y (drawn_acts t (reversed_arrow a) (Some c) k) back (drawn_growth now.seat.view.world.space c y t (reversed_arrow a) (Some c) k) (drawn_quiet t (reversed_arrow a) (Some c) k))

  -- there was no cell for it
  pub none_drawn : r ≡ Full → ArrowDrawn (standing_of old) (standing_of mid) c y a (Err (record { code = x }))
  none_drawn is =
      arrow_full (standing_of old) (standing_of mid) c y a DrawsFull there arrow (drawing_full old mid c x y a r e there leads is) refl mid.seat.view.world.space refl x
      (subst (λ (w : WorldType). op w.space a y ≡ Some x) (sym e.does.goes.world) leads)
