-- Arrows of a vertex that are drawn.
use Rattle.std.proofs.Common.{◌≡◌, refl, sym, ap, subst, ◌∙◌, ℕ, ◌<◌, Bool, true, false, is_some, List, [], ◌∷◌, ◌++◌, Option, Some, None, Result, Ok, Err, IfOk, arith}
use Rattle.crystal_cartan.specs.declared.types.Arrow.{Arrow}
use Rattle.tensor_words.specs.Spaces.{size}
use Rattle.tensor_words.specs.Operators.{IsArrow, op}
use Rattle.tensor_words.specs.Laws.{reversed_arrow}
use Rattle.tensor_words.proofs.Strings.{arrows_lead_back}
use Rattle.std.specs.Option.{option_map}
use Rattle.graph_history.specs.declared.event.Event.{Event}
use Rattle.graph_history.specs.History.{State, state_of, HasVertex, HasArrow, IsTarget, IsDrawn}
use Rattle.graph_rule.specs.Layout.{LeadsTo}
use Rattle.graph_rule.proofs.Views.{stays_prefix}
use Rattle.shared_seats.specs.Seats.{IsPrefix}
use Rattle.wide_words.specs.declared.spaces.WideCode.{WideCode}
use Rattle.wide_words.specs.WideSpaces.{WideSpaceType, IsWideSpace, whole, IsWide, number}
use Rattle.wide_words.specs.WideHistory.{WideWorldType, flat, IsWideLegal}
use Rattle.wide_words.proofs.WideCodes.{number_below, factors_whole}
use Rattle.wide_words.proofs.WideSound.{wide_states_are_simple}
use Rattle.wide_rule.specs.Rule.{IsKnown}
use Rattle.wide_rule.specs.Values.{WideGraphValue, WideSeatValue}
use Rattle.wide_growth.specs.declared.drawing.OpenVertex.{OpenVertex}
use Rattle.wide_growth.specs.Drawing.{IsVertex, IsReady, GoesOn, IsArrowDrawn}
use Rattle.wide_growth.proofs.Going.{vertex_later, goes_then}

-- a drawn arrow leads to a word exactly where its operator gives one
leads_by : (w : WideWorldType) (s : State) (a : Arrow) (x y : ℕ) (t : Option ℕ) → x ≡ y → IsTarget (flat w) s a y t → is_some t ≡ is_some (op (whole w.space) a x)
leads_by w s a x y None same aim = sym (ap (λ (n : ℕ). is_some (op (whole w.space) a n)) same ∙ ap is_some aim)
leads_by w s a x y (Some t) same aim = sym (ap (λ (n : ℕ). is_some (op (whole w.space) a n)) same ∙ ap is_some aim.1)

some_same : (x y : ℕ) → Some x ≡ Some y → x ≡ y
some_same x y e = cc

pub leads_seen : (w : WideWorldType) (h : List Event) (v : OpenVertex) (a : Arrow) (t : Option ℕ) → IsWideLegal w h → IsVertex w h v → HasArrow (state_of h) v.cell a t
    → is_some t ≡ is_some (op (whole w.space) a (number w.space v.code))
leads_seen w h v a t legal is drawn =
    let aim = (wide_states_are_simple w h legal).targets v.cell a t drawn in
    leads_by w (state_of h) a (number w.space v.code) aim.0 t (some_same (number w.space v.code) aim.0 (sym is.there ∙ aim.1)) aim.2

-- after a seat went on and then drew the arrow, or saw that it is drawn
pub arrow_drawn : (a b c : WideSeatValue) (xs ys zs : List OpenVertex) (v : OpenVertex) (arrow : Arrow) (t : Option ℕ) (leads : Bool) → GoesOn a b xs ys → GoesOn b c ys zs
    → HasArrow (state_of c.view.front) v.cell arrow t → leads ≡ is_some (op (whole a.view.world.space) arrow (number a.view.world.space v.code)) → IsArrowDrawn a c xs zs v arrow leads
arrow_drawn a b c xs ys zs v arrow t leads g h has counted = record { goes = goes_then a b c xs ys zs g h; drawn = (t, has); counted = counted }

-- what is drawn stays drawn
pub drawn_later : (f h : List Event) (c : ℕ) (a : Arrow) → IsPrefix f h → IsDrawn (state_of f) c a → IsDrawn (state_of h) c a
drawn_later f h c a p drawn = (drawn.0, (stays_prefix f h p).arrows c a drawn.0 drawn.1)

-- the arrow back
pub leads_back : (w : WideWorldType) (s : State) (v : OpenVertex) (code : WideCode) (to : ℕ) (a : Arrow) → IsWideSpace w.space → IsArrow (whole w.space) a → IsWide w.space v.code → IsWide w.space code
    → HasVertex s v.cell (number w.space v.code) → HasVertex s to (number w.space code) → op (whole w.space) a (number w.space v.code) ≡ Some (number w.space code)
    → LeadsTo (flat w) s to (reversed_arrow a) (Some v.cell)
leads_back w s v code to a space arrow from_word to_word from there leads = (
  number w.space code,
  there,
  (
    number w.space v.code,
    (arrows_lead_back (whole w.space) a (number w.space v.code) (number w.space code) (factors_whole w.space space) arrow (number_below w.space space v.code from_word)
        (number_below w.space space code to_word)).0
        leads,
    from,
  ),
)

-- the same facts at the seat's world
there_at : (w x : WideWorldType) (h : List Event) (v : OpenVertex) → x ≡ w → IsVertex w h v → IsVertex x h v
there_at w x h v same is = subst (λ (y : WideWorldType). IsVertex y h v) (sym same) is

pub some_at : (w x : WideWorldType) (a : Arrow) (v : OpenVertex) (b : Bool) → x ≡ w → b ≡ is_some (op (whole w.space) a (number w.space v.code)) → b ≡ is_some (op (whole x.space) a (number x.space v.code))
some_at w x a v b same is = subst (λ (y : WideWorldType). b ≡ is_some (op (whole y.space) a (number y.space v.code))) (sym same) is

-- what a step of a wide space says, for a space and a pair that are the same
pub step_here : (s t : WideSpaceType) (c d : WideCode) (a : Arrow) (r : Option WideCode) → s ≡ t → c ≡ d → option_map (number s) r ≡ op (whole s) a (number s c) → option_map (number t) r ≡ op (whole t) a (number t d)
step_here s t c d a r same code is =
    subst (λ (e : WideCode). option_map (number t) r ≡ op (whole t) a (number t e)) code (subst (λ (u : WideSpaceType). option_map (number u) r ≡ op (whole u) a (number u c)) same is)

-- one vertex, from a seat that is ready
module _ (g : WideGraphValue) (a b : WideSeatValue) (xs ys : List OpenVertex) (ready : IsReady g a) (goes : GoesOn a b xs ys) (v : OpenVertex) (there : IsVertex g.world a.view.front v) (arrow : Arrow) where
  world : b.view.world ≡ g.world
  world = goes.world ∙ ready.belongs.world

  pub vertex_there : IsVertex g.world b.view.front v
  vertex_there = vertex_later g.world a.view.front b.view.front v goes.front there

  -- the arrow to zero
  pub zero_leads : op (whole g.world.space) arrow (number g.world.space v.code) ≡ None → LeadsTo (flat b.view.world) (state_of b.view.front) v.cell arrow None
  zero_leads zero = (
    number g.world.space v.code,
    vertex_there.there,
    subst (λ (w : WideWorldType). op (whole w.space) arrow (number g.world.space v.code) ≡ None) (sym (goes.world ∙ ready.belongs.world)) zero,
  )

  -- an arrow that is drawn already
  pub drawn_already : IsKnown b.view → (t : Option ℕ) → HasArrow (state_of b.view.front) v.cell arrow t → IsArrowDrawn a b xs ys v arrow (is_some t)
  drawn_already known t has = record {
    goes = goes;
    drawn = (t, has);
    counted = some_at b.view.world a.view.world arrow v (is_some t) (sym goes.world)
        (leads_seen b.view.world b.view.front v arrow t known.legal (there_at g.world b.view.world b.view.front v (goes.world ∙ ready.belongs.world) vertex_there) has);
  }

  -- an arrow that was drawn by a further step
  pub drawn_now : (c : WideSeatValue) (t : Option ℕ) (leads : Bool) → GoesOn b c ys ys → HasArrow (state_of c.view.front) v.cell arrow t
      → leads ≡ is_some (op (whole g.world.space) arrow (number g.world.space v.code)) → IsArrowDrawn a c xs ys v arrow leads
  drawn_now c t leads more has counted =
      arrow_drawn a b c xs ys ys v arrow t leads goes more has (some_at g.world a.view.world arrow v leads ready.belongs.world counted)

  -- the word that its operator gives
  module _ (code : WideCode) (word : IsWide g.world.space code) (leads : op (whole g.world.space) arrow (number g.world.space v.code) ≡ Some (number g.world.space code)) (to : ℕ)
      (entered : HasVertex (state_of b.view.front) to (number g.world.space code)) where
    pub word_leads : LeadsTo (flat b.view.world) (state_of b.view.front) v.cell arrow (Some to)
    word_leads = (
      number g.world.space v.code,
      vertex_there.there,
      (
        number g.world.space code,
        subst (λ (w : WideWorldType). op (whole w.space) arrow (number g.world.space v.code) ≡ Some (number g.world.space code)) (sym (goes.world ∙ ready.belongs.world)) leads,
        entered,
      ),
    )

    pub back_leads : (c : WideSeatValue) → GoesOn b c ys ys → IsArrow (whole g.world.space) arrow → LeadsTo (flat c.view.world) (state_of c.view.front) to (reversed_arrow arrow) (Some v.cell)
    back_leads c more is =
        let same : c.view.world ≡ g.world = more.world ∙ goes.world ∙ ready.belongs.world in
        subst (λ (w : WideWorldType). LeadsTo (flat w) (state_of c.view.front) to (reversed_arrow arrow) (Some v.cell)) (sym same)
        (leads_back g.world (state_of c.view.front) v code to arrow (subst (λ (w : WideWorldType). IsWideSpace w.space) same more.known.world.space) is there.word word
        ((vertex_later g.world b.view.front c.view.front v more.front vertex_there).there) ((stays_prefix b.view.front c.view.front more.front).vertices to (number g.world.space code) entered) leads)

-- a step before
pub drawn_before : (a b c : WideSeatValue) (xs ys zs : List OpenVertex) (v : OpenVertex) (arrow : Arrow) (leads : Bool) → GoesOn a b xs ys → IsArrowDrawn b c ys zs v arrow leads → IsArrowDrawn a c xs zs v arrow leads
drawn_before a b c xs ys zs v arrow leads g d = record {
  goes = goes_then a b c xs ys zs g d.goes;
  drawn = d.drawn;
  counted = some_at b.view.world a.view.world arrow v leads (sym g.world) d.counted;
}

-- a step after
pub drawn_after : (a b c : WideSeatValue) (xs ys zs : List OpenVertex) (v : OpenVertex) (arrow : Arrow) (leads : Bool) → IsArrowDrawn a b xs ys v arrow leads → GoesOn b c ys zs → IsArrowDrawn a c xs zs v arrow leads
drawn_after a b c xs ys zs v arrow leads d g = record {
  goes = goes_then a b c xs ys zs d.goes g;
  drawn = drawn_later b.view.front c.view.front v.cell arrow g.front d.drawn;
  counted = d.counted;
}

-- what an Ok has, weakened
pub ok_on : {T E : Type 0} (r : Result T E) (P Q : T → Type 0) → ((x : T) → P x → Q x) → IfOk r P → IfOk r Q
ok_on (Ok x) P Q f p = f x p
ok_on (Err e) P Q f p = tt
