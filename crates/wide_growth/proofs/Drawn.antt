-- Vertices whose arrows are drawn one after another.
use Rattle.std.proofs.Common.{◌≡◌, refl, sym, ap, ap₂, subst, ◌∙◌, ℕ, ◌+◌, ◌*◌, ◌<◌, ◌≤◌, ◌⊎◌, inl, inr, Bool, true, false, List, [], ◌∷◌, ◌++◌, length, take, get_or, sum_by, map, All, arith}
use Rattle.std.proofs.lemmas.Bool.{cases_lt}
use Rattle.std.proofs.lemmas.List.{take_all}
use Rattle.std.proofs.lemmas.List.Sums.{sum_by_more}
use Rattle.std.proofs.lemmas.List.Elements.{All-nil, All-more, All-weaker}
use Rattle.crystal_cartan.specs.declared.types.Arrow.{Arrow}
use Rattle.tensor_words.specs.Operators.{IsArrow}
use Rattle.graph_history.specs.declared.event.Event.{Event}
use Rattle.graph_history.specs.History.{state_of, HasCode, IsDrawn, IsWhole}
use Rattle.graph_rule.proofs.Views.{stays_prefix}
use Rattle.shared_seats.specs.Seats.{IsPrefix}
use Rattle.wide_words.specs.declared.spaces.WideCode.{WideCode}
use Rattle.wide_words.specs.WideSpaces.{WideSpaceType, whole, number}
use Rattle.wide_words.specs.WideHistory.{WideWorldType, flat}
use Rattle.wide_rule.specs.Values.{WideGraphValue, WideSeatValue}
use Rattle.wide_growth.specs.declared.drawing.OpenVertex.{OpenVertex}
use Rattle.wide_growth.specs.Drawing.{arrows_of, AreWhole, IsReady, GoesOn}
use Rattle.wide_growth.specs.Rounds.{HasDrawn}
use Rattle.wide_growth.proofs.Going.{all_whole_later}
use Rattle.wide_growth.proofs.Arrows.{drawn_later}

-- roots that are put in
abbrev pub IsIn : WideSpaceType → List Event → WideCode → Type 0
IsIn s h root = HasCode (state_of h) (number s root)

pub in_later : (s : WideSpaceType) (f h : List Event) (roots : List WideCode) → IsPrefix f h → All (IsIn s f) roots → All (IsIn s h) roots
in_later s f h roots p all = All-weaker (IsIn s f) (IsIn s h) (λ root is. (is.0, (stays_prefix f h p).vertices is.0 (number s root) is.1)) roots all

-- the arrows of the first indices are drawn, both ways
abbrev pub AreDrawnTo : List Event → ℕ → ℕ → Type 0
AreDrawnTo h c n = (i : ℕ) → 1 ≤ i → i ≤ n → (down : Bool) → IsDrawn (state_of h) c (record { down = down; index = i })

pub drawn_none : (h : List Event) (c : ℕ) → AreDrawnTo h c 0
drawn_none h c i low high down = absurd (omega arith)

pub drawn_more : (f h : List Event) (c n : ℕ) → IsPrefix f h → AreDrawnTo f c n → IsDrawn (state_of h) c (record { down = true; index = n + 1 })
    → IsDrawn (state_of h) c (record { down = false; index = n + 1 }) → AreDrawnTo h c (n + 1)
drawn_more f h c n p before lower raise i low high down = elim (cases_lt i (n + 1)) [
  | inl below ↦ drawn_later f h c (record { down = down; index = i }) p (before i low (omega arith) down)
  | inr at ↦ let same : n + 1 ≡ i = omega arith in subst (λ (k : ℕ). IsDrawn (state_of h) c (record { down = down; index = k })) same (either down)
]
  where
    either : (b : Bool) → IsDrawn (state_of h) c (record { down = b; index = n + 1 })
    either true = lower
    either false = raise

pub drawn_whole : (w : WideWorldType) (h : List Event) (c n : ℕ) → n ≡ w.space.high.cartan.rank → AreDrawnTo h c n → IsWhole (flat w) (state_of h) c
drawn_whole w h c n rank all a is = let low = is.index.low in let high = is.index.high in all a.index (omega arith) (omega arith) a.down

-- one vertex more is whole, and its arrows are counted
pub all_more : (w : WideWorldType) (f h : List Event) (vs : List OpenVertex) (k : ℕ) (d : OpenVertex) → IsPrefix f h → k < length vs → AreWhole w f (take k vs) → IsWhole (flat w) (state_of h) (get_or vs k d).cell
    → AreWhole w h (take (k + 1) vs)
all_more w f h vs k d p below before whole =
    All-more (λ (v : OpenVertex). IsWhole (flat w) (state_of h) v.cell) vs k d below (all_whole_later w f h (take k vs) p before) whole

pub count_more : (s : WideSpaceType) (vs : List OpenVertex) (k a b : ℕ) (d : OpenVertex) → k < length vs → a ≡ sum_by (arrows_of s) (take k vs) → b ≡ arrows_of s (get_or vs k d) → a + b ≡ sum_by (arrows_of s) (take (k + 1) vs)
count_more s vs k a b d below before more = ap₂ (λ x y. x + y) before more ∙ sym (sum_by_more (arrows_of s) vs k d below)

-- all are drawn
pub has_drawn : (g : WideGraphValue) (old now : WideSeatValue) (vs before after : List OpenVertex) (k arrows : ℕ) → IsReady g old → GoesOn old now before after → length vs ≤ k → AreWhole g.world now.view.front (take k vs)
    → arrows ≡ sum_by (arrows_of g.world.space) (take k vs) → HasDrawn old now vs before after arrows
has_drawn g old now vs before after k arrows ready goes all drawn counted = record {
  goes = goes;
  drawn = subst (λ (w : WideWorldType). AreWhole w now.view.front vs) (sym ready.belongs.world) (subst (λ (l : List OpenVertex). AreWhole g.world now.view.front l) (take_all k vs all) drawn);
  counted = subst (λ (w : WideWorldType). arrows ≡ sum_by (arrows_of w.space) vs) (sym ready.belongs.world)
      (subst (λ (l : List OpenVertex). arrows ≡ sum_by (arrows_of g.world.space) l) (take_all k vs all) counted);
}
