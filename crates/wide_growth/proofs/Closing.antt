-- The end of growth: what is owed are the cells of the vertices, so that they are counted by the lists of growth.
use Rattle.std.proofs.Common.{◌≡◌, refl, sym, ap, ap₂, subst, ◌∙◌, ℕ, zero, suc, ◌+◌, ◌<◌, ◌≤◌, List, [], ◌∷◌, ◌++◌, length, map, sum_by, slice_get, Option, Some, None, All, arith}
use Rattle.std.proofs.lemmas.List.Sums.{sum_by-cons}
use Rattle.std.proofs.lemmas.List.Elements.{All-nil, All-cons, All-head, All-tail, All-weaker}
use Rattle.tensor_words.specs.Reach.{Outnumber}
use Rattle.tensor_words.specs.Spaces.{SpaceType}
use Rattle.graph_history.specs.declared.event.Event.{Event}
use Rattle.graph_history.specs.History.{Vertex, State, state_of, vertex_at, HasVertex, IsClosed}
use Rattle.graph_history.specs.Laws.{HasRoots}
use Rattle.wide_words.specs.WideSpaces.{WideSpaceType, whole, number}
use Rattle.wide_words.specs.WideHistory.{WideWorldType, flat, counted, IsWideLegal}
use Rattle.wide_words.specs.WideCounts.{arrows_at, AreReached}
use Rattle.wide_words.proofs.WideSound.{wide_states_are_simple, wide_closed_fits}
use Rattle.wide_words.proofs.WideCounting.{sum_mapped, wide_closed_is_counted}
use Rattle.wide_rule.specs.Rule.{cells_of}
use Rattle.wide_growth.specs.declared.drawing.OpenVertex.{OpenVertex}
use Rattle.wide_growth.specs.declared.growing.WideGrown.TheVariants.{Closed}
use Rattle.wide_growth.specs.Drawing.{IsVertex, cells_in, arrows_of}
use Rattle.wide_growth.specs.Grown.{IsGrownTo}

-- a sum of ones is the length
ones : {X : Type 0} (xs : List X) → sum_by (λ x. 1) xs ≡ length xs
ones [] = refl
ones (x ∷ xs) = sum_by-cons (λ y. 1) x xs ∙ ap (λ n. 1 + n) (ones xs) ∙ (omega arith)

pub many_cells : (xs : List OpenVertex) (vs : List Vertex) → ((weigh : ℕ → ℕ) → sum_by weigh (cells_in xs) ≡ sum_by weigh (map (λ (v : Vertex). v.cell) vs)) → length xs ≡ length vs
many_cells xs vs weighs =
    sym (ones xs) ∙ sym (sum_mapped (λ n. 1) (λ (v : OpenVertex). v.cell) xs) ∙ weighs (λ n. 1) ∙ sum_mapped (λ n. 1) (λ (v : Vertex). v.cell) vs ∙ ones vs

-- sums of numbers that are the same at each element
same_sums : {X : Type 0} (f g : X → ℕ) (xs : List X) → All (λ x. f x ≡ g x) xs → sum_by f xs ≡ sum_by g xs
same_sums f g [] all = refl
same_sums f g (x ∷ xs) all =
    sum_by-cons f x xs ∙ ap₂ (λ a b. a + b) (All-head (λ y. f y ≡ g y) x xs all) (same_sums f g xs (All-tail (λ y. f y ≡ g y) x xs all)) ∙ sym (sum_by-cons g x xs)

-- the lowering arrows at the vertex of a cell
abbrev found_arrows : SpaceType → Option ℕ → ℕ
found_arrows s None = 0
found_arrows s (Some x) = arrows_at s x

-- all elements have what every place has
all_places : {X : Type 0} (P : X → Type 0) (xs : List X) → ((k : ℕ) (x : X) → slice_get xs k ≡ Some x → P x) → All P xs
all_places P [] at = All-nil P
all_places P (x ∷ xs) at = All-cons P x xs (at zero x refl) (all_places P xs (λ k y is. at (suc k) y is))

-- the arrows of the vertices that growth listed are those of all vertices
pub same_arrows : (w : WideWorldType) (h : List Event) (xs : List OpenVertex) → IsWideLegal w h → All (IsVertex w h) xs
    → ((weigh : ℕ → ℕ) → sum_by weigh (cells_in xs) ≡ sum_by weigh (cells_of (state_of h)))
    → sum_by (arrows_of w.space) xs ≡ sum_by (λ (v : Vertex). arrows_at (whole w.space) v.code) (state_of h).vertices
same_arrows w h xs legal are weighs =
    same_sums (arrows_of w.space) (λ (v : OpenVertex). weigh v.cell) xs (All-weaker (IsVertex w h) (λ (v : OpenVertex). arrows_of w.space v ≡ weigh v.cell) (λ v is. sym (ap (found_arrows (whole w.space)) is.there)) xs are)
    ∙ sym (sum_mapped weigh (λ (v : OpenVertex). v.cell) xs) ∙ weighs weigh ∙ sum_mapped weigh (λ (v : Vertex). v.cell) (state_of h).vertices
    ∙ same_sums (λ (v : Vertex). weigh v.cell) (λ (v : Vertex). arrows_at (whole w.space) v.code) (state_of h).vertices
    (all_places (λ (v : Vertex). weigh v.cell ≡ arrows_at (whole w.space) v.code) (state_of h).vertices
    (λ k v at. ap (found_arrows (whole w.space)) ((wide_states_are_simple w h legal).vertex k v at)))
  where
    weigh : ℕ → ℕ
    weigh c = found_arrows (whole w.space) (vertex_at (state_of h).vertices c)

-- the answer of a closed graph
pub closed_answer : (w : WideWorldType) (h : List Event) (xs : List OpenVertex) (vertices arrows : ℕ) → IsWideLegal w h → IsClosed (flat w) (state_of h) → HasRoots (flat w) (state_of h)
    → All (IsVertex w h) xs → ((weigh : ℕ → ℕ) → sum_by weigh (cells_in xs) ≡ sum_by weigh (cells_of (state_of h)))
    → vertices ≡ length xs → vertices ≤ w.capacity → arrows ≡ sum_by (arrows_of w.space) xs → IsGrownTo w (Closed vertices arrows)
closed_answer w h xs vertices arrows legal closed roots are weighs many few counts = (
  subst (λ (n : ℕ). AreReached (counted w) n arrows) (sym long)
      (subst (λ (n : ℕ). AreReached (counted w) (length (state_of h).vertices) n) (sym (counts ∙ same_arrows w h xs legal are weighs)) (wide_closed_is_counted w h legal closed roots)),
  λ outnumber. let more = (wide_closed_fits w h legal closed roots).0 outnumber in let l = long in absurd (omega arith),
)
  where
    long : vertices ≡ length (state_of h).vertices
    long = many ∙ many_cells xs (state_of h).vertices weighs
