use Rattle.std.proofs.Common.{◌≡◌, ◌∙◌, ap, sym, subst, ℕ, List, [], ◌∷◌, ◌++◌, get_or, All, Contains}
use Rattle.std.proofs.lemmas.List.Elements.{Contains-get_or}
use Rattle.graph_history.specs.declared.event.Event.{Event}
use Rattle.graph_history.specs.declared.view.Dues.{Dues}
use Rattle.graph_history.specs.Views.{View}
use Rattle.graph_history.specs.History.{state_of, IsWhole}
use Rattle.crystal_growers.specs.declared.growth.Grown.{Grown}
use Rattle.crystal_growers.specs.declared.growth.Grown.TheVariants.{Closed}
use Rattle.crystal_growers.specs.Growth.{GrowthEnded}
use Rattle.growth_tests.proofs.tests.growers.grow_full.Goals as goal

-- a closed growth that was given all unpaid cells leaves none
none_left : (v w : View) (cells : List ℕ) (more : List Event) (answer : Grown) → GrowthEnded v w cells more answer → answer ≡ Closed → v.dues.unpaid ≡ cells → (c : ℕ) → Contains w.dues.unpaid c → ⊥
none_left v w cells more answer ended closed given c unpaid =
    let all = (subst (λ (a : Grown). GrowthEnded v w cells more a) closed ended).1 c unpaid in all.1 (subst (λ (l : List ℕ). Contains l c) given all.0)

all_none : (P : ℕ → Type 0) (xs ys : List ℕ) → xs ≡ ys → ((c : ℕ) → Contains ys c → ⊥) → All P xs
all_none P xs ys same none = λ k d below. absurd (none (get_or xs k d) (subst (λ (l : List ℕ). Contains l (get_or xs k d)) same (Contains-get_or xs k d below)))

pub settle-closed-requires-clause-finished : goal.settle-closed-requires-clause-finished
settle-closed-requires-clause-finished g c =
    let new = rw c.in-Some-New.field-0-is at c.in-Some-New.ensures.dues in
    let full = rw c.in-Some-Full.field-0-is at c.in-Some-Full.ensures.dues in
    let old = rw c.in-Some-Old.field-0-is at c.in-Some-Old.ensures.dues in
    let given : c.enter.new.seat.view.dues.unpaid ≡ c.in_ok-cells.cells.items =
    ap (λ (d : Dues). d.unpaid) new ∙ ap (λ (v : View). v.dues.unpaid ++ c.in-Some-New.cell ∷ []) c.requires.new ∙ sym c.in_ok-cells.ensures.items in
    let same : c.enter-3.new.seat.view.dues.unpaid ≡ c.grow.new.seat.view.dues.unpaid = ap (λ (d : Dues). d.unpaid) (old ∙ full) in
    let grown = c.in_ok-grow.ensures.grown in
    let last = c.enter-3.new.seat.view in
    all_none (IsWhole last.world (state_of last.front)) last.dues.unpaid c.grow.new.seat.view.dues.unpaid same
    (none_left c.enter.new.seat.view c.grow.new.seat.view c.in_ok-cells.cells.items grown.more c.in_ok-grow.field-0 grown.ended c.in-Closed.is given)
