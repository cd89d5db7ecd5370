-- The unpaid cells behind acts that pay for none: those before, and what the acts put in.
use Rattle.std.proofs.Common.{◌≡◌, refl, sym, ◌∙◌, ap, ℕ, List, [], ◌∷◌, ◌++◌, Some, append-nil, append_assoc}
use Rattle.crystal_cartan.specs.declared.types.Arrow.{Arrow}
use Rattle.tensor_words.specs.Spaces.{SpaceType}
use Rattle.graph_history.specs.declared.event.Origin.{Origin}
use Rattle.graph_history.specs.declared.event.Origin.TheVariants.{By}
use Rattle.graph_history.specs.declared.event.Act.{Act}
use Rattle.graph_history.specs.declared.event.Act.TheVariants.{Drew, Saw}
use Rattle.graph_history.specs.declared.answer.Added.{Added}
use Rattle.graph_history.specs.declared.answer.Added.TheVariants.{Full}
use Rattle.graph_history.specs.declared.answer.Draw.{Draw}
use Rattle.graph_history.specs.Desks.{unpaid_by, IsEntry, Draws, met, spent, added, owed_met, owed_spent, saw_zero, saw, drew_zero, entered_drew, entered_saw, full, added_cells}
use Rattle.graph_history.proofs.DeskSteps.{unpaid_by-append}
use Rattle.graph_history.proofs.Growing.{added_cells-append}

abbrev pub Owes : List Act → Type 0
Owes acts = (cells : List ℕ) → unpaid_by cells acts ≡ cells ++ added_cells acts

-- nothing more
pub nothing_more : (cells : List ℕ) → cells ≡ cells ++ []
nothing_more cells = sym (append-nil cells)

pub unpaid_on : (old mid new : List ℕ) (xs ys : List Act) → mid ≡ old ++ added_cells xs → new ≡ mid ++ added_cells ys → new ≡ old ++ added_cells (xs ++ ys)
unpaid_on old mid new xs ys first then =
    then ∙ ap (λ (cells : List ℕ). cells ++ added_cells ys) first ∙ append_assoc old (added_cells xs) (added_cells ys)
    ∙ ap (λ (cells : List ℕ). old ++ cells) (sym (added_cells-append xs ys))

owes_then : (xs ys : List Act) → Owes xs → Owes ys → Owes (xs ++ ys)
owes_then xs ys p q cells =
    unpaid_on cells (unpaid_by cells xs) (unpaid_by cells (xs ++ ys)) xs ys (p cells) (unpaid_by-append cells xs ys ∙ q (unpaid_by cells xs))

pub entry_owes : (x : ℕ) (o : Origin) (answer : Added) (acts : List Act) → IsEntry x o answer acts → Owes acts
entry_owes x o answer acts (met c) cells = nothing_more cells
entry_owes x o answer acts spent cells = nothing_more cells
entry_owes x o answer acts (added c) cells = refl
entry_owes x o answer acts (owed_met c) cells = nothing_more cells
entry_owes x o answer acts owed_spent cells = nothing_more cells

pub draws_owes : (s : SpaceType) (c : ℕ) (a : Arrow) (y : ℕ) (answer : Draw) (acts : List Act) → Draws s c a y answer acts → Owes acts
draws_owes s c a y answer acts saw_zero cells = nothing_more cells
draws_owes s c a y answer acts (saw t) cells = nothing_more cells
draws_owes s c a y answer acts (drew_zero e) cells = nothing_more cells
draws_owes s c a y answer acts (entered_drew t x r entry e at is) cells = owes_then entry (Drew c a (Some t) ∷ []) (entry_owes x (By c a) r entry is) nothing_more cells
draws_owes s c a y answer acts (entered_saw t x r entry e at is) cells = owes_then entry (Saw c a (Some t) ∷ []) (entry_owes x (By c a) r entry is) nothing_more cells
draws_owes s c a y answer acts (full x entry e is) cells = entry_owes x (By c a) Full entry is cells
