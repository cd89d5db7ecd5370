-- Slips by their cells.
use Rattle.std.proofs.Common.{◌≡◌, refl, sym, subst, ℕ, ◌<◌, ◌⊎◌, inl, inr, nat_eq, Bool, true, false, cond, List, [], ◌∷◌, ◌++◌, Contains, arith}
use Rattle.std.specs.Set.{is_member}
use Rattle.std.proofs.lemmas.Bool.{cond-true, cond-false}
use Rattle.std.proofs.lemmas.List.Elements.{Contains-append_left, Contains-append_right, Contains-append_cases}
use Rattle.list_facts.proofs.Lists.{nothing_in, in_first, in_cons}
use Rattle.graph_history.proofs.CellLists.{into, out_of}
use Rattle.parcel_deques.specs.declared.parcel.Slip.{Slip}
use Rattle.parcel_deques.specs.Lists.{weigh, SameItems}
use Rattle.crystal_growers.specs.Slips.{HasCell}

pub no_cell : (c : ℕ) → HasCell [] c → ⊥
no_cell c (x, there, has) = nothing_in x there

pub in_one : (x : Slip) (c : ℕ) → Contains x.cells c → HasCell (x ∷ []) c
in_one x c has = (x, in_first x [], has)

pub cell_front : (xs ys : List Slip) (c : ℕ) → HasCell xs c → HasCell (xs ++ ys) c
cell_front xs ys c (x, there, has) = (x, Contains-append_left xs ys x there, has)

pub cell_back : (xs ys : List Slip) (c : ℕ) → HasCell ys c → HasCell (xs ++ ys) c
cell_back xs ys c (x, there, has) = (x, Contains-append_right xs ys x there, has)

pub cell_or : (xs ys : List Slip) (c : ℕ) → HasCell (xs ++ ys) c → HasCell xs c ⊎ HasCell ys c
cell_or xs ys c (x, there, has) = elim (Contains-append_cases xs ys x there) [ inl l ↦ inl (x, l, has) | inr r ↦ inr (x, r, has) ]

pub one_cell : (x : Slip) (c : ℕ) → HasCell (x ∷ []) c → Contains x.cells c
one_cell x c (y, there, has) = elim (in_cons x [] y there) [ inl e ↦ subst (λ (z : Slip). Contains z.cells c) (sym e) has | inr none ↦ absurd (nothing_in y none) ]

-- a cell stands in some slip where it weighs
abbrev weight : ℕ → Slip → ℕ
weight c x = cond (is_member nat_eq x.cells c) 1 0

cell_weighs : (xs : List Slip) (c : ℕ) → HasCell xs c → 0 < weigh (weight c) xs
cell_weighs [] c h = absurd (no_cell c h)
cell_weighs (y ∷ ys) c (x, there, has) = by (in_cons y ys x there) (λ rest. cell_weighs ys c (x, rest, has))
  where
    by : (y ≡ x) ⊎ Contains ys x → (Contains ys x → 0 < weigh (weight c) ys) → 0 < weigh (weight c) (y ∷ ys)
    by (inl e) later = let one : weight c y ≡ 1 = cond-true (is_member nat_eq y.cells c) 1 0 (into y.cells c (subst (λ (z : Slip). Contains z.cells c) (sym e) has)) in omega arith
    by (inr rest) later = let more = later rest in omega arith

weighs_cell : (xs : List Slip) (c : ℕ) → 0 < weigh (weight c) xs → HasCell xs c
weighs_cell [] c some = absurd (omega arith)
weighs_cell (y ∷ ys) c some = by (is_member nat_eq y.cells c) refl (weighs_cell ys c)
  where
    by : (b : Bool) → is_member nat_eq y.cells c ≡ b → (0 < weigh (weight c) ys → HasCell ys c) → HasCell (y ∷ ys) c
    by true is rest = (y, in_first y ys, out_of y.cells c is)
    by false is rest = let none : weight c y ≡ 0 = cond-false (is_member nat_eq y.cells c) 1 0 is in cell_back (y ∷ []) ys c (rest (omega arith))

pub same_cells : (xs ys : List Slip) (c : ℕ) → SameItems xs ys → HasCell xs c → HasCell ys c
same_cells xs ys c same h = let some = cell_weighs xs c h in let e = same (weight c) in weighs_cell ys c (omega arith)
