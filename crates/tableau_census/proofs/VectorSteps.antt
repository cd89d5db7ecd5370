-- An index of type A acts on digits as a swap of two neighbouring digits.
use Rattle.std.proofs.Common.{◌≡◌, ◌∙◌, refl, sym, ap, subst, ℕ, zero, suc, ◌+◌, ◌≤◌, ◌<◌, ◌==◌, ◌&&◌, if◌then◌else◌, nat_eq, Bool, true, false, List, [], ◌∷◌, map, replicate, pos, Option, Some, None, inl, inr, arith}
use Rattle.std.specs.List.{position_or_len}
use Rattle.std.specs.Prelude.{slice_index_or}
use Rattle.std.specs.Option.{option_eq}
use Rattle.std.specs.Ordering.{int_eq}
use Rattle.std.proofs.lemmas.Bool.{cases_eq, eqb-true}
use Rattle.std.proofs.lemmas.Bool.Decides.{nat_tests}
use Rattle.list_facts.proofs.Truth.{first_true, second_true}
use Rattle.crystal_cartan.specs.Types.{CartanType, IsCartan}
use Rattle.crystal_cartan.specs.Crystals.{Action, edge_action, carried}
use Rattle.crystal_cartan.specs.declared.types.Kind.{Kind}
use Rattle.crystal_cartan.specs.declared.types.Kind.TheVariants.{A}
use Rattle.vector_crystals.specs.Letters.{letters_of, letters, letter_count, letter_count_of}
use Rattle.vector_crystals.specs.VectorCrystals.{vector_edges_of, vector_edges, letter_action, digit_action}
use Rattle.vector_crystals.proofs.Tables.{all_below, below_at}
use Rattle.tensor_words.specs.declared.spaces.Factor.TheVariants.{Vector}
use Rattle.tensor_words.specs.Spaces.{base_size, base_action}
use Rattle.tensor_words.specs.Codes.{AreDigits, IsWord}
use Rattle.tensor_words.specs.TensorRule.{factor_actions}
use Rattle.tableau_reading.specs.Shapes.{ShapeType, IsShape, box_count, shape_space}
use Rattle.tableau_census.proofs.OpenPlaces.{IsSwap, AreSwaps}

-- how an index acts on digits in type A of a rank
abbrev acts : ℕ → ℕ → Action ℕ
acts r i = carried (λ d. slice_index_or (letters_of A r) d (pos 0)) (λ x. position_or_len (λ y. int_eq y x) (letters_of A r)) (edge_action int_eq (vector_edges_of A r) i)

-- the digit to which d is taken, if it is the one that is changed
abbrev taken : ℕ → ℕ → ℕ → Option ℕ
taken d from to = if d == from then Some to else None

abbrev swap_counts : ℕ → ℕ → ℕ → Bool
swap_counts r a d = ((acts r (a + 1)).phi d == (if d == a then 1 else 0)) && ((acts r (a + 1)).eps d == (if d == a + 1 then 1 else 0))

abbrev swap_moves : ℕ → ℕ → ℕ → Bool
swap_moves r a d = option_eq nat_eq ((acts r (a + 1)).lower d) (taken d a (a + 1)) && option_eq nat_eq ((acts r (a + 1)).raise d) (taken d (a + 1) a)

abbrev swap_cell : ℕ → ℕ → ℕ → Bool
swap_cell r a d = swap_counts r a d && swap_moves r a d

abbrev swap_row : ℕ → ℕ → Bool
swap_row r a = all_below (r + 1) (swap_cell r a)

abbrev swap_table : ℕ → Bool
swap_table r = all_below r (swap_row r)

swap_tables : all_below 9 swap_table ≡ true
swap_tables = refl

swap_at : (r a d : ℕ) → r ≤ 8 → a < r → d < r + 1 → swap_cell r a d ≡ true
swap_at r a d high index lt =
    let table : swap_table r ≡ true = below_at 9 swap_table swap_tables r (omega arith) in
    let row : swap_row r a ≡ true = below_at r (swap_row r) table a index in
    below_at (r + 1) (swap_cell r a) row d lt

same_option : (o p : Option ℕ) → option_eq nat_eq o p ≡ true → o ≡ p
same_option None None h = refl
same_option None (Some y) h = cc
same_option (Some x) None h = cc
same_option (Some x) (Some y) h = ap Some (eqb-true x y h)

-- what a digit is taken to, by the test
taken_some : (o : Option ℕ) (d from to y : ℕ) → o ≡ taken d from to → o ≡ Some y → (d ≡ from) × (y ≡ to)
taken_some o d from to y is made = elim (cases_eq d from) [
  | inl same ↦
      let test : (d == from) ≡ true = grind (arith, nat_tests) in
      let value : o ≡ Some to = is ∙ rw test refl in
      let equal : y ≡ to = cc in
      (same, equal)
  | inr other ↦
      let test : (d == from) ≡ false = grind (arith, nat_tests) in
      let value : o ≡ None = is ∙ rw test refl in
      cc
]

one_if : (n d e : ℕ) → n ≡ (if d == e then 1 else 0) → d ≡ e → n ≡ 1
one_if n d e is same = let test : (d == e) ≡ true = grind (arith, nat_tests) in is ∙ rw test refl

none_if : (n d e : ℕ) → n ≡ (if d == e then 1 else 0) → (d ≡ e → ⊥) → n ≡ 0
none_if n d e is other = let test : (d == e) ≡ false = grind (arith, nat_tests) in is ∙ rw test refl

swap_from_cell : (r a d : ℕ) → swap_cell r a d ≡ true → IsSwap (acts r (a + 1)) a d
swap_from_cell r a d cell =
    let counts : swap_counts r a d ≡ true = first_true (swap_counts r a d) (swap_moves r a d) cell in
    let moves : swap_moves r a d ≡ true = second_true (swap_counts r a d) (swap_moves r a d) cell in
    let phi : (acts r (a + 1)).phi d ≡ (if d == a then 1 else 0) = eqb-true _ _ (first_true _ _ counts) in
    let eps : (acts r (a + 1)).eps d ≡ (if d == a + 1 then 1 else 0) = eqb-true _ _ (second_true ((acts r (a + 1)).phi d == (if d == a then 1 else 0)) _ counts) in
    let lower : (acts r (a + 1)).lower d ≡ taken d a (a + 1) = same_option _ _ (first_true _ _ moves) in
    let raise : (acts r (a + 1)).raise d ≡ taken d (a + 1) a = same_option _ _ (second_true (option_eq nat_eq ((acts r (a + 1)).lower d) (taken d a (a + 1))) _ moves) in
    record {
      phi_here = one_if ((acts r (a + 1)).phi d) d a phi;
      phi_else = none_if ((acts r (a + 1)).phi d) d a phi;
      eps_here = one_if ((acts r (a + 1)).eps d) d (a + 1) eps;
      eps_else = none_if ((acts r (a + 1)).eps d) d (a + 1) eps;
      lowered = λ y made. taken_some ((acts r (a + 1)).lower d) d a (a + 1) y lower made;
      raised = λ y made. taken_some ((acts r (a + 1)).raise d) d (a + 1) a y raise made;
    }

vector_step : (t : CartanType) (a d : ℕ) → IsCartan t → t.kind ≡ A → a < t.rank → d < letter_count t → IsSwap (base_action t (a + 1) Vector) a d
unfolding base_action digit_action letter_action vector_edges letters
vector_step t a d c kind index lt =
    let few : d < t.rank + 1 = subst (λ k. d < letter_count_of k t.rank) kind lt in
    let of_type : Kind → CartanType = λ k. record { kind = k; rank = t.rank } in
    subst (λ k. IsSwap (base_action (of_type k) (a + 1) Vector) a d) (sym kind) (swap_from_cell t.rank a d (swap_at t.rank a d c.high index few))

vector_steps : (t : CartanType) (a n : ℕ) (w : List ℕ) → IsCartan t → t.kind ≡ A → a < t.rank → AreDigits (map (base_size t) (replicate n Vector)) w
    → AreSwaps a (map (base_action t (a + 1)) (replicate n Vector)) w
unfolding base_size
vector_steps t a zero [] c kind index digits = tt
vector_steps t a zero (d ∷ w) c kind index digits = digits
vector_steps t a (suc n) [] c kind index digits = digits
vector_steps t a (suc n) (d ∷ w) c kind index digits = (vector_step t a d c kind index digits.0, vector_steps t a n w c kind index digits.1)

pub word_steps : (s : ShapeType) (a : ℕ) (w : List ℕ) → IsShape s → s.cartan.kind ≡ A → a < s.cartan.rank → IsWord (shape_space s) w → AreSwaps a (factor_actions (shape_space s) (a + 1)) w
word_steps s a w h kind index word = vector_steps s.cartan a (box_count s) w h.cartan kind index word
