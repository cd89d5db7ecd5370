-- A weight and its reflection have the same multiplicity.
use Rattle.std.proofs.Common.{◌≡◌, ◌∙◌, sym, refl, ap, ℕ, suc, ◌+◌, ◌-◌, ◌≤◌, ◌<◌, ◌==◌, nat_lt, if◌then◌else◌, Bool, true, false, List, length, unwrap_or, ℤ, pos, negsuc, neg_ℤ, ◌+ℤ◌, ◌-ℤ◌, ◌*ℤ◌, arith}
use Rattle.std.proofs.lemmas.Int.{ints}
use Rattle.std.proofs.lemmas.Bool.Decides.{nat_tests}
use Rattle.std.proofs.lemmas.List.Elements.{All-contains}
use Rattle.crystal_cartan.specs.Types.{CartanType, IsCartan, HasIndex, coordinates, coordinates_of, least_rank}
use Rattle.crystal_cartan.specs.declared.types.Kind.{Kind}
use Rattle.crystal_cartan.specs.declared.types.Kind.TheVariants.{A, B, C, D}
use Rattle.crystal_cartan.specs.Weights.{coordinate, unit_at, step_root_at, last_root_at, root_at, twice_pairing, last_twice_pairing, reflection, IsWeight}
use Rattle.crystal_cartan.proofs.Coordinates.{length-weight_from, coordinate-weight_from, weight_by_coordinates, rank_within}
use Rattle.tensor_words.specs.Spaces.{size}
use Rattle.canonical_graph.specs.Graphs.{FinishedType, IsFinished}
use Rattle.crystal_characters.specs.Characters.{is_same_weight, code_weight, multiplicity}
use Rattle.crystal_characters.specs.Reflections.{crystal_reflection, ReflectionsKeepMultiplicities}
use Rattle.crystal_characters.proofs.WeightOrder.{same_weight, same_itself}
use Rattle.crystal_characters.proofs.Matched.{not_more}
use Rattle.crystal_characters.proofs.Mirrors.{mirror_of, mirror_listed, negative_times}

opposite_times : (z r : ℤ) → neg_ℤ z *ℤ r ≡ neg_ℤ (z *ℤ r)
opposite_times (pos k) r = negative_times k r
opposite_times (negsuc k) r = omega (arith, ints, negative_times (suc k) r)

unit_here : (i : ℕ) → unit_at i i ≡ pos 1
unit_here i = let same : (i == i) ≡ true = grind (arith, nat_tests) in rw same refl

unit_else : (i j : ℕ) → (i ≡ j → ⊥) → unit_at i j ≡ pos 0
unit_else i j other = let apart : (i == j) ≡ false = grind (arith, nat_tests) in rw apart refl

step_first : (i : ℕ) → step_root_at i i ≡ pos 1
step_first i = omega (arith, ints, unit_here i, unit_else (i + 1) i (λ e. omega arith))

step_second : (i : ℕ) → step_root_at i (i + 1) ≡ negsuc 0
step_second i = omega (arith, ints, unit_here (i + 1), unit_else i (i + 1) (λ e. omega arith))

-- the coordinates of v are those of w less z times those of r
abbrev IsLess : ℕ → List ℤ → List ℤ → ℤ → (ℕ → ℤ) → Type 0
IsLess n v w z r = (j : ℕ) → 1 ≤ j → j ≤ n → coordinate v j ≡ coordinate w j -ℤ z *ℤ r j

less_at : (n : ℕ) (v w : List ℤ) (z : ℤ) (r : ℕ → ℤ) (j : ℕ) (x : ℤ) → IsLess n v w z r → 1 ≤ j → j ≤ n → r j ≡ x → coordinate v j ≡ coordinate w j -ℤ z *ℤ x
less_at n v w z r j x less low high at = less j low high ∙ ap (λ y. coordinate w j -ℤ z *ℤ y) at

-- the pairing of a simple root with its own coroot is 2
step_turn : (n i : ℕ) (v w : List ℤ) (z : ℤ) → 1 ≤ i → i + 1 ≤ n → IsLess n v w z (step_root_at i)
    → coordinate v i -ℤ coordinate v (i + 1) ≡ (coordinate w i -ℤ coordinate w (i + 1)) -ℤ (z +ℤ z)
step_turn n i v w z low high less =
    let first = less_at n v w z (step_root_at i) i (pos 1) less low (omega arith) (step_first i) in
    let second = less_at n v w z (step_root_at i) (i + 1) (negsuc 0) less (omega arith) high (step_second i) in
    omega (arith, ints, first, second)

last_turn : (k : Kind) (r : ℕ) (v w : List ℤ) (z : ℤ) → least_rank k ≤ r → IsLess (coordinates_of k r) v w z (last_root_at k r)
    → last_twice_pairing k r v ≡ last_twice_pairing k r w -ℤ (z +ℤ z)
last_turn A r v w z low less = step_turn (r + 1) r v w z low (omega arith) less
last_turn B r v w z low less =
    let at = less_at r v w z (last_root_at B r) r (pos 1) less (omega arith) (omega arith) (unit_here r) in
    omega (arith, ints, at)
last_turn C r v w z low less =
    let at = less_at r v w z (last_root_at C r) r (pos 2) less (omega arith) (omega arith) (omega (arith, ints, unit_here r)) in
    omega (arith, ints, at)
last_turn D r v w z low less =
    let before = less_at r v w z (last_root_at D r) (r - 1) (pos 1) less (omega arith) (omega arith)
    (omega (arith, ints, unit_here (r - 1), unit_else r (r - 1) (λ e. omega arith))) in
    let at = less_at r v w z (last_root_at D r) r (pos 1) less (omega arith) (omega arith)
    (omega (arith, ints, unit_here r, unit_else (r - 1) r (λ e. omega arith))) in
    omega (arith, ints, before, at)

turned : (t : CartanType) (i : ℕ) (v w : List ℤ) (z : ℤ) → IsCartan t → HasIndex t i → IsLess (coordinates t) v w z (root_at t i)
    → twice_pairing t v i ≡ twice_pairing t w i -ℤ (z +ℤ z)
unfolding twice_pairing
turned t i v w z classical index less =
    elim (nat_lt i t.rank) as (λ b. nat_lt i t.rank ≡ b → IsLess (coordinates t) v w z (λ j. if b then step_root_at i j else last_root_at t.kind t.rank j)
    → at b v ≡ at b w -ℤ (z +ℤ z)) [
      | true ↦ λ is step.
          let below : i < t.rank = grind (arith, nat_tests) in
          step_turn (coordinates t) i v w z index.low (omega (arith, rank_within t)) step
      | false ↦ λ is last. last_turn t.kind t.rank v w z classical.low last
    ] refl less
  where
    at : Bool → List ℤ → ℤ
    at b u = if b then coordinate u i -ℤ coordinate u (i + 1) else last_twice_pairing t.kind t.rank u

-- two equal reflections cancel
pub reflected_twice : (t : CartanType) (i : ℕ) (w : List ℤ) → IsCartan t → HasIndex t i → IsWeight t w → reflection t (reflection t w i) i ≡ w
unfolding reflection
reflected_twice t i w classical index size =
    sym (weight_by_coordinates (length (reflection t w i)) (λ j. coordinate (reflection t w i) j -ℤ twice_pairing t (reflection t w i) i *ℤ root_at t i j) w
    (sym (length-weight_from (length w) f)) (λ j low high.
    let inside : j ≤ length w = omega (arith, length-weight_from (length w) f) in
    let first = coordinate-weight_from (length w) f j low inside in
    let second : twice_pairing t (reflection t w i) i *ℤ root_at t i j ≡ neg_ℤ (twice_pairing t w i *ℤ root_at t i j) =
    ap (λ z. z *ℤ root_at t i j) opposite ∙ opposite_times (twice_pairing t w i) (root_at t i j) in
    omega (arith, ints, first, second)))
  where
    f : ℕ → ℤ
    f j = coordinate w j -ℤ twice_pairing t w i *ℤ root_at t i j

    opposite : twice_pairing t (reflection t w i) i ≡ neg_ℤ (twice_pairing t w i)
    opposite =
        let turn = turned t i (reflection t w i) w (twice_pairing t w i) classical index (λ j low high.
        coordinate-weight_from (length w) f j low (omega (arith, size))) in
        omega (arith, ints, turn)

not_less : (f : FinishedType) (i : ℕ) (w : List ℤ) → IsFinished f → HasIndex f.space.cartan i
    → multiplicity f w ≤ multiplicity f (reflection f.space.cartan w i)
not_less f i w finished index =
    not_more (λ c. is_same_weight (code_weight f.space c) w) (λ c. is_same_weight (code_weight f.space c) (reflection f.space.cartan w i)) g f.codes finished.ascending
    (λ c there has.
    let below : c < size f.space = All-contains (λ d. d < size f.space) f.codes c finished.below there in
    let mirror = mirror_of f.space i c finished.space index below in
    let to : g c ≡ mirror.0 = ap (λ o. unwrap_or o 0) mirror.1.image in
    let weight : code_weight f.space mirror.0 ≡ reflection f.space.cartan w i =
    mirror.1.weight ∙ ap (λ v. reflection f.space.cartan v i) (same_weight (code_weight f.space c) w has) in
    rw to (
      mirror_listed f i c mirror.0 finished index there mirror.1.image,
      ap (λ v. is_same_weight v (reflection f.space.cartan w i)) weight ∙ same_itself (reflection f.space.cartan w i),
      ap (λ o. unwrap_or o 0) mirror.1.back,
    ))
  where
    g : ℕ → ℕ
    g c = unwrap_or (crystal_reflection f.space i c) 0

pub reflections_keep_multiplicities : ReflectionsKeepMultiplicities
reflections_keep_multiplicities f i w finished index size =
    let there = not_less f i w finished index in
    let back = not_less f i (reflection f.space.cartan w i) finished index in
    let twice = ap (multiplicity f) (reflected_twice f.space.cartan i w finished.space.cartan index size) in
    omega (arith, there, back, twice)
