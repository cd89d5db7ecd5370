-- What the weight of a shape gives to the tops beside it: whole pairings that are not negative, and small sums.
use Rattle.std.proofs.Common.{◌≡◌, subst, ℕ, ◌*◌, ◌≤◌, ◌<◌, List, length, get_or, ℤ, pos, ◌≤ℤ◌, All, arith}
use Rattle.std.specs.List.{range_with_len}
use Rattle.std.proofs.lemmas.Int.{ints}
use Rattle.std.proofs.lemmas.List.Elements.{All-map, All-filter}
use Rattle.std.proofs.lemmas.List.FromFn.{length-range_with_len, get_or-range_with_len}
use Rattle.crystal_cartan.specs.Types.{HasIndex}
use Rattle.crystal_cartan.specs.Weights.{twice_pairing, IsPairing, IsDominant, IsSmall, sum_of}
use Rattle.tensor_words.specs.Spaces.{IsSpace, IsWithin, word_weight}
use Rattle.tensor_words.specs.TensorRule.{action}
use Rattle.tensor_words.proofs.KeptWords.{factors_of_space}
use Rattle.tensor_words.proofs.WordWeights.{seminormal_word}
use Rattle.tableau_reading.specs.Shapes.{ShapeType, IsShape, shape_space, shape_weight}
use Rattle.tableau_reading.specs.Readings.{top_word}
use Rattle.tableau_reading.proofs.VectorSpaces.{shape_is_space}
use Rattle.tableau_reading.proofs.HighestTops.{top_is_word, top_is_highest}
use Rattle.tableau_reading.proofs.TopWeights.{top_has_weight}
use Rattle.canonical_graph.specs.Graphs.{FinishedType, IsFinished, vertex_word}
use Rattle.crystal_subsets.specs.ProductTops.{is_top_beside, top_entry, top_ranks, tops_beside}
use Rattle.crystal_subsets.proofs.TensorTops.{word_pairings}
use Rattle.ask_answers.proofs.WordBounds.{bounded_sum, bounded_word}
use Rattle.crystal_cartan.proofs.Bounds.{small_from_within}

-- the weight of a shape has whole pairings
pub shape_pairings : (s : ShapeType) → IsShape s → (i : ℕ) → HasIndex s.cartan i → (p : ℤ) × IsPairing s.cartan (shape_weight s) i p
shape_pairings s h i index =
    subst (λ (w : List ℤ). (p : ℤ) × IsPairing s.cartan w i p) (top_has_weight s h)
    (word_pairings (shape_space s) (top_word s) (shape_is_space s h) (top_is_word s h) i index)

-- and is dominant: no raising operator applies to the top word
pub shape_dominant : (s : ShapeType) → IsShape s → IsDominant s.cartan (shape_weight s)
shape_dominant s h i index =
    let ends : (action (shape_space s) i).eps (top_word s) ≡ 0 = top_is_highest s i h index in
    let balanced = (seminormal_word (shape_space s) i (top_word s) (factors_of_space (shape_space s) (shape_is_space s h)) index (top_is_word s h)).balanced in
    subst (λ (w : List ℤ). pos 0 ≤ℤ twice_pairing s.cartan w i) (top_has_weight s h) (omega (arith, ints, ends, balanced))

-- doubled coordinates of the weight of a word of at most 40 factors, and of a shape, are at most 80
at_most_eighty : (n : ℕ) (w : List ℤ) → n ≤ 40 → All (IsWithin (2 * n)) w → All (IsWithin 80) w
at_most_eighty n w few all = λ k d lt. let x : IsWithin (2 * n) (get_or w k d) = all k d lt in
    (omega (arith, ints, x.0), omega (arith, ints, x.1))

bounded_shape : (s : ShapeType) → IsShape s → All (IsWithin 80) (shape_weight s)
bounded_shape s h =
    let space : IsSpace (shape_space s) = shape_is_space s h in
    subst (λ (w : List ℤ). All (IsWithin 80) w) (top_has_weight s h)
    (at_most_eighty (length (shape_space s).factors) (word_weight (shape_space s) (top_word s)) space.few (bounded_word (shape_space s) (top_word s)))

small_sum : (f : FinishedType) (s : ShapeType) (rank : ℕ) → IsFinished f → IsShape s → IsSmall (top_entry f (shape_weight s) rank).1
small_sum f s rank finished h =
    let own : All (IsWithin 80) (word_weight f.space (vertex_word f rank)) =
    at_most_eighty (length f.space.factors) _ finished.space.few (bounded_word f.space (vertex_word f rank)) in
    small_from_within 160 (sum_of (word_weight f.space (vertex_word f rank)) (shape_weight s)) (omega arith)
    (bounded_sum 80 80 (word_weight f.space (vertex_word f rank)) (shape_weight s) own (bounded_shape s h))

-- the sums that go with the tops beside it are small
pub small_sums : (f : FinishedType) (s : ShapeType) → IsFinished f → IsShape s → All (λ top. IsSmall top.1) (tops_beside f (shape_weight s))
small_sums f s finished h =
    All-map (λ (top : ℕ × List ℤ). IsSmall top.1) (top_entry f (shape_weight s)) (top_ranks f (shape_weight s))
    (λ k d lt. small_sum f s _ finished h)

-- and their ranks are those of vertices
pub ranks_below : (f : FinishedType) (weight : List ℤ) → All (λ top. top.0 < length f.codes) (tops_beside f weight)
ranks_below f weight =
    let all : All (λ rank. rank < length f.codes) (range_with_len 0 (length f.codes)) = λ k d lt.
    let within : k < length f.codes = omega (arith, length-range_with_len 0 (length f.codes)) in
    omega (arith, get_or-range_with_len 0 (length f.codes) k d within) in
    All-map (λ (top : ℕ × List ℤ). top.0 < length f.codes) (top_entry f weight) (top_ranks f weight)
    (All-filter (λ rank. is_top_beside f.space weight (vertex_word f rank)) (λ rank. rank < length f.codes) (range_with_len 0 (length f.codes)) all)
