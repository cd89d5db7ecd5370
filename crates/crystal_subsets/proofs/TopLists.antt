-- Lists of tops, vertex by vertex.
use Rattle.std.proofs.Common.{◌≡◌, refl, sym, ℕ, ◌+◌, true, false, List, [], ◌∷◌, ◌++◌, map, ℤ}
use Rattle.std.specs.List.{filter, range_with_len}
use Rattle.std.proofs.lemmas.List.{map-append, append-nil}
use Rattle.tensor_words.specs.Spaces.{SpaceType, word_weight}
use Rattle.crystal_cartan.specs.Weights.{sum_of}
use Rattle.canonical_graph.specs.Graphs.{FinishedType, vertex_word}
use Rattle.crystal_subsets.specs.ProductTops.{is_top_beside, top_entry}
use Rattle.crystal_subsets.proofs.RankLists.{kept_more}

-- the tops beside the weight of a rank below n
abbrev pub tops_below : FinishedType → List ℤ → ℕ → List (ℕ × List ℤ)
tops_below f weight n = map (top_entry f weight) (filter (λ rank. is_top_beside f.space weight (vertex_word f rank)) (range_with_len 0 n))

pub top_added : (f : FinishedType) (weight own sum : List ℤ) (n : ℕ) (old new : List (ℕ × List ℤ)) (s : SpaceType) (w : List ℕ)
    → s ≡ f.space → w ≡ vertex_word f n → true ≡ is_top_beside s weight w → own ≡ word_weight s w → sum ≡ sum_of own weight
    → old ≡ tops_below f weight n → new ≡ old ++ (n, sum) ∷ [] → new ≡ tops_below f weight (n + 1)
top_added f weight own sum n old new s w space word passes is_own total before is =
    let top : is_top_beside f.space weight (vertex_word f n) ≡ true = rw (space, word) at (sym passes) in
    let own_is : own ≡ word_weight f.space (vertex_word f n) = rw (space, word) at is_own in
    let more = kept_more (λ rank. is_top_beside f.space weight (vertex_word f rank)) n in
    rw (is, before, more, top, map-append, total, own_is) refl

pub top_passed : (f : FinishedType) (weight : List ℤ) (n : ℕ) (old : List (ℕ × List ℤ)) (s : SpaceType) (w : List ℕ)
    → s ≡ f.space → w ≡ vertex_word f n → false ≡ is_top_beside s weight w → old ≡ tops_below f weight n → old ≡ tops_below f weight (n + 1)
top_passed f weight n old s w space word fails before =
    let none : is_top_beside f.space weight (vertex_word f n) ≡ false = rw (space, word) at (sym fails) in
    let more = kept_more (λ rank. is_top_beside f.space weight (vertex_word f rank)) n in
    rw (before, more, none, append-nil) refl
