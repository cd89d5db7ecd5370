-- The tops of a tensor product (Bump and Schilling, Crystal Bases, 2017, section 2.3): a word is a top where every eps is 0.
-- The weights and the inequality are the same in both tensor orders; eps is that of the space's order.
use Rattle.std.specs.Prelude.{ℕ, ◌*◌, ◌<◌, ◌↔◌, Bool, IsTrue, List, ◌++◌, map, filter, length, Contains, ℤ, pos, int_le}
use Rattle.std.specs.List.{list_all, range_with_len}
use Rattle.crystal_cartan.specs.Types.{CartanType}
use Rattle.crystal_cartan.specs.Weights.{twice_pairing, sum_of}
use Rattle.tensor_words.specs.declared.spaces.Factor.{Factor}
use Rattle.tensor_words.specs.declared.spaces.Order.{Order}
use Rattle.tensor_words.specs.declared.spaces.Order.TheVariants.{Standard, Kashiwara}
use Rattle.tensor_words.specs.Spaces.{SpaceType, tensor_space, ordered, HasFactors, word_weight}
use Rattle.tensor_words.specs.Codes.{IsWord}
use Rattle.tensor_words.specs.TensorRule.{action}
use Rattle.tensor_words.specs.Operators.{IsTop}
use Rattle.canonical_graph.specs.Graphs.{FinishedType, IsFinished, vertex_word}

-- whether the word x is a top beside the weight: eps_i of x is at most the pairing of the weight with the simple
-- coroot, for each index i; both sides are doubled
unfoldable pub is_top_beside : SpaceType → List ℤ → List ℕ → Bool
is_top_beside s weight x =
    list_all (λ i. int_le (pos (2 * (action s i).eps x)) (twice_pairing s.cartan weight i)) (range_with_len 1 s.cartan.rank)

-- a vertex, with the sum of its weight and the other
abbrev pub top_entry : FinishedType → List ℤ → ℕ → ℕ × List ℤ
top_entry f weight rank = (rank, sum_of (word_weight f.space (vertex_word f rank)) weight)

-- the ranks of the vertices that are tops beside the weight, ascending
abbrev pub top_ranks : FinishedType → List ℤ → List ℕ
top_ranks f weight = filter (λ rank. is_top_beside f.space weight (vertex_word f rank)) (range_with_len 0 (length f.codes))

-- these, each with the sum of the two weights
abbrev pub tops_beside : FinishedType → List ℤ → List (ℕ × List ℤ)
tops_beside f weight = map (top_entry f weight) (top_ranks f weight)

-- two words, or their factors, one behind the other: that of the vertex first in the standard order, last in Kashiwara's
abbrev pub one_behind : {E : Type 0} → Order → List E → List E → List E
one_behind Standard x y = x ++ y
one_behind Kashiwara x y = y ++ x

-- laws

-- In the standard order x ⊗ y is a top exactly where y is one, and x is one beside the weight of y; in Kashiwara's order
-- the same holds of y ⊗ x. It holds for words over any factors of one type.
abbrev pub TopsOfProducts : Type 0
TopsOfProducts =
    (o : Order) (t : CartanType) (fs gs : List Factor) (x y : List ℕ) → HasFactors (tensor_space t fs) → HasFactors (tensor_space t gs)
    → IsWord (tensor_space t fs) x → IsWord (tensor_space t gs) y
    → IsTop (ordered o (tensor_space t (one_behind o fs gs))) (one_behind o x y)
    ↔ (IsTop (ordered o (tensor_space t gs)) y × IsTrue (is_top_beside (ordered o (tensor_space t fs)) (word_weight (tensor_space t gs) y) x))

-- for a vertex x of a finished graph and every top y over any factors of its type, x ⊗ y, or in Kashiwara's order y ⊗ x,
-- is a top exactly where the rank of x is listed
abbrev pub ListedTops : Type 0
ListedTops =
    (f : FinishedType) (rank : ℕ) (gs : List Factor) (y : List ℕ) → IsFinished f → rank < length f.codes
    → HasFactors (tensor_space f.space.cartan gs) → IsWord (tensor_space f.space.cartan gs) y
    → IsTop (ordered f.space.order (tensor_space f.space.cartan gs)) y
    → IsTop (ordered f.space.order (tensor_space f.space.cartan (one_behind f.space.order f.space.factors gs)))
    (one_behind f.space.order (vertex_word f rank) y)
    ↔ Contains (top_ranks f (word_weight (tensor_space f.space.cartan gs) y)) rank
