-- Tops of tensor products, in both tensor orders.
use Rattle.std.proofs.Common.{◌≡◌, refl, ℕ, ◌+◌, ◌-◌, ◌*◌, List, length, IsTrue, ◌↔◌, ℤ, pos, ◌≤ℤ◌, arith}
use Rattle.std.proofs.lemmas.Int.{ints}
use Rattle.crystal_cartan.specs.Types.{CartanType, HasIndex}
use Rattle.crystal_cartan.specs.Weights.{twice_pairing, IsPairing}
use Rattle.tensor_words.specs.declared.spaces.Factor.{Factor}
use Rattle.tensor_words.specs.declared.spaces.Order.{Order}
use Rattle.tensor_words.specs.declared.spaces.Order.TheVariants.{Standard, Kashiwara}
use Rattle.tensor_words.specs.Spaces.{SpaceType, tensor_space, ordered, IsSpace, HasFactors, word_weight}
use Rattle.tensor_words.specs.Codes.{IsWord}
use Rattle.tensor_words.specs.TensorRule.{action}
use Rattle.tensor_words.specs.Operators.{IsTop}
use Rattle.tensor_words.proofs.Products.{product_rule}
use Rattle.tensor_words.proofs.KeptWords.{factors_of_space}
use Rattle.tensor_words.proofs.SpaceWords.{IsWord-word_of}
use Rattle.tensor_words.proofs.WordWeights.{seminormal_word}
use Rattle.canonical_graph.specs.Graphs.{code_at, vertex_word}
use Rattle.crystal_subsets.specs.ProductTops.{is_top_beside, one_behind, TopsOfProducts, ListedTops}
use Rattle.crystal_subsets.proofs.RankLists.{kept_below}
use Rattle.crystal_subsets.proofs.BesideTests.{beside_by_test, test_by_beside}

-- eps_i of the two words, one behind the other: where e_i gives zero at y, it gives zero there exactly where eps_i of x
-- is at most phi_i of y
ends_at_both : (o : Order) (t : CartanType) (i : ℕ) (fs gs : List Factor) (x y : List ℕ) → HasFactors (tensor_space t fs) → HasFactors (tensor_space t gs)
    → HasIndex t i → IsWord (tensor_space t fs) x → IsWord (tensor_space t gs) y
    → (action (ordered o (tensor_space t (one_behind o fs gs))) i).eps (one_behind o x y)
    ≡ (action (ordered o (tensor_space t gs)) i).eps y
    + ((action (ordered o (tensor_space t fs)) i).eps x - (action (ordered o (tensor_space t gs)) i).phi y)
ends_at_both Standard t i fs gs x y had other_had index word other_word = (product_rule Standard t i fs gs x y had other_had index word other_word).eps
ends_at_both Kashiwara t i fs gs x y had other_had index word other_word = (product_rule Kashiwara t i gs fs y x other_had had index other_word word).eps

module _ (o : Order) (t : CartanType) (fs gs : List Factor) (x y : List ℕ) (had : HasFactors (tensor_space t fs)) (other_had : HasFactors (tensor_space t gs))
    (word : IsWord (tensor_space t fs) x) (other_word : IsWord (tensor_space t gs) y) where
  abbrev first : SpaceType
  first = ordered o (tensor_space t fs)

  abbrev second : SpaceType
  second = ordered o (tensor_space t gs)

  abbrev both : SpaceType
  both = ordered o (tensor_space t (one_behind o fs gs))

  same_weight : word_weight second y ≡ word_weight (tensor_space t gs) y
  unfolding word_weight
  same_weight = refl

  -- where e_i gives zero at y, phi_i of y is the pairing of its weight
  beside_at : (i : ℕ) → HasIndex t i → (action second i).eps y ≡ 0
      → ((action both i).eps (one_behind o x y) ≡ 0) ↔ (pos (2 * (action first i).eps x) ≤ℤ twice_pairing t (word_weight (tensor_space t gs) y) i)
  beside_at i index ends =
      let whole = ends_at_both o t i fs gs x y had other_had index word other_word in
      let factors : HasFactors second = record { cartan = other_had.cartan; had = other_had.had } in
      let pairing = rw same_weight at (seminormal_word second i y factors index other_word).balanced in
      (λ h. omega (arith, ints, whole, pairing, ends, h), λ h. omega (arith, ints, whole, pairing, ends, h))

  -- a top of both is one of y
  other_ends : IsTop both (one_behind o x y) → IsTop second y
  other_ends top i index = omega (arith, ends_at_both o t i fs gs x y had other_had index word other_word, top i index)

  pub product : IsTop both (one_behind o x y) ↔ (IsTop second y × IsTrue (is_top_beside first (word_weight (tensor_space t gs) y) x))
  product = (
    λ top. (other_ends top, test_by_beside first _ x (λ i index. (beside_at i index (other_ends top i index)).0 (top i index))),
    λ (other, beside) i index. (beside_at i index (other i index)).1 (beside_by_test first _ x beside i index),
  )

pub tops_of_products : TopsOfProducts
tops_of_products o t fs gs x y had other_had word other_word = product o t fs gs x y had other_had word other_word

pub listed_tops : ListedTops
listed_tops f rank gs y finished below had word top =
    let s : SpaceType = f.space in
    let weight : List ℤ = word_weight (tensor_space s.cartan gs) y in
    let own : IsWord s (vertex_word f rank) = IsWord-word_of s (code_at f rank) (finished.below rank 0 below) in
    let whole = tops_of_products s.order s.cartan s.factors gs (vertex_word f rank) y (record { cartan = finished.space.cartan; had = finished.space.had }) had own word in
    let listed = kept_below (λ r. is_top_beside s weight (vertex_word f r)) (length f.codes) rank below in
    (λ h. listed.1 (whole.0 h).1, λ h. whole.1 (top, listed.0 h))

-- the weight of a word has whole pairings
pub word_pairings : (s : SpaceType) (w : List ℕ) → IsSpace s → IsWord s w → (i : ℕ) → HasIndex s.cartan i → (p : ℤ) × IsPairing s.cartan (word_weight s w) i p
word_pairings s w space word i index = (_, (seminormal_word s i w (factors_of_space s space) index word).balanced)
