-- Pairs and the codes of the whole space.
use Rattle.std.proofs.Common.{◌≡◌, sym, ap, ap₂, subst, ◌∙◌, ℕ, ◌+◌, ◌*◌, ◌/◌, ◌%◌, ◌<◌, ◌≤◌, ◌⊎◌, inl, inr, IsTrue, List, ◌++◌, map, arith}
use Rattle.std.specs.List.{list_all}
use Rattle.std.proofs.Math.Nat.{div-add-mod'}
use Rattle.std.proofs.lemmas.Bool.{cases_lt, cases_eq}
use Rattle.std.proofs.lemmas.List.{map-append}
use Rattle.std.proofs.lemmas.Nat.{div-mul-add, mod-mul-add, div_below, mod_below}
use Rattle.list_facts.proofs.Numbers.{in_row}
use Rattle.crystal_cartan.specs.Types.{CartanType}
use Rattle.tensor_words.specs.Spaces.{HasFactors, tensor_space, has_factor, base_size, sizes, size, product}
use Rattle.tensor_words.specs.Codes.{AreDigits, code, word, word_of}
use Rattle.tensor_words.proofs.Digits.{word-code, code-word, AreDigits-word}
use Rattle.tensor_words.proofs.Products.{digits_joined, product_joined, code_joined, factors_joined}
use Rattle.tensor_words.proofs.Sizes.{product_positive}
use Rattle.wide_words.specs.declared.spaces.WideCode.{WideCode}
use Rattle.wide_words.specs.WideSpaces.{WideSpaceType, IsWideSpace, whole, IsWide, number}
use Rattle.wide_words.specs.WideLaws.{IsOnePair, PairsCorrespond, PairsAscend, PairsAreWords}

-- the pair of a code
abbrev pub pair_of : WideSpaceType → ℕ → WideCode
pair_of s x = record { high = x / size s.low; low = x % size s.low }

module _ (s : WideSpaceType) (space : IsWideSpace s) where
  -- the sizes of the factors, and the number of words, of the whole space
  pub sizes_whole : sizes (whole s) ≡ sizes s.high ++ sizes s.low
  sizes_whole =
      map-append (base_size s.high.cartan) s.high.factors s.low.factors
      ∙ ap (λ (t : CartanType). sizes s.high ++ map (base_size t) s.low.factors) (sym space.kind.cartan)

  pub size_whole : size (whole s) ≡ size s.high * size s.low
  size_whole = ap product sizes_whole ∙ product_joined (sizes s.high) (sizes s.low)

  pub low_positive : 1 ≤ size s.low
  low_positive = product_positive s.low.cartan s.low.factors space.low.cartan

  -- the word of a pair
  pub number_below : (c : WideCode) → IsWide s c → number s c < size (whole s)
  number_below c is = omega (arith, size_whole, in_row c.high (size s.high) (size s.low) c.low is.high is.low)

  pub wide_word : (c : WideCode) → IsWide s c → word_of (whole s) (number s c) ≡ word_of s.high c.high ++ word_of s.low c.low
  unfolding word_of
  wide_word c is =
      let x : List ℕ = word (sizes s.high) c.high in
      let y : List ℕ = word (sizes s.low) c.low in
      let first : AreDigits (sizes s.high) x = AreDigits-word (sizes s.high) c.high is.high in
      let second : AreDigits (sizes s.low) y = AreDigits-word (sizes s.low) c.low is.low in
      let joined : code (sizes s.high ++ sizes s.low) (x ++ y) ≡ number s c =
      code_joined (sizes s.high) (sizes s.low) x y first
      ∙ ap₂ (λ (m n : ℕ). m * size s.low + n) (code-word (sizes s.high) c.high is.high) (code-word (sizes s.low) c.low is.low) in
      ap (λ (bs : List ℕ). word bs (number s c)) sizes_whole
      ∙ ap (word (sizes s.high ++ sizes s.low)) (sym joined)
      ∙ word-code (sizes s.high ++ sizes s.low) (x ++ y) (digits_joined (sizes s.high) (sizes s.low) x y first second)

  pub pair_is_wide : (x : ℕ) → x < size (whole s) → IsWide s (pair_of s x)
  pair_is_wide x below = record {
    high = div_below x (size s.low) (size s.high) (omega (arith, low_positive)) (omega (arith, size_whole));
    low = mod_below x (size s.low) (omega (arith, low_positive));
  }

-- the halves of the pair with a number
module _ (s : WideSpaceType) (c : WideCode) (is : IsWide s c) where
  pub high_of_number : number s c / size s.low ≡ c.high
  high_of_number = div-mul-add c.high (size s.low) c.low is.low

  pub low_of_number : number s c % size s.low ≡ c.low
  low_of_number = mod-mul-add c.high (size s.low) c.low is.low

  pub pair_of_number : c ≡ pair_of s (number s c)
  pair_of_number = λ i. record { high = sym high_of_number i; low = sym low_of_number i }

pub number_of_pair : (s : WideSpaceType) (x : ℕ) → number s (pair_of s x) ≡ x
number_of_pair s x = div-add-mod' x (size s.low)

-- one number is of one pair
pub pair_is : (s : WideSpaceType) (c d : WideCode) → IsWide s c → IsWide s d → number s c ≡ number s d → c ≡ d
pair_is s c d is too same = pair_of_number s c is ∙ ap (pair_of s) same ∙ sym (pair_of_number s d too)

pub one_pair : (s : WideSpaceType) (x : ℕ) → IsWideSpace s → x < size (whole s) → IsOnePair s x
one_pair s x space below = record {
  pair = pair_of s x;
  word = pair_is_wide s space x below;
  is = number_of_pair s x;
  only = λ c is same. pair_of_number s c is ∙ ap (pair_of s) same;
}

pub pairs_correspond : PairsCorrespond
pairs_correspond s space = (λ c is. number_below s space c is, λ x below. one_pair s x space below)

pub pairs_are_words : PairsAreWords
pairs_are_words s c space is = wide_word s space c is

pub pairs_ascend : PairsAscend
pairs_ascend s c d is too = (λ below. pairs (cases_lt c.high d.high) below, numbers)
  where
    same_high : c.high ≡ d.high → number s c < number s d → c.low < d.low
    same_high same below = let rows : c.high * size s.low ≡ d.high * size s.low = ap (λ (k : ℕ). k * size s.low) same in omega arith

    not_above : d.high < c.high → number s c < number s d → ⊥
    not_above above below = let rows = in_row d.high c.high (size s.low) d.low above too.low in omega arith

    equal : (c.high ≡ d.high) ⊎ (c.high ≡ d.high → ⊥) → d.high ≤ c.high → number s c < number s d → (c.high < d.high) ⊎ ((c.high ≡ d.high) × (c.low < d.low))
    equal (inl same) least below = inr (same, same_high same below)
    equal (inr other) least below = absurd (not_above (omega arith) below)

    pairs : (c.high < d.high) ⊎ (d.high ≤ c.high) → number s c < number s d → (c.high < d.high) ⊎ ((c.high ≡ d.high) × (c.low < d.low))
    pairs (inl less) below = inl less
    pairs (inr least) below = equal (cases_eq c.high d.high) least below

    numbers : (c.high < d.high) ⊎ ((c.high ≡ d.high) × (c.low < d.low)) → number s c < number s d
    numbers (inl less) = let rows = in_row c.high d.high (size s.low) c.low less is.low in omega arith
    numbers (inr (same, less)) = let rows : c.high * size s.low ≡ d.high * size s.low = ap (λ (k : ℕ). k * size s.low) same in omega arith

-- the factors of each half, and of the whole space, are those of the type of the high space
module _ (s : WideSpaceType) (space : IsWideSpace s) where
  pub factors_high : HasFactors (tensor_space s.high.cartan s.high.factors)
  factors_high = record { cartan = space.high.cartan; had = space.high.had }

  pub factors_low : HasFactors (tensor_space s.high.cartan s.low.factors)
  factors_low = record {
    cartan = space.high.cartan;
    had = subst (λ (t : CartanType). IsTrue (list_all (has_factor t.kind) s.low.factors)) space.kind.cartan space.low.had;
  }

  pub factors_whole : HasFactors (whole s)
  factors_whole =
      let joined = factors_joined s.high.cartan s.high.factors s.low.factors factors_high factors_low in
      record { cartan = joined.cartan; had = joined.had }
