-- Pairs and their numbers, and the words of a vertex.
use Rattle.std.proofs.Common.{◌≡◌, ◌≢◌, refl, sym, ◌∙◌, ℕ, ◌+◌, ◌*◌, Option, Some, None, arith}
use Rattle.std.proofs.lemmas.Nat.{div-mul-add, mod-mul-add, div-add-mod'}
use Rattle.tensor_words.specs.Spaces.{size}
use Rattle.wide_words.specs.declared.spaces.WideCode.{WideCode}
use Rattle.wide_words.specs.WideSpaces.{IsWide, number}
use Rattle.wide_words.specs.WideHistory.{WideWorldType}
use Rattle.wide_rule.specs.Layout.{high_of, low_of, pair_of, low_word}

module _ (w : WideWorldType) where
  pub high_number : (x : WideCode) → IsWide w.space x → high_of w (number w.space x) ≡ x.high
  high_number x is = div-mul-add x.high (size w.space.low) x.low is.low

  pub low_number : (x : WideCode) → IsWide w.space x → low_of w (number w.space x) ≡ x.low
  low_number x is = mod-mul-add x.high (size w.space.low) x.low is.low

  pub pair_number : (x : WideCode) → IsWide w.space x → pair_of w (number w.space x) ≡ x
  pair_number x is = λ i. record { high = high_number x is i; low = low_number x is i }

  pub same_number : (y : ℕ) (x : WideCode) → high_of w y ≡ x.high → low_of w y ≡ x.low → y ≡ number w.space x
  same_number y x p q = sym (div-add-mod' y (size w.space.low)) ∙ (λ i. p i * size w.space.low + q i)

  -- the second word of a cell and its vertex
  pub low_none : (o : Option ℕ) → low_word w o ≡ 0 → o ≡ None
  low_none None e = refl
  low_none (Some x) e = absurd (omega arith)

  pub low_some : (o : Option ℕ) → low_word w o ≢ 0 → (y : ℕ) × (o ≡ Some y) × (low_word w o ≡ low_of w y + 1)
  low_some None p = absurd (p refl)
  low_some (Some y) p = (y, refl, refl)
