-- Words and their codes.
use Rattle.std.proofs.Common.{◌≡◌, ap, refl, ℕ, ◌+◌, ◌*◌, ◌<◌, ◌==◌, nat_lt, ◌&&◌, ◌||◌, Bool, true, false, IsTrue, List, [], ◌∷◌, ◌↔◌, inl, inr, arith}
use Rattle.std.proofs.lemmas.Bool.{cases_lt, cases_eq}
use Rattle.std.proofs.lemmas.Bool.Decides.{nat_tests}
use Rattle.list_facts.proofs.Numbers.{in_row}
use Rattle.tensor_words.specs.Spaces.{product, sizes}
use Rattle.tensor_words.specs.Codes.{AreDigits, code, code_of, word_of, is_before, CodesCorrespond, CodesAreLexicographic}
use Rattle.tensor_words.proofs.Digits.{code_in_range, word-code, code-word, AreDigits-word}

pub codes_correspond : CodesCorrespond
unfolding code_of word_of
codes_correspond s space =
    (λ c below. (AreDigits-word (sizes s) c below, code-word (sizes s) c below), λ w is. (code_in_range (sizes s) w is, word-code (sizes s) w is))

first_digit : (d e c c' p : ℕ) (before : Bool) → c < p → c' < p → (c < c') ↔ IsTrue before
    → (d * p + c < e * p + c') ↔ IsTrue (nat_lt d e || ((d == e) && before))
first_digit d e c c' p before low low' rest =
    elim (cases_lt d e) [
      | inl below ↦
          let test : nat_lt d e ≡ true = grind (arith, nat_tests) in
          let rows : d * p + c < e * p = in_row d e p c below low in
          rw test (λ h. refl, λ h. omega (arith, rows))
      | inr least ↦
          let test : nat_lt d e ≡ false = grind (arith, nat_tests) in
          rw test (elim (cases_eq d e) [
            | inl is ↦
                let same : (d == e) ≡ true = grind (arith, nat_tests) in
                let rows : d * p ≡ e * p = ap (λ k. k * p) is in
                rw same (λ h. rest.0 (omega (arith, rows)), λ h. omega (arith, rows, rest.1 h))
            | inr other ↦
                let same : (d == e) ≡ false = grind (arith, nat_tests) in
                let rows : e * p + c' < d * p = in_row e d p c' (omega arith) low' in
                rw same (λ h. absurd (omega (arith, rows)), λ h. cc)
          ])
    ]

pub lexicographic : (bs ds es : List ℕ) → AreDigits bs ds → AreDigits bs es → (code bs ds < code bs es) ↔ IsTrue (is_before ds es)
lexicographic [] [] [] p q = (λ h. absurd (omega arith), λ h. cc)
lexicographic [] [] (e ∷ es) p q = absurd q
lexicographic [] (d ∷ ds) es p q = absurd p
lexicographic (b ∷ bs) [] es p q = absurd p
lexicographic (b ∷ bs) (d ∷ ds) [] p q = absurd q
lexicographic (b ∷ bs) (d ∷ ds) (e ∷ es) p q =
    first_digit d e (code bs ds) (code bs es) (product bs) (is_before ds es) (code_in_range bs ds p.1) (code_in_range bs es q.1) (lexicographic bs ds es p.1 q.1)

pub codes_are_lexicographic : CodesAreLexicographic
unfolding code_of
codes_are_lexicographic s v w space p q = lexicographic (sizes s) v w p q
