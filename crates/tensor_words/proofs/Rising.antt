-- The scans of a world's roots.
use Rattle.std.proofs.Common.{◌≡◌, ◌∙◌, refl, ℕ, ◌+◌, ◌<◌, ◌≤◌, ◌↔◌, inl, inr, nat_lt, Bool, true, false, if◌then◌else◌, IsTrue, List, [], ◌∷◌, length, get_or, Some, None, Result, Ok, Err, MatchResult, All, Contains, arith}
use Rattle.std.specs.List.Sorted.{IsStrictlyIncreasing, IsBinarySearchResult}
use Rattle.std.specs.Ordering.{nat_cmp}
use Rattle.std.specs.Result.{is_ok}
use Rattle.std.proofs.lemmas.Bool.{cases_lt, ltb-true}
use Rattle.std.proofs.lemmas.List.{get_or_default}
use Rattle.std.proofs.lemmas.List.Elements.{All-cons}
use Rattle.std.proofs.lemmas.List.Kept.{AllPairs-from_increasing}
use Rattle.std.proofs.lemmas.List.Sorted.{searched}
use Rattle.list_facts.proofs.Rising.{rising-cons}
use Rattle.tensor_words.specs.Worlds.{place_of_no_word, place_of_no_rise, place_of_no_rise_after}

pub words_from_place : (size n : ℕ) (cs : List ℕ) → place_of_no_word size n cs ≡ None → All (λ c. c < size) cs
words_from_place size n [] is = λ k d lt. absurd (omega arith)
words_from_place size n (c ∷ cs) is =
    elim (nat_lt c size) as (λ b. nat_lt c size ≡ b → (if b then place_of_no_word size (n + 1) cs else Some n) ≡ None → All (λ x. x < size) (c ∷ cs)) [
      | true ↦ λ below next. All-cons (λ x. x < size) c cs (ltb-true c size below) (words_from_place size (n + 1) cs next)
      | false ↦ λ over next. cc
    ] refl is

pub rising_from_place : (n c : ℕ) (ds : List ℕ) → place_of_no_rise_after n c ds ≡ None → IsStrictlyIncreasing (c ∷ ds)
rising_from_place n c [] is = λ k lt. absurd (omega arith)
rising_from_place n c (d ∷ ds) is =
    elim (nat_lt c d) as (λ b. nat_lt c d ≡ b → (if b then place_of_no_rise_after (n + 1) d ds else Some (n + 1)) ≡ None → IsStrictlyIncreasing (c ∷ d ∷ ds)) [
      | true ↦ λ below next. rising-cons c d ds (ltb-true c d below) (rising_from_place (n + 1) d ds next)
      | false ↦ λ over next. cc
    ] refl is

pub rising_from_first : (cs : List ℕ) → place_of_no_rise cs ≡ None → IsStrictlyIncreasing cs
rising_from_first [] is = λ k lt. absurd (omega arith)
rising_from_first (c ∷ cs) is = rising_from_place 1 c cs is

-- what a binary search over ascending numbers finds
pub found_ascending :
    (xs : List ℕ) (x : ℕ) (r : Result ℕ ℕ) → IsStrictlyIncreasing xs → IsBinarySearchResult (λ y. nat_cmp y x) xs r →
    IsTrue (is_ok r) ↔ Contains xs x
found_ascending xs x r up search_is = by_answer r (searched xs x r search_is not_falling)
  where
    not_falling : (i j : ℕ) → i ≤ j → j < length xs → get_or xs i 0 ≤ get_or xs j 0
    not_falling i j le lt = elim (cases_lt i j) [
      | inl less ↦ omega (arith, AllPairs-from_increasing xs up i j 0 less lt)
      | inr over ↦ let same : i ≡ j = omega arith in rw same (omega arith)
    ]

    nowhere :
        (i : ℕ) → (i ≤ length xs) × ((k : ℕ) → k < i → get_or xs k 0 < x) × ((k : ℕ) → i ≤ k → k < length xs → x < get_or xs k 0) →
        Contains xs x → ⊥
    nowhere i m there =
        let is : get_or xs there.0 0 ≡ x = get_or_default xs there.0 0 x there.1 ∙ there.2 in
        elim (cases_lt there.0 i) [ inl before ↦ omega (arith, m.1 there.0 before) | inr after ↦ omega (arith, m.2 there.0 after there.1) ]

    by_answer :
        (r : Result ℕ ℕ) →
        MatchResult r (λ i. (i < length xs) × (get_or xs i 0 ≡ x))
        (λ i. (i ≤ length xs) × ((k : ℕ) → k < i → get_or xs k 0 < x) × ((k : ℕ) → i ≤ k → k < length xs → x < get_or xs k 0)) →
        IsTrue (is_ok r) ↔ Contains xs x
    by_answer (Ok i) m = (λ yes. (i, m.0, get_or_default xs i x 0 m.0 ∙ m.1), λ there. refl)
    by_answer (Err i) m = (λ yes. cc, λ there. absurd (nowhere i m there))

pub root_found :
    (xs ys zs : List ℕ) (x : ℕ) (r : Result ℕ ℕ) (b : Bool) → xs ≡ ys → ys ≡ zs → IsStrictlyIncreasing ys →
    IsBinarySearchResult (λ y. nat_cmp y x) xs r → b ≡ is_ok r → IsTrue b ↔ Contains zs x
root_found xs ys zs x r b first second up search_is is =
    rw (is, ← second, ← first) (found_ascending xs x r (rw first up) search_is)
