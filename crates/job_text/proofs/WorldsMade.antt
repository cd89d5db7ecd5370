-- Where a world is taken.
use Rattle.std.proofs.Common.{◌≡◌, refl, ℕ, suc, ◌+◌, ◌<◌, ◌≤◌, nat_lt, ◌==◌, ◌||◌, true, false, List, [], ◌∷◌, length, All, None, Ok, arith}
use Rattle.std.specs.List.Sorted.{IsStrictlyIncreasing}
use Rattle.std.proofs.lemmas.Bool.{lt-ltb}
use Rattle.std.proofs.lemmas.Bool.Decides.{nat_tests}
use Rattle.std.proofs.lemmas.List.Elements.{All-tail}
use Rattle.tensor_words.specs.Spaces.{SpaceType, size}
use Rattle.tensor_words.specs.Worlds.{most_cells, world_of, place_of_no_word, place_of_no_rise, place_of_no_rise_after}

all_words : (size n : ℕ) (cs : List ℕ) → All (λ c. c < size) cs → place_of_no_word size n cs ≡ None
all_words size n [] all = refl
all_words size n (c ∷ cs) all =
    let below : nat_lt c size ≡ true = lt-ltb c size (all 0 c (omega arith)) in
    rw below (all_words size (n + 1) cs (All-tail (λ x. x < size) c cs all))

all_rise_after : (n c : ℕ) (cs : List ℕ) → IsStrictlyIncreasing (c ∷ cs) → place_of_no_rise_after n c cs ≡ None
all_rise_after n c [] rise = refl
all_rise_after n c (d ∷ ds) rise =
    let below : nat_lt c d ≡ true = lt-ltb c d (rise 0 (omega arith)) in
    let rest : IsStrictlyIncreasing (d ∷ ds) = λ k lt. let next : suc k + 1 ≡ suc (k + 1) = omega arith in rw next at (rise (suc k) (omega arith)) in
    rw below (all_rise_after (n + 1) d ds rest)

all_rise : (cs : List ℕ) → IsStrictlyIncreasing cs → place_of_no_rise cs ≡ None
all_rise [] rise = refl
all_rise (c ∷ cs) rise = all_rise_after 1 c cs rise

few_cells : (cells : ℕ) → 1 ≤ cells → cells ≤ most_cells → ((cells == 0) || nat_lt most_cells cells) ≡ false
few_cells cells low high = grind (arith, nat_tests)

some_root : (roots : List ℕ) → 0 < length roots → (length roots == 0) ≡ false
some_root roots some = grind (arith, nat_tests)

pub world_made : (s : SpaceType) (cells : ℕ) (roots : List ℕ) → 1 ≤ cells → cells ≤ most_cells → 0 < length roots → IsStrictlyIncreasing roots →
    All (λ c. c < size s) roots → world_of s cells roots ≡ Ok (record { space = s; cells = cells; roots = roots })
unfolding world_of
world_made s cells roots low high some rise all =
    rw (few_cells cells low high, some_root roots some, all_words (size s) 1 roots all, all_rise roots rise) refl
