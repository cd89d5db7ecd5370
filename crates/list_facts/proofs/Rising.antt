-- Lists of numbers that rise: each number is below all later ones.
use Rattle.std.proofs.Common.{◌≡◌, sym, refl, ℕ, zero, suc, ◌+◌, ◌<◌, List, [], ◌∷◌, length, get_or, Contains, inl, inr, arith}
use Rattle.std.specs.List.{AllPairs}
use Rattle.std.specs.List.Sorted.{IsStrictlyIncreasing}
use Rattle.list_facts.proofs.Lists.{in_first, in_rest, in_cons}

abbrev pub Rises : List ℕ → Type 0
Rises xs = AllPairs (λ x y. x < y) xs

-- each is below the next
pub increasing : (xs : List ℕ) → Rises xs → IsStrictlyIncreasing xs
increasing xs h k lt = h k (k + 1) 0 (omega arith) lt

pub rising-cons : (c d : ℕ) (ds : List ℕ) → c < d → IsStrictlyIncreasing (d ∷ ds) → IsStrictlyIncreasing (c ∷ d ∷ ds)
rising-cons c d ds lt rest = λ k. at k
  where
    at : (k : ℕ) → k + 1 < length (c ∷ d ∷ ds) → get_or (c ∷ d ∷ ds) k 0 < get_or (c ∷ d ∷ ds) (k + 1) 0
    at zero within = lt
    at (suc k) within = let next : suc k + 1 ≡ suc (k + 1) = omega arith in rw next (rest k (omega arith))

-- two rising lists with the same members
rises_later : (x : ℕ) (xs : List ℕ) → Rises (x ∷ xs) → Rises xs
rises_later x xs h = λ i j d low high. h (suc i) (suc j) d (omega arith) (omega arith)

first_is_least : (x : ℕ) (xs : List ℕ) (c : ℕ) → Rises (x ∷ xs) → Contains xs c → x < c
first_is_least x xs c h (k, below, is) =
    let low : x < get_or xs k c = h zero (suc k) c (omega arith) (omega arith) in
    rw is at low

same_first : (x y : ℕ) (xs ys : List ℕ) → Rises (x ∷ xs) → Rises (y ∷ ys) → Contains (y ∷ ys) x → Contains (x ∷ xs) y → x ≡ y
same_first x y xs ys p q left right =
    elim (in_cons y ys x left) [
      | inl is ↦ sym is
      | inr later ↦ elim (in_cons x xs y right) [
        | inl is ↦ is
        | inr after ↦ absurd (omega (arith, first_is_least y ys x q later, first_is_least x xs y p after))
      ]
    ]

later_members : (x y : ℕ) (xs ys : List ℕ) → Rises (x ∷ xs) → x ≡ y → ((c : ℕ) → Contains (x ∷ xs) c → Contains (y ∷ ys) c)
    → (c : ℕ) → Contains xs c → Contains ys c
later_members x y xs ys p same to c within =
    elim (in_cons y ys c (to c (in_rest x xs c within))) [
      | inl is ↦ absurd (omega (arith, first_is_least x xs c p within))
      | inr later ↦ later
    ]

pub same_members : (xs ys : List ℕ) → Rises xs → Rises ys → ((c : ℕ) → Contains xs c → Contains ys c) → ((c : ℕ) → Contains ys c → Contains xs c) → xs ≡ ys
same_members [] [] p q to from = refl
same_members [] (y ∷ ys) p q to from = absurd (omega (arith, (from y (in_first y ys)).1))
same_members (x ∷ xs) [] p q to from = absurd (omega (arith, (to x (in_first x xs)).1))
same_members (x ∷ xs) (y ∷ ys) p q to from =
    let first : x ≡ y = same_first x y xs ys p q (to x (in_first x xs)) (from y (in_first y ys)) in
    let rest : xs ≡ ys = same_members xs ys (rises_later x xs p) (rises_later y ys q)
    (later_members x y xs ys p first to) (later_members y x ys xs q (sym first) from) in
    rw (first, rest) refl
