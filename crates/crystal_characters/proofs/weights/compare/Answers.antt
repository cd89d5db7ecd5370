use Rattle.std.proofs.Common.{◌≡◌, ◌∙◌, sym, refl, ℕ, ◌-◌, ◌≤◌, ◌⊎◌, inl, inr, nat_lt, ◌==◌, true, false, List, [], ◌∷◌, length, drop, ℤ, arith, length-drop}
use Rattle.std.specs.Ordering.{nat_cmp}
use Rattle.std.proofs.lemmas.Bool.{cases_lt}
use Rattle.std.proofs.lemmas.Bool.Decides.{nat_tests}
use Rattle.crystal_characters.specs.Characters.{weight_order}
use Rattle.crystal_characters.proofs.weights.compare.Goals as goal

shorter : (xs ys : List ℤ) → (length xs ≡ 0) ⊎ (length ys ≡ 0) → weight_order xs ys ≡ nat_cmp (length xs) (length ys)
shorter [] [] h = refl
shorter [] (y ∷ ys) h =
    let less : nat_lt 0 (length (y ∷ ys)) ≡ true = grind (arith, nat_tests) in
    rw less refl
shorter (x ∷ xs) [] h =
    let not_less : nat_lt (length (x ∷ xs)) 0 ≡ false = grind (arith, nat_tests) in
    let other : (length (x ∷ xs) == 0) ≡ false = grind (arith, nat_tests) in
    rw (not_less, other) refl
shorter (x ∷ xs) (y ∷ ys) (inl h) = absurd (omega arith)
shorter (x ∷ xs) (y ∷ ys) (inr h) = absurd (omega arith)

shifted : (a b n : ℕ) → n ≤ a → n ≤ b → nat_cmp (a - n) (b - n) ≡ nat_cmp a b
shifted a b n left right =
    let less : nat_lt (a - n) (b - n) ≡ nat_lt a b = grind (arith, nat_tests) in
    let same : ((a - n) == (b - n)) ≡ (a == b) = grind (arith, nat_tests) in
    rw (less, same) refl

one_ended : (v w : List ℤ) (n : ℕ) → (length v ≤ n) ⊎ (length w ≤ n) → (length (drop n v) ≡ 0) ⊎ (length (drop n w) ≡ 0)
one_ended v w n (inl h) = inl (omega (arith, length-drop n v))
one_ended v w n (inr h) = inr (omega (arith, length-drop n w))

ended : (v w : List ℤ) (n : ℕ) → n ≤ length v → n ≤ length w → (length v ≤ n) ⊎ (length w ≤ n)
    → weight_order (drop n v) (drop n w) ≡ nat_cmp (length v) (length w)
ended v w n left right one =
    shorter (drop n v) (drop n w) (one_ended v w n one) ∙ rw (length-drop n v, length-drop n w) (shifted (length v) (length w) n left right)

pub returns : goal.returns
returns c =
    let v = c.args.left.now in
    let w = c.args.right.now in
    let n = c.places.place in
    let left : n ≤ length v = omega (arith, c.min-shared.ensures) in
    let right : n ≤ length w = omega (arith, c.min-shared.ensures) in
    let one : (length v ≤ n) ⊎ (length w ≤ n) = elim (cases_lt n (length v)) [
      | inl less ↦ inr (omega (arith, c.min-shared.ensures))
      | inr over ↦ inl over
    ] in
    c.cmp.ensures ∙ rw (c.coordinates-3.ensures.size, c.coordinates-4.ensures.size) (sym (ended v w n left right one)) ∙ c.places.invariant
