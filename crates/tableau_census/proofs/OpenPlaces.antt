-- Where an operator of type A changes a word. The index acts between the digits a and a + 1.
use Rattle.std.proofs.Common.{◌≡◌, refl, ℕ, zero, suc, ◌+◌, ◌≤◌, ◌<◌, nat_le, nat_lt, ◌≢◌, List, [], ◌∷◌, length, get_or, set, Some, None, inl, inr, arith}
use Rattle.std.specs.Prelude.{⊤}
use Rattle.std.proofs.lemmas.Bool.{cases_eq}
use Rattle.std.proofs.lemmas.Bool.Decides.{nat_tests}
use Rattle.crystal_cartan.specs.Crystals.{Action}
use Rattle.tensor_words.specs.TensorRule.{word_phi, word_eps, word_lower, word_raise}
use Rattle.tensor_words.proofs.WordLaws.{first_step}

-- the action takes a to a + 1 and leaves every other digit alone, as it is seen at the digit x
pub record IsSwap (act : Action ℕ) (a x : ℕ) : Type 0 where
  pub phi_here : x ≡ a → act.phi x ≡ 1
  pub phi_else : x ≢ a → act.phi x ≡ 0
  pub eps_here : x ≡ a + 1 → act.eps x ≡ 1
  pub eps_else : x ≢ a + 1 → act.eps x ≡ 0
  pub lowered : (y : ℕ) → act.lower x ≡ Some y → (x ≡ a) × (y ≡ a + 1)
  pub raised : (y : ℕ) → act.raise x ≡ Some y → (x ≡ a + 1) × (y ≡ a)

-- each action does so at its digit
abbrev pub AreSwaps : ℕ → List (Action ℕ) → List ℕ → Type 0
AreSwaps a [] [] = ⊤
AreSwaps a [] (x ∷ w) = ⊥
AreSwaps a (act ∷ acts) [] = ⊥
AreSwaps a (act ∷ acts) (x ∷ w) = IsSwap act a x × AreSwaps a acts w

-- the digit d stands at a place between two others
pub record Between (w : List ℕ) (low high d : ℕ) : Type 0 where
  pub at : ℕ
  pub above : low < at
  pub below : at < high
  pub is : get_or w at 0 ≡ d

-- the digit d stands before a place
pub record Before (w : List ℕ) (high d : ℕ) : Type 0 where
  pub at : ℕ
  pub below : at < high
  pub is : get_or w at 0 ≡ d

-- no a behind the place and no a + 1 before it is left without a partner between it and the place
pub record IsOpen (a : ℕ) (w : List ℕ) (place : ℕ) : Type 0 where
  pub behind : (q : ℕ) → place < q → q < length w → get_or w q 0 ≡ a → Between w place q (a + 1)
  pub before : (q : ℕ) → q < place → get_or w q 0 ≡ a + 1 → Between w q place a

-- one digit more in front
shift_before : (w : List ℕ) (x high d : ℕ) → Before w high d → Before (x ∷ w) (suc high) d
shift_before w x high d h = record { at = suc h.at; below = omega (arith, h.below); is = h.is }

shift_between : (w : List ℕ) (x low high d : ℕ) → Between w low high d → Between (x ∷ w) (suc low) (suc high) d
shift_between w x low high d h = record { at = suc h.at; above = omega (arith, h.above); below = omega (arith, h.below); is = h.is }

from_first : (w : List ℕ) (x high d : ℕ) → Before w high d → Between (x ∷ w) 0 (suc high) d
from_first w x high d h = record { at = suc h.at; above = omega arith; below = omega (arith, h.below); is = h.is }

-- where phi of a word is 0 each a has an a + 1 before it
pub no_phi : (a : ℕ) (acts : List (Action ℕ)) (w : List ℕ) (q : ℕ) → AreSwaps a acts w → word_phi acts w ≡ 0 → q < length w → get_or w q 0 ≡ a → Before w q (a + 1)
no_phi a [] [] q swaps none lt is = absurd (omega arith)
no_phi a [] (x ∷ w) q swaps none lt is = absurd swaps
no_phi a (act ∷ acts) [] q swaps none lt is = absurd swaps
no_phi a (act ∷ acts) (x ∷ w) zero swaps none lt is = absurd (omega (arith, swaps.0.phi_here is))
no_phi a (act ∷ acts) (x ∷ w) (suc q) swaps none lt is = elim (cases_eq x (a + 1)) [
  | inl same ↦ record { at = 0; below = omega arith; is = same }
  | inr other ↦
      let rest : word_phi acts w ≡ 0 = omega (arith, swaps.0.eps_else other) in
      shift_before w x q (a + 1) (no_phi a acts w q swaps.1 rest (omega arith) is)
]

-- where phi of a word is not 0 some a stands in it
pub some_phi : (a : ℕ) (acts : List (Action ℕ)) (w : List ℕ) → AreSwaps a acts w → 1 ≤ word_phi acts w → Before w (length w) a
some_phi a [] w swaps some = absurd (omega arith)
some_phi a (act ∷ acts) [] swaps some = absurd swaps
some_phi a (act ∷ acts) (x ∷ w) swaps some = elim (cases_eq x a) [
  | inl same ↦ record { at = 0; below = omega arith; is = same }
  | inr other ↦
      let rest : 1 ≤ word_phi acts w = omega (arith, swaps.0.phi_else other) in
      shift_before w x (length w) a (some_phi a acts w swaps.1 rest)
]

-- where eps of a word is 0 each a + 1 has an a behind it
pub no_eps : (a : ℕ) (acts : List (Action ℕ)) (w : List ℕ) (q : ℕ) → AreSwaps a acts w → word_eps acts w ≡ 0 → q < length w → get_or w q 0 ≡ a + 1 → Between w q (length w) a
no_eps a [] [] q swaps none lt is = absurd (omega arith)
no_eps a [] (x ∷ w) q swaps none lt is = absurd swaps
no_eps a (act ∷ acts) [] q swaps none lt is = absurd swaps
no_eps a (act ∷ acts) (x ∷ w) zero swaps none lt is =
    let some : 1 ≤ word_phi acts w = omega (arith, swaps.0.eps_here is) in
    from_first w x (length w) a (some_phi a acts w swaps.1 some)
no_eps a (act ∷ acts) (x ∷ w) (suc q) swaps none lt is =
    let rest : word_eps acts w ≡ 0 = omega arith in
    shift_between w x q (length w) a (no_eps a acts w q swaps.1 rest (omega arith) is)

-- v is w with the digit `from` at an open place changed to `to`; and where phi of w reaches `need`, an a stands before the place
pub record IsMove (a from to need phi : ℕ) (w v : List ℕ) : Type 0 where
  pub place : ℕ
  pub within : place < length w
  pub is_open : IsOpen a w place
  pub was : get_or w place 0 ≡ from
  pub now : v ≡ set w place to
  pub reached : need ≤ phi → Before w place a

-- the first digit is changed
move_here : (a from to need : ℕ) (act : Action ℕ) (acts : List (Action ℕ)) (x : ℕ) (w : List ℕ)
    → AreSwaps a acts w → x ≡ from → word_phi acts w ≡ 0 → act.phi x < need
    → IsMove a from to need (word_phi (act ∷ acts) (x ∷ w)) (x ∷ w) (to ∷ w)
move_here a from to need act acts x w swaps is none few = record {
  place = 0;
  within = omega arith;
  is_open = record { behind = behind; before = λ q lt same. absurd (omega arith) };
  was = is;
  now = refl;
  reached = λ le. absurd (omega arith);
}
  where
    behind : (q : ℕ) → 0 < q → q < suc (length w) → get_or (x ∷ w) q 0 ≡ a → Between (x ∷ w) 0 q (a + 1)
    behind zero lt within same = absurd (omega arith)
    behind (suc q) lt within same = from_first w x q (a + 1) (no_phi a acts w q swaps none (omega arith) same)

-- a later digit is changed
move_later : (a from to need : ℕ) (act : Action ℕ) (acts : List (Action ℕ)) (x : ℕ) (w v : List ℕ)
    → IsSwap act a x → 1 ≤ need → (x ≡ a + 1 → need ≤ word_phi acts w)
    → IsMove a from to need (word_phi acts w) w v → IsMove a from to need (word_phi (act ∷ acts) (x ∷ w)) (x ∷ w) (x ∷ v)
move_later a from to need act acts x w v swap some high m = record {
  place = suc m.place;
  within = omega (arith, m.within);
  is_open = record { behind = behind; before = before };
  was = m.was;
  now = rw m.now refl;
  reached = reached;
}
  where
    behind : (q : ℕ) → suc m.place < q → q < suc (length w) → get_or (x ∷ w) q 0 ≡ a → Between (x ∷ w) (suc m.place) q (a + 1)
    behind zero lt within same = absurd (omega arith)
    behind (suc q) lt within same = shift_between w x m.place q (a + 1) (m.is_open.behind q (omega arith) (omega arith) same)

    before : (q : ℕ) → q < suc m.place → get_or (x ∷ w) q 0 ≡ a + 1 → Between (x ∷ w) q (suc m.place) a
    before zero lt same = from_first w x m.place a (m.reached (high same))
    before (suc q) lt same = shift_between w x q m.place a (m.is_open.before q (omega arith) same)

    reached : need ≤ word_phi (act ∷ acts) (x ∷ w) → Before (x ∷ w) (suc m.place) a
    reached le = elim (cases_eq x a) [
      | inl same ↦ record { at = 0; below = omega arith; is = same }
      | inr other ↦ shift_before w x m.place a (m.reached (omega (arith, swap.phi_else other)))
    ]

-- lowering changes an a at an open place to a + 1
pub lowers : (a : ℕ) (acts : List (Action ℕ)) (w v : List ℕ) → AreSwaps a acts w → word_lower acts w ≡ Some v → IsMove a a (a + 1) 2 (word_phi acts w) w v
lowers a [] w v swaps is = absurd (nothing v is)
  where
    nothing : (v : List ℕ) → None ≡ Some v → ⊥
    nothing v e = cc
lowers a (act ∷ acts) [] v swaps is = absurd swaps
lowers a (act ∷ acts) (x ∷ w) v swaps is =
    elim (first_step (nat_le (word_phi acts w) (act.eps x)) (act.lower x) (word_lower acts w) x w v is) [
      | inl (z, test, made, e) ↦
          let change : (x ≡ a) × (z ≡ a + 1) = swaps.0.lowered z made in
          let few : word_phi acts w ≤ act.eps x = grind (arith, nat_tests) in
          let none : act.eps x ≡ 0 = swaps.0.eps_else (λ same. omega arith) in
          rw (e, change.1) (move_here a a (a + 1) 2 act acts x w swaps.1 change.0 (omega arith) (omega (arith, swaps.0.phi_here change.0)))
      | inr (z, test, made, e) ↦
          let many : act.eps x < word_phi acts w = grind (arith, nat_tests) in
          rw e (move_later a a (a + 1) 2 act acts x w z swaps.0 (omega arith) (λ same. omega (arith, swaps.0.eps_here same)) (lowers a acts w z swaps.1 made))
    ]

-- raising changes an a + 1 at an open place to a
pub raises : (a : ℕ) (acts : List (Action ℕ)) (w v : List ℕ) → AreSwaps a acts w → word_raise acts w ≡ Some v → IsMove a (a + 1) a 1 (word_phi acts w) w v
raises a [] w v swaps is = absurd (nothing v is)
  where
    nothing : (v : List ℕ) → None ≡ Some v → ⊥
    nothing v e = cc
raises a (act ∷ acts) [] v swaps is = absurd swaps
raises a (act ∷ acts) (x ∷ w) v swaps is =
    elim (first_step (nat_lt (word_phi acts w) (act.eps x)) (act.raise x) (word_raise acts w) x w v is) [
      | inl (z, test, made, e) ↦
          let change : (x ≡ a + 1) × (z ≡ a) = swaps.0.raised z made in
          let few : word_phi acts w < act.eps x = grind (arith, nat_tests) in
          let one : act.eps x ≡ 1 = swaps.0.eps_here change.0 in
          let none : act.phi x ≡ 0 = swaps.0.phi_else (λ same. omega arith) in
          rw (e, change.1) (move_here a (a + 1) a 1 act acts x w swaps.1 change.0 (omega arith) (omega arith))
      | inr (z, test, made, e) ↦
          let many : act.eps x ≤ word_phi acts w = grind (arith, nat_tests) in
          rw e (move_later a (a + 1) a 1 act acts x w z swaps.0 (omega arith) (λ same. omega (arith, swaps.0.eps_here same)) (raises a acts w z swaps.1 made))
    ]
