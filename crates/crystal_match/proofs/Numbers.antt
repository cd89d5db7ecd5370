-- Lists of arrows as numbers.
use Rattle.std.proofs.Common.{◌≡◌, refl, sym, ap, ℕ, ◌+◌, ◌*◌, ◌<◌, ◌≤◌, ◌==◌, ◌&&◌, ◌||◌, nat_lt, Bool, true, false, true≢false, IsTrue, inl, inr, ◌⊎◌, List, [], ◌∷◌, ◌++◌, map, length, arith}
use Rattle.std.proofs.Math.Nat.{mul-le-mul_left, mul-le-mul_right}
use Rattle.std.proofs.lemmas.Bool.{cases_lt, cases_eq}
use Rattle.std.proofs.lemmas.Bool.Decides.{nat_tests}
use Rattle.crystal_cartan.specs.declared.types.Arrow.{Arrow}
use Rattle.tensor_words.specs.Spaces.{SpaceType}
use Rattle.tensor_words.specs.Codes.{is_before}
use Rattle.tensor_words.specs.Operators.{IsArrow}
use Rattle.tensor_words.specs.Reach.{IsPath}
use Rattle.signature_rule.specs.ArrowOrder.{arrow_place}
use Rattle.crystal_match.specs.Search.{number_from}

-- an arrow's place is below twice the rank
pub place_below : (s : SpaceType) (a : Arrow) → IsArrow s a → arrow_place s.cartan.rank a < s.cartan.rank + s.cartan.rank
place_below s a fits = by a.down a.index fits.index.low fits.index.high
  where
    by : (down : Bool) (i : ℕ) → 1 ≤ i → i ≤ s.cartan.rank → arrow_place s.cartan.rank (record { down = down; index = i }) < s.cartan.rank + s.cartan.rank
    by true i low high = omega arith
    by false i low high = omega arith

-- arrows of one place are one arrow
pub same_arrow : (s : SpaceType) (a b : Arrow) → IsArrow s a → IsArrow s b → arrow_place s.cartan.rank a ≡ arrow_place s.cartan.rank b → a ≡ b
same_arrow s a b first second is = by a.down a.index b.down b.index first.index.low first.index.high second.index.low second.index.high is
  where
    made : (down : Bool) (i j : ℕ) → i ≡ j → (let x : Arrow = record { down = down; index = i } in let y : Arrow = record { down = down; index = j } in x ≡ y)
    made down i j same = ap (λ (n : ℕ). let x : Arrow = record { down = down; index = n } in x) same

    by : (da : Bool) (i : ℕ) (db : Bool) (j : ℕ) → 1 ≤ i → i ≤ s.cartan.rank → 1 ≤ j → j ≤ s.cartan.rank
        → arrow_place s.cartan.rank (record { down = da; index = i }) ≡ arrow_place s.cartan.rank (record { down = db; index = j })
        → (let x : Arrow = record { down = da; index = i } in let y : Arrow = record { down = db; index = j } in x ≡ y)
    by true i true j li hi lj hj at = made true i j (omega arith)
    by true i false j li hi lj hj at = absurd (omega arith)
    by false i true j li hi lj hj at = absurd (omega arith)
    by false i false j li hi lj hj at = made false i j (omega arith)

-- one digit more
pub digit_less : (b i j d e : ℕ) → i < j → d < b → i * b + d < j * b + e
digit_less b i j d e less low = let up : (i + 1) * b ≤ j * b = mul-le-mul_right b (omega arith) in omega (arith, up)

pub digit_most : (b i j d : ℕ) → i ≤ j → i * b + d ≤ j * b + d
digit_most b i j d most = let up : i * b ≤ j * b = mul-le-mul_right b most in omega (arith, up)

-- an arrow more at the end
pub numbered-push : (r k : ℕ) (path : List Arrow) (a : Arrow) → number_from r k (path ++ a ∷ []) ≡ number_from r k path * (r + r) + arrow_place r a
numbered-push r k [] a = refl
numbered-push r k (b ∷ path) a = numbered-push r (k * (r + r) + arrow_place r b) path a

pub numbered_most : (r i j : ℕ) (path : List Arrow) → i ≤ j → number_from r i path ≤ number_from r j path
numbered_most r i j [] most = most
numbered_most r i j (a ∷ path) most =
    numbered_most r (i * (r + r) + arrow_place r a) (j * (r + r) + arrow_place r a) path (digit_most (r + r) i j (arrow_place r a) most)

pub numbered_grows : (r k : ℕ) (path : List Arrow) → 1 ≤ r → k ≤ number_from r k path
numbered_grows r k [] some = omega arith
numbered_grows r k (a ∷ path) some =
    let up : k * 1 ≤ k * (r + r) = mul-le-mul_left k (omega arith) in
    let rest = numbered_grows r (k * (r + r) + arrow_place r a) path some in
    omega (arith, up, rest)

numbered_less : (s : SpaceType) (i j : ℕ) (p q : List Arrow) → IsPath s p → length p ≡ length q → i < j
    → number_from s.cartan.rank i p < number_from s.cartan.rank j q
numbered_less s i j [] [] arrows same less = less
numbered_less s i j [] (b ∷ q) arrows same less = absurd (omega arith)
numbered_less s i j (a ∷ p) [] arrows same less = absurd (omega arith)
numbered_less s i j (a ∷ p) (b ∷ q) arrows same less =
    let r = s.cartan.rank in
    numbered_less s (i * (r + r) + arrow_place r a) (j * (r + r) + arrow_place r b) p q arrows.1 (omega arith)
    (digit_less (r + r) i j (arrow_place r a) (arrow_place r b) less (place_below s a arrows.0))

not_true : IsTrue false → ⊥
not_true is = true≢false (sym is)

first_or_rest : (d e : ℕ) (rest : Bool) → IsTrue (nat_lt d e || ((d == e) && rest)) → (d < e) ⊎ ((d ≡ e) × IsTrue rest)
first_or_rest d e rest h = elim (cases_lt d e) [
  | inl less ↦ inl less
  | inr over ↦ elim (cases_eq d e) [
    | inl same ↦ inr (same, by rest (grind (arith, nat_tests)))
    | inr other ↦ absurd (grind (arith, nat_tests))
  ]
]
  where
    by : (b : Bool) → IsTrue b → IsTrue b
    by b is = is

-- of two lists of one length the lexicographically lesser has the lesser number
pub numbered_before : (s : SpaceType) (k : ℕ) (p q : List Arrow) → IsPath s p → length p ≡ length q
    → IsTrue (is_before (map (arrow_place s.cartan.rank) p) (map (arrow_place s.cartan.rank) q)) → number_from s.cartan.rank k p < number_from s.cartan.rank k q
numbered_before s k [] q arrows same before = absurd (not_true before)
numbered_before s k (a ∷ p) [] arrows same before = absurd (not_true before)
numbered_before s k (a ∷ p) (b ∷ q) arrows same before =
    let r = s.cartan.rank in
    elim (first_or_rest (arrow_place r a) (arrow_place r b) (is_before (map (arrow_place r) p) (map (arrow_place r) q)) before) [
      | inl less ↦
          numbered_less s (k * (r + r) + arrow_place r a) (k * (r + r) + arrow_place r b) p q arrows.1 (omega arith) (omega (arith, less))
      | inr rest ↦ rw (sym rest.0) (numbered_before s (k * (r + r) + arrow_place r a) p q arrows.1 (omega arith) rest.1)
    ]

-- the shorter list has the lesser number
pub numbered_shorter : (s : SpaceType) (i j : ℕ) (p q : List Arrow) → 1 ≤ s.cartan.rank → IsPath s p → length p < length q → 1 ≤ j → i < j + j
    → number_from s.cartan.rank i p < number_from s.cartan.rank j q
numbered_shorter s i j p [] some arrows short one less = absurd (omega arith)
numbered_shorter s i j [] (b ∷ q) some arrows short one less =
    let r = s.cartan.rank in
    let up : j * 2 ≤ j * (r + r) = mul-le-mul_left j (omega arith) in
    let rest = numbered_grows r (j * (r + r) + arrow_place r b) q some in
    omega (arith, up, rest)
numbered_shorter s i j (a ∷ p) (b ∷ q) some arrows short one less =
    let r = s.cartan.rank in
    let up : (i + 1) * (r + r) ≤ (j + j) * (r + r) = mul-le-mul_right (r + r) (omega arith) in
    let low = place_below s a arrows.0 in
    let more : j * 2 ≤ j * (r + r) = mul-le-mul_left j (omega arith) in
    numbered_shorter s (i * (r + r) + arrow_place r a) (j * (r + r) + arrow_place r b) p q some arrows.1 (omega arith)
    (omega (arith, more)) (omega (arith, up, low))

-- a list with a number up to another's is no longer, and where it is as long not behind it
pub no_longer : (s : SpaceType) (p q : List Arrow) → 1 ≤ s.cartan.rank → IsPath s q → number_from s.cartan.rank 1 p ≤ number_from s.cartan.rank 1 q → length p ≤ length q
no_longer s p q some arrows most = elim (cases_lt (length q) (length p)) [
  | inl less ↦ absurd (omega (arith, most, numbered_shorter s 1 1 q p some arrows less (omega arith) (omega arith)))
  | inr over ↦ over
]

pub not_behind : (s : SpaceType) (p q : List Arrow) → IsPath s q → number_from s.cartan.rank 1 p ≤ number_from s.cartan.rank 1 q → length q ≡ length p
    → IsTrue (is_before (map (arrow_place s.cartan.rank) q) (map (arrow_place s.cartan.rank) p)) → ⊥
not_behind s p q arrows most same before = omega (arith, most, numbered_before s 1 q p arrows same before)
