-- Sizes of factors and their products.
use Rattle.std.proofs.Common.{◌≡◌, ◌∙◌, ap, refl, ℕ, ◌+◌, ◌-◌, ◌*◌, ◌≤◌, ◌<◌, min, if◌then◌else◌, ◌&&◌, IsTrue, Bool, true, false, List, [], ◌∷◌, length, map, drop, get_or, Some, None, inl, inr, arith}
use Rattle.std.proofs.Math.Nat.{mul-le-mul_left}
use Rattle.std.proofs.lemmas.Nat.{pow_pos}
use Rattle.std.proofs.lemmas.List.{drop_more, drop_all}
use Rattle.std.proofs.lemmas.Bool.{cases_lt}
use Rattle.std.proofs.lemmas.List.Folds.{list_all_at}
use Rattle.std.specs.List.{list_all}
use Rattle.crystal_cartan.specs.Types.{CartanType, IsCartan, least_rank}
use Rattle.crystal_cartan.specs.declared.types.Kind.{Kind}
use Rattle.crystal_cartan.specs.declared.types.Kind.TheVariants.{A, B, C, D}
use Rattle.vector_crystals.specs.Letters.{letter_count_of}
use Rattle.tensor_words.specs.declared.spaces.Factor.{Factor}
use Rattle.tensor_words.specs.declared.spaces.Factor.TheVariants.{Vector, Spin, SpinPlus, SpinMinus}
use Rattle.tensor_words.specs.Spaces.{base_size, product, has_factor, wrong_place}

pub letters_positive : (k : Kind) (r : ℕ) → least_rank k ≤ r → 1 ≤ letter_count_of k r
letters_positive A r h = omega arith
letters_positive B r h = omega arith
letters_positive C r h = omega arith
letters_positive D r h = omega arith

pub base_positive : (t : CartanType) (f : Factor) → IsCartan t → 1 ≤ base_size t f
unfolding base_size
base_positive t Vector c = letters_positive t.kind t.rank c.low
base_positive t Spin c = omega (arith, pow_pos t.rank)
base_positive t SpinPlus c = omega (arith, pow_pos (t.rank - 1))
base_positive t SpinMinus c = omega (arith, pow_pos (t.rank - 1))

pub times_positive : (a b : ℕ) → 1 ≤ a → 1 ≤ b → 1 ≤ a * b
times_positive a b h k = omega (arith, mul-le-mul_left a k)

pub product_positive : (t : CartanType) (fs : List Factor) → IsCartan t → 1 ≤ product (map (base_size t) fs)
product_positive t [] c = omega arith
product_positive t (f ∷ fs) c = times_positive (base_size t f) (product (map (base_size t) fs)) (base_positive t f c) (product_positive t fs c)

pub capped_more : (a b p m : ℕ) → 1 ≤ p → min (min (a * b) m * p) m ≡ min (a * (b * p)) m
capped_more a b p m h = elim (cases_lt m (a * b)) [ inl over ↦ capped over | inr within ↦ exact within ]
  where
    regrouped : (a * b) * p ≡ a * (b * p)
    regrouped = omega arith

    capped : m < a * b → min (min (a * b) m * p) m ≡ min (a * (b * p)) m
    capped over =
        let first : min (a * b) m ≡ m = omega arith in
        let more : a * b ≤ (a * b) * p = omega (arith, mul-le-mul_left (a * b) h) in
        let whole : m ≤ m * p = omega (arith, mul-le-mul_left m h) in
        rw first (omega (arith, regrouped))

    exact : a * b ≤ m → min (min (a * b) m * p) m ≡ min (a * (b * p)) m
    exact within =
        let first : min (a * b) m ≡ a * b = omega arith in
        rw (first, regrouped) refl

pub all_at : {X : Type 0} (test : X → Bool) (xs : List X) (k : ℕ) (d : X) → k < length xs → IsTrue (list_all test xs) → IsTrue (test (get_or xs k d))
all_at test xs k d lt h =
    elim (test (get_or xs k d)) as (λ b. test (get_or xs k d) ≡ b → IsTrue b) [ true ↦ λ is. refl | false ↦ λ is. cc (list_all_at test xs k d lt is) ] refl

pub had_from_place : (k : Kind) (n : ℕ) (fs : List Factor) → wrong_place k n fs ≡ None → IsTrue (list_all (has_factor k) fs)
had_from_place k n [] h = refl
had_from_place k n (f ∷ fs) h = first_had (has_factor k f) (had_from_place k (n + 1) fs) h
  where
    first_had :
        (b : Bool) → (wrong_place k (n + 1) fs ≡ None → IsTrue (list_all (has_factor k) fs)) →
        (if b then wrong_place k (n + 1) fs else Some n) ≡ None → IsTrue (b && list_all (has_factor k) fs)
    first_had true rest h = rest h
    first_had false rest h = cc

-- one factor more in a product that stops at a bound
pub capped_step :
    (t : CartanType) (fs : List Factor) (k size base next m e : ℕ) → IsCartan t → k < length fs →
    base ≡ base_size t (get_or fs k Vector) → next ≡ min (size * base) m →
    min (size * product (map (base_size t) (drop k fs))) m ≡ e →
    min (next * product (map (base_size t) (drop (k + 1) fs))) m ≡ e
capped_step t fs k size base next m e c lt b n is =
    let p : ℕ = product (map (base_size t) (drop (k + 1) fs)) in
    let split : product (map (base_size t) (drop k fs)) ≡ base_size t (get_or fs k Vector) * p = ap (λ (xs : List Factor). product (map (base_size t) xs)) (drop_more fs k Vector lt) in
    let more : min (min (size * base) m * p) m ≡ min (size * (base * p)) m = capped_more size base p m (product_positive t (drop (k + 1) fs) c) in
    let same : min (size * (base * p)) m ≡ e = rw b (rw (← split) is) in
    rw n (more ∙ same)

pub capped_end :
    (t : CartanType) (fs : List Factor) (k size m e : ℕ) → length fs ≤ k → size ≤ m →
    min (size * product (map (base_size t) (drop k fs))) m ≡ e → size ≡ e
capped_end t fs k size m e all fits is =
    let done : min (size * 1) m ≡ e = rw (drop_all k fs all) at is in
    omega arith
