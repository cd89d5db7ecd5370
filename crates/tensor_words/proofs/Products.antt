-- The two-factor rule for words of any number of factors, one after the other.
use Rattle.std.proofs.Common.{◌≡◌, ◌∙◌, sym, refl, ℕ, ◌+◌, ◌-◌, ◌*◌, nat_le, nat_lt, if◌then◌else◌, IsTrue, Bool, true, false, List, [], ◌∷◌, ◌++◌, map, length, Option, Some, None, ◌⊎◌, inl, inr, arith}
use Rattle.std.specs.List.{list_all}
use Rattle.std.specs.Option.{option_map}
use Rattle.std.proofs.lemmas.Bool.{cases_lt}
use Rattle.std.proofs.lemmas.Bool.Decides.{nat_tests}
use Rattle.std.proofs.lemmas.List.{map-append, length-map}
use Rattle.list_facts.proofs.Truth.{first_true, second_true}
use Rattle.crystal_cartan.specs.Types.{CartanType}
use Rattle.crystal_cartan.specs.Crystals.{Action}
use Rattle.tensor_words.specs.declared.spaces.Factor.{Factor}
use Rattle.tensor_words.specs.declared.spaces.Order.{Order}
use Rattle.tensor_words.specs.declared.spaces.Order.TheVariants.{Standard, Kashiwara}
use Rattle.tensor_words.specs.Spaces.{HasFactors, tensor_space, has_factor, product, base_size, base_action}
use Rattle.tensor_words.specs.Codes.{AreDigits, code, code_of}
use Rattle.tensor_words.specs.TensorRule.{word_phi, word_eps, word_lower, word_raise, word_action, action_in, action, turned}
use Rattle.tensor_words.specs.Laws.{IsStandardProduct, IsKashiwaraProduct, IsProduct, ProductRule, CodesOfProducts}
use Rattle.tensor_words.proofs.Digits.{length_digits}
use Rattle.tensor_words.proofs.Turned.{either_way, all_steady_turned}
use Rattle.tensor_words.proofs.WordLaws.{AreSteady, word_steady}
use Rattle.tensor_words.proofs.WordWeights.{along_steady}

mapped : {A B C : Type 0} (g : B → C) (f : A → B) (o : Option A) → option_map (λ x. g (f x)) o ≡ option_map g (option_map f o)
mapped g f None = refl
mapped g f (Some x) = refl

-- one operator of the first factor and two words: whether it acts on the factor (p), on the first word (q), on the first word with its
-- factor (r); these agree
cons_product : {E : Type 0} (p q r s : Bool) (l : Option E) (m n : Option (List E)) (d : E) (x y : List E)
    → ((p ≡ true) × (r ≡ true) × (s ≡ true)) ⊎ ((p ≡ false) × (q ≡ true) × (r ≡ true) × (s ≡ false)) ⊎ ((p ≡ false) × (q ≡ false) × (r ≡ false))
    → (if p then option_map (λ z. z ∷ (x ++ y)) l else option_map (λ z. d ∷ z) (if q then option_map (λ z. z ++ y) m else option_map (λ z. x ++ z) n))
    ≡ (if r then option_map (λ z. z ++ y) (if s then option_map (λ z. z ∷ x) l else option_map (λ z. d ∷ z) m) else option_map (λ z. (d ∷ x) ++ z) n)
cons_product p q r s (Some e) m n d x y (inl (a, b, c)) = rw (a, b, c) refl
cons_product p q r s None m n d x y (inl (a, b, c)) = rw (a, b, c) refl
cons_product p q r s l (Some v) n d x y (inr (inl (a, b, c, e))) = rw (a, b, c, e) refl
cons_product p q r s l None n d x y (inr (inl (a, b, c, e))) = rw (a, b, c, e) refl
cons_product p q r s l m (Some v) d x y (inr (inr (a, b, c))) = rw (a, b, c) refl
cons_product p q r s l m None d x y (inr (inr (a, b, c))) = rw (a, b, c) refl

-- the tests of the rule at a first factor with e signs eps, a first word with f and g signs phi and eps, and a second with h signs phi
lower_tests : (e f g h : ℕ)
    → ((nat_le (f + (h - g)) e ≡ true) × (nat_le h (g + (e - f)) ≡ true) × (nat_le f e ≡ true))
    ⊎ ((nat_le (f + (h - g)) e ≡ false) × (nat_le h g ≡ true) × (nat_le h (g + (e - f)) ≡ true) × (nat_le f e ≡ false))
    ⊎ ((nat_le (f + (h - g)) e ≡ false) × (nat_le h g ≡ false) × (nat_le h (g + (e - f)) ≡ false))
lower_tests e f g h =
    elim (cases_lt e (f + (h - g))) [
      | inr here ↦ inl (grind (arith, nat_tests), grind (arith, nat_tests), grind (arith, nat_tests))
      | inl later ↦ elim (cases_lt g h) [
        | inr first ↦ inr (inl (grind (arith, nat_tests), grind (arith, nat_tests), grind (arith, nat_tests), grind (arith, nat_tests)))
        | inl second ↦ inr (inr (grind (arith, nat_tests), grind (arith, nat_tests), grind (arith, nat_tests)))
      ]
    ]

raise_tests : (e f g h : ℕ)
    → ((nat_lt (f + (h - g)) e ≡ true) × (nat_lt h (g + (e - f)) ≡ true) × (nat_lt f e ≡ true))
    ⊎ ((nat_lt (f + (h - g)) e ≡ false) × (nat_lt h g ≡ true) × (nat_lt h (g + (e - f)) ≡ true) × (nat_lt f e ≡ false))
    ⊎ ((nat_lt (f + (h - g)) e ≡ false) × (nat_lt h g ≡ false) × (nat_lt h (g + (e - f)) ≡ false))
raise_tests e f g h =
    elim (cases_lt (f + (h - g)) e) [
      | inl here ↦ inl (grind (arith, nat_tests), grind (arith, nat_tests), grind (arith, nat_tests))
      | inr later ↦ elim (cases_lt h g) [
        | inl first ↦ inr (inl (grind (arith, nat_tests), grind (arith, nat_tests), grind (arith, nat_tests), grind (arith, nat_tests)))
        | inr second ↦ inr (inr (grind (arith, nat_tests), grind (arith, nat_tests), grind (arith, nat_tests)))
      ]
    ]

pub standard_product : {E : Type 0} (ps qs : List (Action E)) (x y : List E) → length x ≡ length ps → (word_phi qs y ≡ 0 → word_lower qs y ≡ None)
    → IsStandardProduct (word_action ps) (word_action qs) (word_action (ps ++ qs)) x y
standard_product {E} [] qs [] y size ends = record {
  phi = omega arith;
  eps = omega arith;
  lower = begins_lower (nat_le (word_phi qs y) 0) refl;
  raise = begins_raise (word_raise qs y);
}
  where
    begins_raise : (o : Option (List E)) → o ≡ (if nat_lt (word_phi qs y) 0 then option_map (λ z. z ++ y) None else option_map (λ z. [] ++ z) o)
    begins_raise None = let test : nat_lt (word_phi qs y) 0 ≡ false = grind (arith, nat_tests) in rw test refl
    begins_raise (Some z) = let test : nat_lt (word_phi qs y) 0 ≡ false = grind (arith, nat_tests) in rw test refl

    same : (o : Option (List E)) → o ≡ option_map (λ z. [] ++ z) o
    same None = refl
    same (Some z) = refl

    begins_lower : (b : Bool) → nat_le (word_phi qs y) 0 ≡ b
        → word_lower qs y ≡ (if b then option_map (λ z. z ++ y) None else option_map (λ z. [] ++ z) (word_lower qs y))
    begins_lower true is = ends (grind (arith, nat_tests))
    begins_lower false is = same (word_lower qs y)
standard_product [] qs (d ∷ x) y size ends = absurd (omega arith)
standard_product (p ∷ ps) qs [] y size ends = absurd (omega arith)
standard_product (p ∷ ps) qs (d ∷ x) y size ends =
    let rest : IsStandardProduct (word_action ps) (word_action qs) (word_action (ps ++ qs)) x y = standard_product ps qs x y (omega arith) ends in
    record {
      phi = omega (arith, rest.eps, rest.phi);
      eps = omega (arith, rest.eps, rest.phi);
      lower = rw (rest.phi, rest.lower) (cons_product _ _ _ _ (p.lower d) (word_lower ps x) (word_lower qs y) d x y (lower_tests (p.eps d) (word_phi ps x) (word_eps ps x) (word_phi qs y)));
      raise = rw (rest.phi, rest.raise) (cons_product _ _ _ _ (p.raise d) (word_raise ps x) (word_raise qs y) d x y (raise_tests (p.eps d) (word_phi ps x) (word_eps ps x) (word_phi qs y)));
    }

-- with all actions turned it is the rule of Kashiwara's order
turned_product : {E : Type 0} (a b both : Action (List E)) (x y : List E) → IsStandardProduct a b both x y → IsKashiwaraProduct (turned a) (turned b) (turned both) x y
turned_product a b both x y p = record {
  phi = p.eps;
  eps = p.phi;
  lower = p.raise ∙ sym (either_way (a.eps x) (b.phi y) (option_map (λ z. x ++ z) (b.raise y)) (option_map (λ z. z ++ y) (a.raise x)));
  raise = p.lower ∙ either_way (b.phi y) (a.eps x) (option_map (λ z. z ++ y) (a.lower x)) (option_map (λ z. x ++ z) (b.lower y));
}

pub product_of : {E : Type 0} (o : Order) (ps qs : List (Action E)) (x y : List E) → length x ≡ length ps → AreSteady qs y
    → IsProduct o (action_in o ps) (action_in o qs) (action_in o (ps ++ qs)) x y
product_of Standard ps qs x y size steady = standard_product ps qs x y size (word_steady qs y steady).lower_ends.1
product_of Kashiwara ps qs x y size steady =
    let same : length x ≡ length (map turned ps) = omega (arith, length-map ps turned) in
    let ends = (word_steady (map turned qs) y (all_steady_turned qs y steady)).lower_ends.1 in
    rw (map-append turned ps qs)
    (turned_product _ _ _ x y (standard_product (map turned ps) (map turned qs) x y same ends))

pub product_rule : ProductRule
unfolding action
product_rule o t i fs gs x y had other index word second =
    let size : length x ≡ length (map (base_action t i) fs) = omega (arith, length_digits (map (base_size t) fs) x word, length-map fs (base_size t), length-map fs (base_action t i)) in
    rw (map-append (base_action t i) fs gs)
    (product_of o (map (base_action t i) fs) (map (base_action t i) gs) x y size (along_steady t i had.cartan index gs y other.had second))

-- the digits of two words, one after the other
pub digits_joined : (bs cs x y : List ℕ) → AreDigits bs x → AreDigits cs y → AreDigits (bs ++ cs) (x ++ y)
digits_joined [] cs [] y h k = k
digits_joined [] cs (d ∷ x) y h k = absurd h
digits_joined (b ∷ bs) cs [] y h k = absurd h
digits_joined (b ∷ bs) cs (d ∷ x) y h k = (h.0, digits_joined bs cs x y h.1 k)

pub product_joined : (bs cs : List ℕ) → product (bs ++ cs) ≡ product bs * product cs
product_joined [] cs = omega arith
product_joined (b ∷ bs) cs = rw (product_joined bs cs) (omega arith)

pub code_joined : (bs cs x y : List ℕ) → AreDigits bs x → code (bs ++ cs) (x ++ y) ≡ code bs x * product cs + code cs y
code_joined [] cs [] y h = omega arith
code_joined [] cs (d ∷ x) y h = absurd h
code_joined (b ∷ bs) cs [] y h = absurd h
code_joined (b ∷ bs) cs (d ∷ x) y h = rw (code_joined bs cs x y h.1, product_joined bs cs) (omega arith)

pub codes_of_products : CodesOfProducts
unfolding code_of
codes_of_products t fs gs x y word second =
    rw (map-append (base_size t) fs gs) (
      digits_joined (map (base_size t) fs) (map (base_size t) gs) x y word second,
      code_joined (map (base_size t) fs) (map (base_size t) gs) x y word,
    )

-- the factors of two spaces of one type, one after the other
pub factors_joined : (t : CartanType) (fs gs : List Factor) → HasFactors (tensor_space t fs) → HasFactors (tensor_space t gs) → HasFactors (tensor_space t (fs ++ gs))
factors_joined t fs gs had other = record { cartan = had.cartan; had = joined fs had.had }
  where
    joined : (es : List Factor) → IsTrue (list_all (has_factor t.kind) es) → IsTrue (list_all (has_factor t.kind) (es ++ gs))
    joined [] all = other.had
    joined (e ∷ es) all =
        let first : has_factor t.kind e ≡ true = first_true (has_factor t.kind e) _ all in
        rw first (joined es (second_true (has_factor t.kind e) _ all))
