-- The law of reversal: Kashiwara's order is the standard order on reversed words.
use Rattle.std.proofs.Common.{◌≡◌, ◌∙◌, sym, ap, refl, ℕ, ◌+◌, ◌-◌, nat_le, nat_lt, if◌then◌else◌, IsTrue, Bool, true, false, List, [], ◌∷◌, ◌++◌, map, reverse, length, Option, Some, None, arith}
use Rattle.std.specs.List.{list_all}
use Rattle.std.specs.Option.{option_map}
use Rattle.std.proofs.lemmas.Bool.Decides.{nat_tests}
use Rattle.std.proofs.lemmas.List.{map-append, reverse-append, reverse-reverse, length-reverse}
use Rattle.list_facts.proofs.Truth.{first_true}
use Rattle.crystal_cartan.specs.Types.{CartanType}
use Rattle.crystal_cartan.specs.Crystals.{Action}
use Rattle.tensor_words.specs.declared.spaces.Factor.{Factor}
use Rattle.tensor_words.specs.declared.spaces.Order.TheVariants.{Standard, Kashiwara}
use Rattle.tensor_words.specs.Spaces.{HasFactors, tensor_space, has_factor, base_size, base_action}
use Rattle.tensor_words.specs.TensorRule.{word_phi, word_lower, word_raise, word_action, turned, action_in, action}
use Rattle.tensor_words.specs.Operators.{OneFactorRule}
use Rattle.tensor_words.specs.Codes.{AreDigits}
use Rattle.tensor_words.specs.Laws.{IsStandardProduct, IsReversal, LawOfReversal, WordsReversed}
use Rattle.tensor_words.proofs.KeptWords.{other_factors}
use Rattle.tensor_words.proofs.Products.{standard_product, digits_joined, factors_joined}
use Rattle.tensor_words.proofs.Turned.{either_way, steady_turned}
use Rattle.tensor_words.proofs.WordLaws.{IsSteady, AreSteady}
use Rattle.tensor_words.proofs.WordWeights.{along_steady, digit_steady}

pub reverse_first : {X : Type 0} (x : X) (xs : List X) → reverse (x ∷ xs) ≡ reverse xs ++ (x ∷ [])
reverse_first x xs = reverse-append (x ∷ []) xs

pub map_reversed : {X Y : Type 0} (f : X → Y) (xs : List X) → map f (reverse xs) ≡ reverse (map f xs)
map_reversed f [] = refl
map_reversed f (x ∷ xs) =
    ap (map f) (reverse_first x xs) ∙ map-append f (reverse xs) (x ∷ []) ∙ ap (λ ys. ys ++ (f x ∷ [])) (map_reversed f xs) ∙ sym (reverse_first (f x) (map f xs))

-- a step of the last factor, or of those before it, read from right to left
read_back : {E : Type 0} (b : Bool) (before : Option (List E)) (last : Option E) (x : E) (w : List E)
    → option_map reverse (if b then option_map (λ z. z ++ (x ∷ [])) before else option_map (λ z. reverse w ++ z) (option_map (λ y. y ∷ []) last))
    ≡ (if b then option_map (λ z. x ∷ z) (option_map reverse before) else option_map (λ y. y ∷ w) last)
read_back true None last x w = refl
read_back true (Some z) last x w = ap Some (reverse-append z (x ∷ []))
read_back false before None x w = refl
read_back false before (Some y) x w = ap Some (reverse-append (reverse w) (y ∷ []) ∙ ap (λ v. y ∷ v) (reverse-reverse w))

module _ {E : Type 0} (act : Action E) (x : E) (steady : IsSteady act x) where
  one_lower : word_lower (act ∷ []) (x ∷ []) ≡ option_map (λ y. y ∷ []) (act.lower x)
  one_lower = let test : nat_le 0 (act.eps x) ≡ true = grind (arith, nat_tests) in rw test refl

  one_raise : word_raise (act ∷ []) (x ∷ []) ≡ option_map (λ y. y ∷ []) (act.raise x)
  one_raise = at (nat_lt 0 (act.eps x)) refl
    where
      at : (b : Bool) → nat_lt 0 (act.eps x) ≡ b
          → (if b then option_map (λ z. z ∷ []) (act.raise x) else option_map (λ (z : List E). x ∷ z) None) ≡ option_map (λ y. y ∷ []) (act.raise x)
      at true is = refl
      at false is = let none : act.raise x ≡ None = steady.raise_ends.1 (grind (arith, nat_tests)) in rw none refl

  one_ends : word_phi (act ∷ []) (x ∷ []) ≡ 0 → word_lower (act ∷ []) (x ∷ []) ≡ None
  one_ends is = let none : act.lower x ≡ None = steady.lower_ends.1 (omega arith) in one_lower ∙ ap (option_map (λ y. y ∷ [])) none

pub reversal : {E : Type 0} (acts : List (Action E)) (w : List E) → AreSteady acts w → length w ≡ length acts → IsReversal (action_in Kashiwara acts) (word_action (reverse acts)) w
reversal [] [] steady size = record { eps = refl; phi = refl; lower = refl; raise = refl }
reversal [] (x ∷ w) steady size = absurd steady
reversal (act ∷ acts) [] steady size = absurd steady
reversal (act ∷ acts) (x ∷ w) steady size =
    let rest : IsReversal (action_in Kashiwara acts) (word_action (reverse acts)) w = reversal acts w steady.1 (omega arith) in
    let same : length (reverse w) ≡ length (reverse acts) = omega (arith, length-reverse w, length-reverse acts) in
    let p : IsStandardProduct (word_action (reverse acts)) (word_action (act ∷ [])) (word_action (reverse acts ++ (act ∷ []))) (reverse w) (x ∷ []) =
    standard_product (reverse acts) (act ∷ []) (reverse w) (x ∷ []) same (one_ends act x steady.0) in
    let last : act.phi x + (0 - act.eps x) ≡ act.phi x = omega arith in
    rw (reverse_first act acts) (record {
      eps = rw (reverse_first x w) (omega (arith, p.eps, rest.eps));
      phi = rw (reverse_first x w) (omega (arith, p.phi, rest.phi, rest.eps));
      lower =
          sym (either_way (act.phi x) (word_phi (map turned acts) w) (option_map (λ z. x ∷ z) (word_raise (map turned acts) w)) (option_map (λ z. z ∷ w) (act.lower x)))
          ∙ rw (reverse_first x w, p.lower, one_lower act x steady.0, last, rest.eps, rest.lower) (sym (read_back _ _ (act.lower x) x w));
      raise =
          either_way (word_phi (map turned acts) w) (act.phi x) (option_map (λ z. z ∷ w) (act.raise x)) (option_map (λ z. x ∷ z) (word_lower (map turned acts) w))
          ∙ rw (reverse_first x w, p.raise, one_raise act x steady.0, last, rest.eps, rest.raise) (sym (read_back _ _ (act.raise x) x w));
    })

-- one digit of a factor that the type has
pub one_factor_rule : OneFactorRule
unfolding action
one_factor_rule Standard t i f d c index had below =
    let steady : IsSteady (base_action t i f) d = digit_steady t i f d c index had below in
    record { eps = omega arith; phi = omega arith; lower = one_lower (base_action t i f) d steady; raise = one_raise (base_action t i f) d steady }
one_factor_rule Kashiwara t i f d c index had below =
    let steady : IsSteady (turned (base_action t i f)) d = steady_turned (base_action t i f) d (digit_steady t i f d c index had below) in
    record { eps = omega arith; phi = omega arith; lower = one_raise (turned (base_action t i f)) d steady; raise = one_lower (turned (base_action t i f)) d steady }

pub law_of_reversal : LawOfReversal
unfolding action
law_of_reversal t i fs w had index word =
    let steady : AreSteady (map (base_action t i) fs) w = along_steady t i had.cartan index fs w had.had word in
    rw (map_reversed (base_action t i) fs) (reversal (map (base_action t i) fs) w steady (lengths (map (base_action t i) fs) w steady))
  where
    lengths : (acts : List (Action ℕ)) (v : List ℕ) → AreSteady acts v → length v ≡ length acts
    lengths [] [] h = refl
    lengths [] (x ∷ v) h = absurd h
    lengths (act ∷ acts) [] h = absurd h
    lengths (act ∷ acts) (x ∷ v) h = omega (arith, lengths acts v h.1)

reversed_factors : (t : CartanType) (fs : List Factor) → HasFactors (tensor_space t fs) → HasFactors (tensor_space t (reverse fs))
reversed_factors t [] had = had
reversed_factors t (f ∷ fs) had =
    let rest : HasFactors (tensor_space t (reverse fs)) = reversed_factors t fs (record { cartan = had.cartan; had = other_factors t f fs had.had }) in
    let first : HasFactors (tensor_space t (f ∷ [])) = record { cartan = had.cartan; had = alone f (first_true (has_factor t.kind f) _ had.had) } in
    rw (reverse_first f fs) (factors_joined t (reverse fs) (f ∷ []) rest first)
  where
    alone : (g : Factor) → IsTrue (has_factor t.kind g) → IsTrue (list_all (has_factor t.kind) (g ∷ []))
    alone g is = let test : has_factor t.kind g ≡ true = is in rw test refl

reversed_digits : (bs ds : List ℕ) → AreDigits bs ds → AreDigits (reverse bs) (reverse ds)
reversed_digits [] [] h = tt
reversed_digits [] (d ∷ ds) h = absurd h
reversed_digits (b ∷ bs) [] h = absurd h
reversed_digits (b ∷ bs) (d ∷ ds) h =
    rw (reverse_first b bs, reverse_first d ds) (digits_joined (reverse bs) (b ∷ []) (reverse ds) (d ∷ []) (reversed_digits bs ds h.1) (h.0, tt))

pub words_reversed : WordsReversed
words_reversed t fs w had word =
    (reversed_factors t fs had, rw (map_reversed (base_size t) fs) (reversed_digits (map (base_size t) fs) w word))
