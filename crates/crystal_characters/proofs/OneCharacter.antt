-- A falling list of weights with their multiplicities is told by the weights that it lists.
use Rattle.std.proofs.Common.{◌≡◌, ◌∙◌, sym, refl, ap, ap₂, subst, ℕ, zero, suc, ◌<◌, inl, inr, List, [], ◌∷◌, length, get_or, ℤ, Contains, All, arith}
use Rattle.std.specs.declared.cmp.Ordering.TheVariants.{Greater}
use Rattle.std.proofs.lemmas.List.{get_or-map, length-map}
use Rattle.crystal_characters.specs.declared.tallies.Multiplicity.{Multiplicity}
use Rattle.crystal_characters.specs.Characters.{weight_order, multiplicity, IsFalling, CharactersAreUnique}
use Rattle.crystal_characters.proofs.Counted.{falling_tail}
use Rattle.list_facts.proofs.Lists.{in_cons, in_first, in_rest}
use Rattle.crystal_characters.proofs.Tallying.{weights_in}
use Rattle.crystal_characters.proofs.WeightOrder.{same_itself, above_above, above_differs}

above_listed : (m : Multiplicity) (ms : List Multiplicity) (v : List ℤ) → IsFalling (m ∷ ms) → Contains (weights_in ms) v → weight_order m.weight v ≡ Greater
above_listed m ms v falling (k, lt, is) =
    let within : k < length ms = omega (arith, lt, length-map ms (λ x. x.weight)) in
    let here : (get_or ms k m).weight ≡ v = sym (get_or-map (λ x. x.weight) ms k m v within) ∙ is in
    subst (λ (w : List ℤ). weight_order m.weight w ≡ Greater) here (falling zero (suc k) m (omega arith) (omega (arith, within)))

not_above_itself : (w : List ℤ) {P : Type 0} → weight_order w w ≡ Greater → P
not_above_itself w is =
    let apart = above_differs w w is in
    let same = same_itself w in
    absurd (cc)

none_listed : (v : List ℤ) {P : Type 0} → Contains (weights_in []) v → P
none_listed v h = absurd (omega (arith, h.1))

one_list : (count : List ℤ → ℕ) (ms ns : List Multiplicity) → IsFalling ms → IsFalling ns → All (λ m. m.times ≡ count m.weight) ms → All (λ m. m.times ≡ count m.weight) ns
    → ((v : List ℤ) → Contains (weights_in ms) v → Contains (weights_in ns) v) → ((v : List ℤ) → Contains (weights_in ns) v → Contains (weights_in ms) v) → ms ≡ ns
one_list count [] [] left right few more to from = refl
one_list count [] (n ∷ ns) left right few more to from = none_listed n.weight (from n.weight (in_first n.weight (weights_in ns)))
one_list count (m ∷ ms) [] left right few more to from = none_listed m.weight (to m.weight (in_first m.weight (weights_in ms)))
one_list count (m ∷ ms) (n ∷ ns) left right few more to from =
    ap₂ (λ x xs. x ∷ xs) (ap₂ made weight times)
    (one_list count ms ns (falling_tail m ms left) (falling_tail n ns right) (λ k d lt. few (suc k) d (omega (arith, lt))) (λ k d lt. more (suc k) d (omega (arith, lt)))
    (λ v there. elim (in_cons n.weight (weights_in ns) v (to v (in_rest m.weight (weights_in ms) v there))) [
      | inl same ↦ not_above_itself v (subst (λ (w : List ℤ). weight_order w v ≡ Greater) (weight ∙ same) (above_listed m ms v left there))
      | inr later ↦ later
    ])
    (λ v there. elim (in_cons m.weight (weights_in ms) v (from v (in_rest n.weight (weights_in ns) v there))) [
      | inl same ↦ not_above_itself v (subst (λ (w : List ℤ). weight_order w v ≡ Greater) (sym weight ∙ same) (above_listed n ns v right there))
      | inr later ↦ later
    ]))
  where
    made : List ℤ → ℕ → Multiplicity
    made w k = record { weight = w; times = k }

    weight : m.weight ≡ n.weight
    weight = elim (in_cons n.weight (weights_in ns) m.weight (to m.weight (in_first m.weight (weights_in ms)))) [
      | inl same ↦ sym same
      | inr later ↦ elim (in_cons m.weight (weights_in ms) n.weight (from n.weight (in_first n.weight (weights_in ns)))) [
        | inl same ↦ same
        | inr after ↦ not_above_itself n.weight (above_above n.weight m.weight n.weight (above_listed n ns m.weight right later) (above_listed m ms n.weight left after))
      ]
    ]

    times : m.times ≡ n.times
    times = few 0 m (omega arith) ∙ ap count weight ∙ sym (more 0 n (omega arith))

pub characters_are_unique : CharactersAreUnique
characters_are_unique f ms ns left right =
    one_list (multiplicity f) ms ns left.falling right.falling left.times right.times (λ v there. (right.listed v).1 ((left.listed v).0 there))
    (λ v there. (left.listed v).1 ((right.listed v).0 there))
