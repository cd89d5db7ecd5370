-- Worked values of the definitions.
use Rattle.std.proofs.Common.{◌≡◌, refl, [], ◌∷◌, Some, None, pos, negsuc}
use Rattle.crystal_cartan.specs.declared.types.Kind.TheVariants.{B, D}
use Rattle.spin_crystals.specs.Signs.{plus, minus, signs_digit}
use Rattle.spin_crystals.specs.SpinCrystals.{spin_edges, signs_action, spin_digit_action, signs_weight}
use Rattle.spin_crystals.specs.declared.signs.Half.TheVariants.{Plus}

-- in B_2 from ++ to +-, from -+ to --, and from +- to -+
last_sign : (signs_action (record { kind = B; rank = 2 }) 2).lower (plus ∷ plus ∷ []) ≡ Some (plus ∷ minus ∷ [])
unfolding signs_action spin_edges
last_sign = refl

second_last_sign : (signs_action (record { kind = B; rank = 2 }) 2).lower (minus ∷ plus ∷ []) ≡ Some (minus ∷ minus ∷ [])
unfolding signs_action spin_edges
second_last_sign = refl

exchanged : (signs_action (record { kind = B; rank = 2 }) 1).lower (plus ∷ minus ∷ []) ≡ Some (minus ∷ plus ∷ [])
unfolding signs_action spin_edges
exchanged = refl

-- in B_2 the string of index 2 from ++ has one arrow
one_arrow : (signs_action (record { kind = B; rank = 2 }) 2).phi (plus ∷ plus ∷ []) ≡ 1
unfolding signs_action spin_edges
one_arrow = refl

-- in D_4 from ++++ to ++--, and no arrow from ++-+
last_two_signs : (signs_action (record { kind = D; rank = 4 }) 4).lower (plus ∷ plus ∷ plus ∷ plus ∷ []) ≡ Some (plus ∷ plus ∷ minus ∷ minus ∷ [])
unfolding signs_action spin_edges
last_two_signs = refl

no_arrow : (signs_action (record { kind = D; rank = 4 }) 4).lower (plus ∷ plus ∷ minus ∷ plus ∷ []) ≡ None
unfolding signs_action spin_edges
no_arrow = refl

-- the digit of +-- in SpinPlus of D_3 is 1
digit : signs_digit Plus (plus ∷ minus ∷ minus ∷ []) ≡ 1
digit = refl

by_digit : (spin_digit_action (record { kind = D; rank = 3 }) Plus 3).lower 0 ≡ Some 1
unfolding spin_digit_action signs_action spin_edges
by_digit = refl

half_weight : signs_weight (record { kind = B; rank = 2 }) (plus ∷ minus ∷ []) ≡ pos 1 ∷ negsuc 0 ∷ []
unfolding signs_weight
half_weight = refl
