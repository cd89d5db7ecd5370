-- Worked values of the definitions.
use Rattle.std.proofs.Common.{◌≡◌, refl, [], ◌∷◌, Some, pos, negsuc}
use Rattle.crystal_cartan.specs.Types.{CartanType}
use Rattle.crystal_cartan.specs.declared.types.Kind.TheVariants.{B, C, D}
use Rattle.vector_crystals.specs.Letters.{letters, letter_digit}
use Rattle.vector_crystals.specs.VectorCrystals.{vector_edges, letter_action, letter_weight, digit_action}

abbrev b2 : CartanType
b2 = record { kind = B; rank = 2 }

abbrev c2 : CartanType
c2 = record { kind = C; rank = 2 }

abbrev d4 : CartanType
d4 = record { kind = D; rank = 4 }

-- the two last arrows of D_4
last_arrow_D_3 : (letter_action d4 4).lower (pos 3) ≡ Some (negsuc 3)
unfolding letter_action vector_edges
last_arrow_D_3 = refl

last_arrow_D_4 : (letter_action d4 4).lower (pos 4) ≡ Some (negsuc 2)
unfolding letter_action vector_edges
last_arrow_D_4 = refl

-- the last string of B_2 goes through the letter 0
last_arrow_B_2 : (letter_action b2 2).lower (pos 2) ≡ Some (pos 0)
unfolding letter_action vector_edges
last_arrow_B_2 = refl

last_arrow_B_0 : (letter_action b2 2).lower (pos 0) ≡ Some (negsuc 1)
unfolding letter_action vector_edges
last_arrow_B_0 = refl

eps_B_0 : (letter_action b2 2).eps (pos 0) ≡ 1
unfolding letter_action vector_edges
eps_B_0 = refl

phi_B_0 : (letter_action b2 2).phi (pos 0) ≡ 1
unfolding letter_action vector_edges
phi_B_0 = refl

last_arrow_C_2 : (letter_action c2 2).lower (pos 2) ≡ Some (negsuc 1)
unfolding letter_action vector_edges
last_arrow_C_2 = refl

digit_C_2 : letter_digit c2 (negsuc 1) ≡ 2
unfolding letters
digit_C_2 = refl

digit_B_0 : letter_digit b2 (pos 0) ≡ 2
unfolding letters
digit_B_0 = refl

weight_D_2 : letter_weight d4 (negsuc 1) ≡ pos 0 ∷ negsuc 1 ∷ pos 0 ∷ pos 0 ∷ []
unfolding letter_weight
weight_D_2 = refl

digits_D_3 : (digit_action d4 4).lower 2 ≡ Some 4
unfolding digit_action letter_action vector_edges letters
digits_D_3 = refl
