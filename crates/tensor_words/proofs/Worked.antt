-- Worked values of the definitions.
use Rattle.std.proofs.Common.{◌≡◌, refl, [], ◌∷◌, Some, None}
use Rattle.crystal_cartan.specs.declared.types.Kind.TheVariants.{A, B, C}
use Rattle.vector_crystals.specs.Letters.{letters}
use Rattle.vector_crystals.specs.VectorCrystals.{vector_edges, letter_action, digit_action}
use Rattle.tensor_words.specs.declared.spaces.Factor.TheVariants.{Vector, Spin}
use Rattle.tensor_words.specs.declared.spaces.Order.TheVariants.{Kashiwara}
use Rattle.tensor_words.specs.Spaces.{SpaceType, tensor_space, ordered, base_size, base_action, sizes}
use Rattle.tensor_words.specs.Codes.{code, word}
use Rattle.tensor_words.specs.TensorRule.{action}

-- in C_2 the word -2 1 2 (digits 2 0 1) at the index 1
abbrev space : SpaceType
space = tensor_space (record { kind = C; rank = 2 }) (Vector ∷ Vector ∷ Vector ∷ [])

eps_is : (action space 1).eps (2 ∷ 0 ∷ 1 ∷ []) ≡ 1
unfolding action base_action digit_action letter_action vector_edges letters
eps_is = refl

phi_is : (action space 1).phi (2 ∷ 0 ∷ 1 ∷ []) ≡ 2
unfolding action base_action digit_action letter_action vector_edges letters
phi_is = refl

-- f gives -2 2 2, e gives -2 1 1
lower_is : (action space 1).lower (2 ∷ 0 ∷ 1 ∷ []) ≡ Some (2 ∷ 1 ∷ 1 ∷ [])
unfolding action base_action digit_action letter_action vector_edges letters
lower_is = refl

raise_is : (action space 1).raise (2 ∷ 0 ∷ 1 ∷ []) ≡ Some (2 ∷ 0 ∷ 0 ∷ [])
unfolding action base_action digit_action letter_action vector_edges letters
raise_is = refl

-- in Kashiwara's order the word 2 1 -2, the same read from right to left
abbrev other : SpaceType
other = ordered Kashiwara space

other_eps : (action other 1).eps (1 ∷ 0 ∷ 2 ∷ []) ≡ 1
unfolding action base_action digit_action letter_action vector_edges letters
other_eps = refl

other_phi : (action other 1).phi (1 ∷ 0 ∷ 2 ∷ []) ≡ 2
unfolding action base_action digit_action letter_action vector_edges letters
other_phi = refl

other_lower : (action other 1).lower (1 ∷ 0 ∷ 2 ∷ []) ≡ Some (1 ∷ 1 ∷ 2 ∷ [])
unfolding action base_action digit_action letter_action vector_edges letters
other_lower = refl

other_raise : (action other 1).raise (1 ∷ 0 ∷ 2 ∷ []) ≡ Some (0 ∷ 0 ∷ 2 ∷ [])
unfolding action base_action digit_action letter_action vector_edges letters
other_raise = refl

-- in A_1 the word 1 2 of v v stands alone in Kashiwara's order
alone : (action (ordered Kashiwara (tensor_space (record { kind = A; rank = 1 }) (Vector ∷ Vector ∷ []))) 1).lower (0 ∷ 1 ∷ []) ≡ None
unfolding action base_action digit_action letter_action vector_edges letters
alone = refl

-- in A_2 the word 2 1 1 has the code 9, 3 2 3 has 23
code_first : code (3 ∷ 3 ∷ 3 ∷ []) (1 ∷ 0 ∷ 0 ∷ []) ≡ 9
code_first = refl

code_last : code (3 ∷ 3 ∷ 3 ∷ []) (2 ∷ 1 ∷ 2 ∷ []) ≡ 23
code_last = refl

-- in B_2 the word +- 0 of s v has the code 7
mixed_sizes : sizes (tensor_space (record { kind = B; rank = 2 }) (Spin ∷ Vector ∷ [])) ≡ 4 ∷ 5 ∷ []
unfolding base_size
mixed_sizes = refl

code_mixed : code (4 ∷ 5 ∷ []) (1 ∷ 2 ∷ []) ≡ 7
code_mixed = refl

word_back : word (4 ∷ 5 ∷ []) 7 ≡ 1 ∷ 2 ∷ []
word_back = refl
