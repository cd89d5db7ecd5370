-- Worked values of the definitions.
use Rattle.std.proofs.Common.{◌≡◌, refl, ℕ, List, [], ◌∷◌, ◌++◌, Some, ℤ, pos, negsuc, append-nil}
use Rattle.std.specs.Prelude.{decimal}
use Rattle.crystal_cartan.specs.Weights.{twice_pairing}
use Rattle.crystal_cartan.specs.declared.types.Kind.TheVariants.{A, B}
use Rattle.vector_crystals.specs.Letters.{letters}
use Rattle.vector_crystals.specs.VectorCrystals.{digit_action, letter_action, vector_edges, letter_weight}
use Rattle.tensor_words.specs.Spaces.{SpaceType, tensor_space, base_size, base_action, base_weight, word_weight}
use Rattle.tensor_words.specs.declared.spaces.Factor.TheVariants.{Vector}
use Rattle.tensor_words.specs.Codes.{code_of, word_of}
use Rattle.tensor_words.specs.TensorRule.{action}
use Rattle.tensor_words.specs.Operators.{op}
use Rattle.crystal_streams.specs.Lines.{ended}
use Rattle.text_pieces.specs.Pieces.{bar}
use Rattle.crystal_characters.specs.declared.items.Item.{Item}
use Rattle.crystal_characters.specs.declared.tallies.Multiplicity.{Multiplicity}
use Rattle.crystal_characters.specs.Characters.{tally}
use Rattle.crystal_characters.specs.Reflections.{repeated, crystal_reflection}
use Rattle.crystal_characters.specs.Reports.{string_text, string_report}

told : List ℤ → ℕ → Multiplicity
told w n = record { weight = w; times = n }

-- (1, 0) twice, (0, 1) and (1/2, -1/2) once: the first coordinates decide
tally_of_four : tally ((pos 0 ∷ pos 2 ∷ []) ∷ (pos 2 ∷ pos 0 ∷ []) ∷ (pos 1 ∷ negsuc 0 ∷ []) ∷ (pos 2 ∷ pos 0 ∷ []) ∷ [])
    ≡ told (pos 2 ∷ pos 0 ∷ []) 2 ∷ told (pos 1 ∷ negsuc 0 ∷ []) 1 ∷ told (pos 0 ∷ pos 2 ∷ []) 1 ∷ []
unfolding tally told
tally_of_four = refl

-- the vectors of B_2: the letters 1, 2, 0, -2, -1 have the digits 0 to 4
vectors : SpaceType
vectors = tensor_space (record { kind = B; rank = 2 }) (Vector ∷ [])

-- s_2 lowers 2 twice, and fixes 0
long_reflection : crystal_reflection vectors 2 1 ≡ Some 3
unfolding crystal_reflection repeated op code_of word_of action base_action base_size base_weight word_weight twice_pairing digit_action letter_action vector_edges letters letter_weight vectors
long_reflection = refl

fixed_letter : crystal_reflection vectors 2 2 ≡ Some 2
unfolding crystal_reflection repeated op code_of word_of action base_action base_size base_weight word_weight twice_pairing digit_action letter_action vector_edges letters letter_weight vectors
fixed_letter = refl

-- s_1 raises 2 to 1
raised_reflection : crystal_reflection vectors 1 1 ≡ Some 0
unfolding crystal_reflection repeated op code_of word_of action base_action base_size base_weight word_weight twice_pairing digit_action letter_action vector_edges letters letter_weight vectors
raised_reflection = refl

-- the letter 1 of type A 1, alone: a list that is not closed under f_1
highest_letter : Item
highest_letter = record {
  cartan = record { kind = A; rank = 1 };
  rank = 0;
  code = 0;
  weight = pos 2 ∷ pos 0 ∷ [];
  eps = 0 ∷ 0 ∷ 0 ∷ 0 ∷ 0 ∷ 0 ∷ 0 ∷ 0 ∷ [];
  phi = 1 ∷ 0 ∷ 0 ∷ 0 ∷ 0 ∷ 0 ∷ 0 ∷ 0 ∷ [];
}

-- the length of a string is the phi of its first element, whether or not its last one was fed: `1 | 1 | 1`
longest_of_one : string_report (highest_letter ∷ []) ≡ ended (decimal 1 ++ bar ++ decimal 1 ++ bar ++ decimal 1)
unfolding string_report string_text highest_letter
longest_of_one = append-nil (ended (decimal 1 ++ bar ++ decimal 1 ++ bar ++ decimal 1))
