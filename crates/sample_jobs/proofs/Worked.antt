-- The sample with the number 2: its first number, and what it chooses.
use Rattle.std.proofs.Common.{◌≡◌, refl, ℕ, [], ◌∷◌}
use Rattle.vector_crystals.specs.Letters.{letters}
use Rattle.vector_crystals.specs.VectorCrystals.{vector_edges, letter_action, digit_action}
use Rattle.tensor_words.specs.Spaces.{base_action}
use Rattle.tensor_words.specs.TensorRule.{action}
use Rattle.tableau_reading.specs.Readings.{top_word}
use Rattle.sample_jobs.specs.Samples.{head_C, next_number, number_behind, kind_chosen, index_chosen, lowered}

abbrev first : ℕ
first = 14170967488582549417

first_number : number_behind 1 2 ≡ first
unfolding number_behind next_number
first_number = refl

first_kind : kind_chosen first ≡ 0
unfolding kind_chosen
first_kind = refl

first_index : index_chosen head_C.space.cartan first ≡ 4
unfolding index_chosen
first_index = refl

-- it begins with 4 3 2 1 3 2 1 2 1 1, which f_4 takes to -4 3 2 1 3 2 1 2 1 1
first_word : head_C.start ≡ 3 ∷ 2 ∷ 1 ∷ 0 ∷ 2 ∷ 1 ∷ 0 ∷ 1 ∷ 0 ∷ 0 ∷ []
unfolding top_word
first_word = refl

second_word : lowered head_C.space 4 (3 ∷ 2 ∷ 1 ∷ 0 ∷ 2 ∷ 1 ∷ 0 ∷ 1 ∷ 0 ∷ 0 ∷ []) ≡ 4 ∷ 2 ∷ 1 ∷ 0 ∷ 2 ∷ 1 ∷ 0 ∷ 1 ∷ 0 ∷ 0 ∷ []
unfolding action base_action digit_action letter_action vector_edges letters
second_word = refl
