-- Worked replies in A_1 over words of two letters: the codes of 1 1, 1 2, 2 1, 2 2 are 0 to 3.
use Rattle.std.proofs.Common.{◌≡◌, refl, true, [], ◌∷◌, Some, None}
use Rattle.std.specs.Prelude.{pos}
use Rattle.crystal_cartan.specs.declared.types.Arrow.{Arrow}
use Rattle.crystal_cartan.specs.declared.types.Kind.TheVariants.{A}
use Rattle.vector_crystals.specs.Letters.{letters}
use Rattle.vector_crystals.specs.VectorCrystals.{vector_edges, letter_action, digit_action, letter_weight}
use Rattle.tensor_words.specs.declared.spaces.Factor.TheVariants.{Vector}
use Rattle.tensor_words.specs.Spaces.{SpaceType, tensor_space, base_size, base_action, base_weight, word_weight}
use Rattle.tensor_words.specs.Codes.{code_of, word_of}
use Rattle.tensor_words.specs.TensorRule.{action}
use Rattle.tensor_words.specs.Operators.{op}
use Rattle.graph_history.specs.declared.event.Origin.TheVariants.{Root, By}
use Rattle.graph_history.specs.declared.event.Act.TheVariants.{Added, Met, Missed, Spent, Drew, Saw, Blank, Owed, Settled, Tally}
use Rattle.graph_history.specs.Desks.{by}
use Rattle.job_text.specs.declared.commands.Command.TheVariants.{Add, Find, Look, Move, Wt, Eps}
use Rattle.job_text.specs.declared.commands.Command.TheVariants as command
use Rattle.session_desk.specs.declared.reply.Reply.TheVariants.{New, Old, There, Absent, Undrawn, Word, Full, Number, Weight, Done, More}
use Rattle.session_desk.specs.Replies.{replies, weight_at, eps_at}

abbrev words : SpaceType
words = tensor_space (record { kind = A; rank = 1 }) (Vector ∷ Vector ∷ [])

abbrev f : Arrow
f = record { down = true; index = 1 }

-- two sessions add one word: one of them puts it in, the other meets it
first_adds : replies words (Add 2 ∷ []) (by 1 (Owed ∷ Added 0 2 Root ∷ [])) ≡ Some (New ∷ [])
first_adds = refl

second_adds : replies words (Add 2 ∷ []) (by 2 (Met 0 2 ∷ [])) ≡ Some (Old ∷ [])
second_adds = refl

-- a debt that was owed for a word which another put in meanwhile is settled again, and so where no cell is left
owed_in_vain : replies words (Add 2 ∷ Add 3 ∷ []) (by 1 (Owed ∷ Met 0 2 ∷ Settled None ∷ Owed ∷ Spent 3 ∷ Settled None ∷ [])) ≡ Some (Old ∷ Full ∷ [])
owed_in_vain = refl

-- where every cell is taken the reply is `full`, as it is known at once
full_add : replies words (Add 2 ∷ []) (by 1 (Spent 2 ∷ [])) ≡ Some (Full ∷ [])
full_add = refl

-- a word comes in as a root by `add` alone, and no debt is kept for one that is there
wrong_origin : replies words (Add 2 ∷ []) (by 1 (Owed ∷ Added 0 2 (By 1 f) ∷ [])) ≡ None
wrong_origin = refl

debt_kept : replies words (Add 2 ∷ []) (by 1 (Owed ∷ Met 0 2 ∷ [])) ≡ None
debt_kept = refl

-- a session reads its own write
own_write : replies words (Add 2 ∷ Find 2 ∷ []) (by 1 (Owed ∷ Added 0 2 Root ∷ Met 0 2 ∷ [])) ≡ Some (New ∷ There ∷ [])
own_write = refl

-- events that are left over, or of another cell, are no run of the script
left_over : replies words (Add 2 ∷ []) (by 1 (Owed ∷ Added 0 2 Root ∷ Met 0 2 ∷ [])) ≡ None
left_over = refl

other_cell : replies words (Look f 0 ∷ []) (by 1 (Met 0 0 ∷ Blank 1 f ∷ [])) ≡ None
other_cell = refl

-- a look, a move and a look again: the arrow is drawn by the move
drawn_between : replies words (Look f 0 ∷ Move f 0 ∷ Look f 0 ∷ [])
    (by 1 (Met 0 0 ∷ Blank 0 f ∷ Met 0 0 ∷ Owed ∷ Added 1 1 (By 0 f) ∷ Drew 0 f (Some 1) ∷ Met 0 0 ∷ Saw 0 f (Some 1) ∷ []))
    ≡ Some (Undrawn ∷ Word 1 ∷ Word 1 ∷ [])
unfolding op action base_action digit_action letter_action vector_edges letters base_size word_of code_of
drawn_between = refl

-- no cell is left for the word that a move leads to
no_cell : replies words (Move f 0 ∷ []) (by 1 (Met 0 0 ∷ Spent 1 ∷ [])) ≡ Some (Full ∷ [])
unfolding op action base_action digit_action letter_action vector_edges letters base_size word_of code_of
no_cell = refl

-- a word of another component is absent; its weight and its strings are told all the same
other_component : replies words (Find 2 ∷ Move f 2 ∷ Wt 2 ∷ Eps 1 3 ∷ []) (by 1 (Missed 2 ∷ Missed 2 ∷ []))
    ≡ Some (Absent ∷ Absent ∷ Weight (pos 2 ∷ pos 2 ∷ []) ∷ Number 2 ∷ [])
unfolding weight_at eps_at word_weight base_weight letter_weight action base_action digit_action letter_action vector_edges letters base_size word_of
other_component = refl

-- `done` is told from one tally: no debt, some debts; none was taken, another event stands in its place, one is left over
none_owed : replies words (command.Done ∷ []) (by 1 (Tally 0 ∷ [])) ≡ Some (Done ∷ [])
none_owed = refl

some_owed : replies words (Add 2 ∷ command.Done ∷ []) (by 1 (Owed ∷ Added 0 2 Root ∷ Tally 3 ∷ [])) ≡ Some (New ∷ More ∷ [])
some_owed = refl

not_counted : replies words (command.Done ∷ []) [] ≡ None
not_counted = refl

not_a_tally : replies words (command.Done ∷ []) (by 1 (Met 0 0 ∷ [])) ≡ None
not_a_tally = refl

counted_twice : replies words (command.Done ∷ []) (by 1 (Tally 1 ∷ Tally 0 ∷ [])) ≡ None
counted_twice = refl
