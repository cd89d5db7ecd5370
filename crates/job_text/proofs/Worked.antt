-- Refused jobs, each with the line and the fault, and what short jobs give.
use Rattle.std.proofs.Common.{◌≡◌, ℕ, List, [], ◌∷◌, ◌++◌, refl}
use Rattle.std.specs.Prelude.{codes, replicate, Ok, Err}
use Rattle.std.specs.List.{flat_map}
use Rattle.job_text.specs.declared.faults.JobWhy.TheVariants.{BadByte, BadHeader, UnknownLine, Misplaced, RankRange, BadShape}
use Rattle.job_text.specs.declared.faults.JobWhy.TheVariants.{BadSpace, BadWord, BadIndex, CellsRange, Missing, TooMany}
use Rattle.job_text.specs.Judge.{judge, line_made, worded, ruled, made, placed, drafted, at_end, has_room}
use Rattle.job_text.specs.Rules.{rule_of, rule_of_key, table}
use Rattle.job_text.specs.declared.commands.Ask.TheVariants.{Tops}
use Rattle.job_text.specs.declared.commands.Command.TheVariants.{Add, Done}
use Rattle.crystal_cartan.specs.declared.types.Kind.TheVariants.{A}
use Rattle.tensor_words.specs.declared.spaces.Factor.TheVariants.{Vector}
use Rattle.tensor_words.specs.declared.spaces.Order.TheVariants.{Kashiwara}
use Rattle.tensor_words.specs.Spaces.{tensor_space, ordered, space_of, base_size}
use Rattle.tensor_words.specs.Codes.{code_of}
use Rattle.tableau_reading.specs.Tokens.{word_read, token_digit}
use Rattle.tableau_reading.specs.Shapes.{tableau_shape, shape_in, shape_of}
use Rattle.tableau_reading.specs.Readings.{top_word}
use Rattle.vector_crystals.specs.Letters.{letters}

-- lines, each with its end
text : List (List ℕ) → List ℕ
text lines = flat_map (λ line. line ++ 10 ∷ []) lines

row_no_byte : judge ([]) ≡ Err (record { line = 1; why = BadHeader })
unfolding judge line_made worded ruled made placed drafted at_end has_room rule_of rule_of_key table text shape_of space_of base_size word_read token_digit letters
row_no_byte = refl

row_no_header : judge (text (codes "type A 2" ∷ [])) ≡ Err (record { line = 1; why = BadHeader })
unfolding judge line_made worded ruled made placed drafted at_end has_room rule_of rule_of_key table text shape_of space_of base_size word_read token_digit letters
row_no_header = refl

row_rank : judge (text (codes "crystal-job 1" ∷ codes "type A 9" ∷ [])) ≡ Err (record { line = 2; why = RankRange })
unfolding judge line_made worded ruled made placed drafted at_end has_room rule_of rule_of_key table text shape_of space_of base_size word_read token_digit letters
row_rank = refl

row_shape : judge (text (codes "crystal-job 1" ∷ codes "type A 2" ∷ codes "shape 1 2" ∷ [])) ≡ Err (record { line = 3; why = BadShape })
unfolding judge line_made worded ruled made placed drafted at_end has_room rule_of rule_of_key table text shape_of space_of base_size word_read token_digit letters
row_shape = refl

row_word : judge (text (codes "crystal-job 1" ∷ codes "type D 4" ∷ codes "space v" ∷ codes "start 0" ∷ [])) ≡ Err (record { line = 4; why = BadWord })
unfolding judge line_made worded ruled made placed drafted at_end has_room rule_of rule_of_key table text shape_of space_of base_size word_read token_digit letters
row_word = refl

row_index : judge (text (codes "crystal-job 1" ∷ codes "type A 2" ∷ codes "shape 1" ∷ codes "session" ∷ codes "f 0 1" ∷ [])) ≡ Err (record { line = 5; why = BadIndex })
unfolding judge line_made worded ruled made placed drafted at_end has_room rule_of rule_of_key table text shape_of space_of base_size word_read token_digit letters
row_index = refl

row_cells : judge (text (codes "crystal-job 1" ∷ codes "type A 2" ∷ codes "shape 1" ∷ codes "cells 0" ∷ [])) ≡ Err (record { line = 4; why = CellsRange })
unfolding judge line_made worded ruled made placed drafted at_end has_room rule_of rule_of_key table text shape_of space_of base_size word_read token_digit letters
row_cells = refl

row_wide : judge (text (codes "crystal-job 1" ∷ codes "type C 4" ∷ codes "space v v v v v v v v v v v v v v v v v v v v v v" ∷ [])) ≡ Err (record { line = 3; why = BadSpace })
unfolding judge line_made worded ruled made placed drafted at_end has_room rule_of rule_of_key table text shape_of space_of base_size word_read token_digit letters
row_wide = refl

row_factors : judge (text (codes "crystal-job 1" ∷ codes "type A 1" ∷ codes "space v v v v v v v v v v v v v v v v v v v v v v v v v v v v v v v v v v v v v v v v v" ∷ [])) ≡ Err (record { line = 3; why = BadSpace })
unfolding judge line_made worded ruled made placed drafted at_end has_room rule_of rule_of_key table text shape_of space_of base_size word_read token_digit letters
row_factors = refl

row_tail : judge (text (codes "crystal-job 1" ∷ []) ++ codes "type A 2") ≡ Err (record { line = 2; why = BadByte })
unfolding judge line_made worded ruled made placed drafted at_end has_room rule_of rule_of_key table text shape_of space_of base_size word_read token_digit letters
row_tail = refl

row_nothing : judge (text (codes "crystal-job 1" ∷ [])) ≡ Err (record { line = 2; why = Missing })
unfolding judge line_made worded ruled made placed drafted at_end has_room rule_of rule_of_key table text shape_of space_of base_size word_read token_digit letters
row_nothing = refl

row_sessions : judge (text (codes "crystal-job 1" ∷ codes "type A 2" ∷ codes "shape 1" ∷ codes "session" ∷ codes "session" ∷ codes "session" ∷ codes "session" ∷ codes "session" ∷ codes "session" ∷ codes "session" ∷ codes "session" ∷ codes "session" ∷ codes "session" ∷ codes "session" ∷ codes "session" ∷ codes "session" ∷ codes "session" ∷ codes "session" ∷ codes "session" ∷ codes "session" ∷ [])) ≡ Err (record { line = 20; why = TooMany })
unfolding judge line_made worded ruled made placed drafted at_end has_room rule_of rule_of_key table text shape_of space_of base_size word_read token_digit letters
row_sessions = refl

row_misplaced : judge (text (codes "crystal-job 1" ∷ codes "type A 2" ∷ codes "session" ∷ [])) ≡ Err (record { line = 3; why = Misplaced })
unfolding judge line_made worded ruled made placed drafted at_end has_room rule_of rule_of_key table text shape_of space_of base_size word_read token_digit letters
row_misplaced = refl

-- limits at their values and one past them, and the order of faults; a line x behind what is taken is unknown
demazure_of : ℕ → List ℕ
demazure_of n = codes "demazure" ++ flat_map (λ index. 32 ∷ index ∷ []) (replicate n 49)

row_return : judge (text (codes "crystal-job 1" ∷ (codes "type A 2" ++ 13 ∷ []) ∷ [])) ≡ Err (record { line = 2; why = BadByte })
unfolding judge line_made worded ruled made placed drafted at_end has_room rule_of rule_of_key table text shape_of space_of base_size word_read token_digit letters
row_return = refl

row_header_byte : judge (text ((codes "crystal-job 1" ++ 9 ∷ []) ∷ [])) ≡ Err (record { line = 1; why = BadByte })
unfolding judge line_made worded ruled made placed drafted at_end has_room rule_of rule_of_key table text shape_of space_of base_size word_read token_digit letters
row_header_byte = refl

row_rank_8 : judge (text (codes "crystal-job 1" ∷ codes "type A 8" ∷ codes "x" ∷ [])) ≡ Err (record { line = 3; why = UnknownLine })
unfolding judge line_made worded ruled made placed drafted at_end has_room rule_of rule_of_key table text shape_of space_of base_size word_read token_digit letters
row_rank_8 = refl

row_cells_most : judge (text (codes "crystal-job 1" ∷ codes "type A 2" ∷ codes "shape 1" ∷ codes "cells 1048576" ∷ codes "x" ∷ [])) ≡ Err (record { line = 5; why = UnknownLine })
unfolding judge line_made worded ruled made placed drafted at_end has_room rule_of rule_of_key table text shape_of space_of base_size word_read token_digit letters
row_cells_most = refl

row_cells_past : judge (text (codes "crystal-job 1" ∷ codes "type A 2" ∷ codes "shape 1" ∷ codes "cells 1048577" ∷ [])) ≡ Err (record { line = 4; why = CellsRange })
unfolding judge line_made worded ruled made placed drafted at_end has_room rule_of rule_of_key table text shape_of space_of base_size word_read token_digit letters
row_cells_past = refl

row_64_indices : judge (text (codes "crystal-job 1" ∷ codes "type A 2" ∷ codes "shape 1" ∷ demazure_of 64 ∷ codes "x" ∷ [])) ≡ Err (record { line = 5; why = UnknownLine })
unfolding judge line_made worded ruled made placed drafted at_end has_room rule_of rule_of_key table text demazure_of shape_of space_of base_size word_read token_digit letters
row_64_indices = refl

row_65_indices : judge (text (codes "crystal-job 1" ∷ codes "type A 2" ∷ codes "shape 1" ∷ demazure_of 65 ∷ [])) ≡ Err (record { line = 4; why = TooMany })
unfolding judge line_made worded ruled made placed drafted at_end has_room rule_of rule_of_key table text demazure_of shape_of space_of base_size word_read token_digit letters
row_65_indices = refl

row_index_first : judge (text (codes "crystal-job 1" ∷ codes "type A 2" ∷ codes "shape 1" ∷ codes "session" ∷ codes "f 3 9" ∷ [])) ≡ Err (record { line = 5; why = BadIndex })
unfolding judge line_made worded ruled made placed drafted at_end has_room rule_of rule_of_key table text shape_of space_of base_size word_read token_digit letters
row_index_first = refl

row_start_late : judge (text (codes "crystal-job 1" ∷ codes "type A 2" ∷ codes "shape 1" ∷ codes "session" ∷ codes "start 1" ∷ [])) ≡ Err (record { line = 5; why = Misplaced })
unfolding judge line_made worded ruled made placed drafted at_end has_room rule_of rule_of_key table text shape_of space_of base_size word_read token_digit letters
row_start_late = refl

row_add_late : judge (text (codes "crystal-job 1" ∷ codes "type A 2" ∷ codes "shape 1" ∷ codes "session" ∷ codes "reflect 1" ∷ codes "add 1" ∷ [])) ≡ Err (record { line = 6; why = Misplaced })
unfolding judge line_made worded ruled made placed drafted at_end has_room rule_of rule_of_key table text shape_of space_of base_size word_read token_digit letters
row_add_late = refl

row_reflect_two : judge (text (codes "crystal-job 1" ∷ codes "type A 2" ∷ codes "shape 1" ∷ codes "reflect 1 2" ∷ [])) ≡ Err (record { line = 4; why = UnknownLine })
unfolding judge line_made worded ruled made placed drafted at_end has_room rule_of rule_of_key table text shape_of space_of base_size word_read token_digit letters
row_reflect_two = refl

row_three_rows : judge (text (codes "crystal-job 1" ∷ codes "type A 2" ∷ codes "shape 1 1 1" ∷ codes "x" ∷ [])) ≡ Err (record { line = 4; why = UnknownLine })
unfolding judge line_made worded ruled made placed drafted at_end has_room rule_of rule_of_key table text shape_of space_of base_size word_read token_digit letters
row_three_rows = refl

-- the line `order`, of version 2 alone

row_order_one : judge (text (codes "crystal-job 1" ∷ codes "type A 2" ∷ codes "order kashiwara" ∷ [])) ≡ Err (record { line = 3; why = UnknownLine })
unfolding judge line_made worded ruled made placed drafted at_end has_room rule_of rule_of_key table text shape_of space_of base_size word_read token_digit letters
row_order_one = refl

row_order_other : judge (text (codes "crystal-job 2" ∷ codes "type A 1" ∷ codes "order other" ∷ codes "space v v" ∷ codes "start 1 2" ∷ [])) ≡ Err (record { line = 3; why = BadSpace })
unfolding judge line_made worded ruled made placed drafted at_end has_room rule_of rule_of_key table text shape_of space_of base_size word_read token_digit letters
row_order_other = refl

row_order_two_words : judge (text (codes "crystal-job 2" ∷ codes "type A 1" ∷ codes "order kashiwara standard" ∷ [])) ≡ Err (record { line = 3; why = UnknownLine })
unfolding judge line_made worded ruled made placed drafted at_end has_room rule_of rule_of_key table text shape_of space_of base_size word_read token_digit letters
row_order_two_words = refl

row_order_twice : judge (text (codes "crystal-job 2" ∷ codes "type A 1" ∷ codes "order standard" ∷ codes "order x" ∷ [])) ≡ Err (record { line = 4; why = Misplaced })
unfolding judge line_made worded ruled made placed drafted at_end has_room rule_of rule_of_key table text shape_of space_of base_size word_read token_digit letters
row_order_twice = refl

row_order_late : judge (text (codes "crystal-job 2" ∷ codes "type A 1" ∷ codes "space v v" ∷ codes "order standard" ∷ [])) ≡ Err (record { line = 4; why = Misplaced })
unfolding judge line_made worded ruled made placed drafted at_end has_room rule_of rule_of_key table text shape_of space_of base_size word_read token_digit letters
row_order_late = refl

row_order_alone : judge (text (codes "crystal-job 2" ∷ codes "type A 1" ∷ codes "order standard" ∷ [])) ≡ Err (record { line = 4; why = Missing })
unfolding judge line_made worded ruled made placed drafted at_end has_room rule_of rule_of_key table text shape_of space_of base_size word_read token_digit letters
row_order_alone = refl

row_version_3 : judge (text (codes "crystal-job 3" ∷ codes "type A 1" ∷ [])) ≡ Err (record { line = 1; why = BadHeader })
unfolding judge line_made worded ruled made placed drafted at_end has_room rule_of rule_of_key table text shape_of space_of base_size word_read token_digit letters
row_version_3 = refl

-- the command `done`, of version 2 alone

row_done_one : judge (text (codes "crystal-job 1" ∷ codes "type A 1" ∷ codes "space v v" ∷ codes "start 1 1" ∷ codes "session" ∷ codes "done" ∷ [])) ≡ Err (record { line = 6; why = UnknownLine })
unfolding judge line_made worded ruled made placed drafted at_end has_room rule_of rule_of_key table text shape_of space_of base_size word_read token_digit letters
row_done_one = refl

row_done_word : judge (text (codes "crystal-job 2" ∷ codes "type A 1" ∷ codes "space v v" ∷ codes "start 1 1" ∷ codes "session" ∷ codes "done 1 1" ∷ [])) ≡ Err (record { line = 6; why = UnknownLine })
unfolding judge line_made worded ruled made placed drafted at_end has_room rule_of rule_of_key table text shape_of space_of base_size word_read token_digit letters
row_done_word = refl

row_done_early : judge (text (codes "crystal-job 2" ∷ codes "type A 1" ∷ codes "space v v" ∷ codes "start 1 1" ∷ codes "done" ∷ [])) ≡ Err (record { line = 5; why = Misplaced })
unfolding judge line_made worded ruled made placed drafted at_end has_room rule_of rule_of_key table text shape_of space_of base_size word_read token_digit letters
row_done_early = refl

row_done_late : judge (text (codes "crystal-job 2" ∷ codes "type A 1" ∷ codes "space v v" ∷ codes "start 1 1" ∷ codes "session" ∷ codes "reflect 1" ∷ codes "done" ∷ [])) ≡ Err (record { line = 7; why = Misplaced })
unfolding judge line_made worded ruled made placed drafted at_end has_room rule_of rule_of_key table text shape_of space_of base_size word_read token_digit letters
row_done_late = refl

done_asked :
    judge (text (codes "crystal-job 2" ∷ codes "type A 1" ∷ codes "space v v" ∷ codes "start 1 1" ∷ codes "session" ∷ codes "add 2 1" ∷ codes "done" ∷ []))
    ≡ Ok (record {
      world = record { space = tensor_space (record { kind = A; rank = 1 }) (Vector ∷ Vector ∷ []); cells = 65536; roots = 0 ∷ 2 ∷ [] };
      starts = 0 ∷ [];
      scripts = (Add 2 ∷ Done ∷ []) ∷ [];
      asks = [];
    })
unfolding judge line_made worded ruled made placed drafted at_end has_room rule_of rule_of_key table text shape_of space_of base_size word_read token_digit letters code_of
done_asked = refl

-- the order holds for the space, for the shape with its top word, and for `tops`
kashiwara_space :
    judge (text (codes "crystal-job 2" ∷ codes "type A 1" ∷ codes "order kashiwara" ∷ codes "space v v" ∷ codes "start 1 2" ∷ []))
    ≡ Ok (record {
      world = record { space = ordered Kashiwara (tensor_space (record { kind = A; rank = 1 }) (Vector ∷ Vector ∷ [])); cells = 65536; roots = 1 ∷ [] };
      starts = 1 ∷ [];
      scripts = [];
      asks = [];
    })
unfolding judge line_made worded ruled made placed drafted at_end has_room rule_of rule_of_key table text shape_of space_of base_size word_read token_digit letters code_of
kashiwara_space = refl

kashiwara_shape :
    judge (text (codes "crystal-job 2" ∷ codes "type A 2" ∷ codes "order kashiwara" ∷ codes "shape 2 1" ∷ codes "tops 1" ∷ []))
    ≡ Ok (record {
      world = record { space = ordered Kashiwara (tensor_space (record { kind = A; rank = 2 }) (Vector ∷ Vector ∷ Vector ∷ [])); cells = 65536; roots = 1 ∷ [] };
      starts = 1 ∷ [];
      scripts = [];
      asks = Tops (shape_in Kashiwara (tableau_shape (record { kind = A; rank = 2 }) (1 ∷ []))) ∷ [];
    })
unfolding judge line_made worded ruled made placed drafted at_end has_room rule_of rule_of_key table text shape_of space_of base_size word_read token_digit letters code_of top_word
kashiwara_shape = refl

-- without the line it is the standard order
standard_shape :
    judge (text (codes "crystal-job 2" ∷ codes "type A 2" ∷ codes "shape 2 1" ∷ []))
    ≡ Ok (record {
      world = record { space = tensor_space (record { kind = A; rank = 2 }) (Vector ∷ Vector ∷ Vector ∷ []); cells = 65536; roots = 9 ∷ [] };
      starts = 9 ∷ [];
      scripts = [];
      asks = [];
    })
unfolding judge line_made worded ruled made placed drafted at_end has_room rule_of rule_of_key table text shape_of space_of base_size word_read token_digit letters code_of top_word
standard_shape = refl
