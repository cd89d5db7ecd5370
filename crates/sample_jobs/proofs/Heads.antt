-- The four heads of samples are taken.
use Rattle.std.proofs.Common.{◌≡◌, refl, ℕ, ◌^◌, ◌≤◌, ◌==◌, ◌&&◌, ◌||◌, nat_le, nat_lt, not, Bool, true, false, if◌then◌else◌, List, [], ◌∷◌, length, Option, Some, None, is_some, Ok, arith}
use Rattle.std.specs.Prelude.{◌%◌, codes}
use Rattle.std.specs.List.{list_all}
use Rattle.std.proofs.lemmas.Bool.{and_parts, leb-true, ltb-true}
use Rattle.crystal_cartan.specs.declared.types.Kind.TheVariants.{A, C, D}
use Rattle.vector_crystals.specs.Letters.{letters}
use Rattle.tensor_words.specs.Spaces.{IsSpace, sizes, size, space_of, base_size}
use Rattle.tensor_words.specs.Codes.{IsWord, AreDigits, code_of}
use Rattle.tableau_reading.specs.Shapes.{IsShape, tableau_shape, shape_of}
use Rattle.tableau_reading.specs.Readings.{top_word}
use Rattle.tableau_reading.specs.Tokens.{word_read, token_digit}
use Rattle.tableau_reading.proofs.VectorSpaces.{shape_is_space}
use Rattle.job_text.specs.declared.drafts.Stage.TheVariants.{Unread, Headed}
use Rattle.job_text.specs.declared.keys.JobPart.TheVariants as part
use Rattle.job_text.specs.Rules.{rule_of, rule_of_key, table}
use Rattle.job_text.specs.Drafts.{Drafted, starts_of}
use Rattle.job_text.specs.Judge.{line_made, worded, ruled, made, placed, drafted, has_room}
use Rattle.crystal_cartan.specs.Types.{CartanType}
use Rattle.sample_jobs.specs.Samples.{SampleHead, type_with, shape_head, head_A, head_B, head_C, head_D, sample_head}
use Rattle.sample_jobs.proofs.Lines.{after_lines, is_plain}
use Rattle.sample_jobs.proofs.Commands.{progress}

abbrev pub head_draft : SampleHead → Option ℕ → List ℕ → ℕ → Drafted
head_draft h top starts cells = record { space = h.space; top = top; starts = starts; cells = Some cells; scripts = []; asks = [] }

-- the lines of a head lead to a draft of its space, with its first start
pub record IsHead (h : SampleHead) : Type 0 where
  pub top : Option ℕ
  pub starts : List ℕ
  pub cells : ℕ
  pub leads : after_lines (codes "crystal-job 1" ∷ h.lines) Unread ≡ Ok (Headed (progress part.Head (head_draft h top starts cells)))
  pub plain : list_all is_plain (codes "crystal-job 1" ∷ h.lines) ≡ true
  pub few : length h.lines ≤ 4
  pub first : starts_of (head_draft h top starts cells) ≡ code_of h.space h.start ∷ []
  pub begun : (is_some top || not (length starts == 0)) ≡ true
  pub space : IsSpace h.space
  pub word : IsWord h.space h.start

-- ---- spaces and words by computing

are_below : List ℕ → List ℕ → Bool
are_below [] [] = true
are_below [] (d ∷ ds) = false
are_below (b ∷ bs) [] = false
are_below (b ∷ bs) (d ∷ ds) = nat_lt d b && are_below bs ds

digits_by_test : (bs ds : List ℕ) → are_below bs ds ≡ true → AreDigits bs ds
unfolding are_below
digits_by_test [] [] test = tt
digits_by_test [] (d ∷ ds) test = cc
digits_by_test (b ∷ bs) [] test = cc
digits_by_test (b ∷ bs) (d ∷ ds) test =
    let (here, there) = and_parts (nat_lt d b) (are_below bs ds) test in
    (ltb-true d b here, digits_by_test bs ds there)

shape_A : IsShape (tableau_shape (type_with A 4) (4 ∷ 3 ∷ 2 ∷ 1 ∷ []))
shape_A = record { cartan = record { low = omega arith; high = omega arith }; filled = refl; falling = refl; low = omega arith; small = refl }

shape_C : IsShape (tableau_shape (type_with C 4) (4 ∷ 3 ∷ 2 ∷ 1 ∷ []))
shape_C = record { cartan = record { low = omega arith; high = omega arith }; filled = refl; falling = refl; low = omega arith; small = refl }

shape_D : IsShape (tableau_shape (type_with D 4) (3 ∷ 2 ∷ 1 ∷ []))
shape_D = record { cartan = record { low = omega arith; high = omega arith }; filled = refl; falling = refl; low = omega arith; small = refl }

space_B : IsSpace head_B.space
unfolding base_size
space_B = record {
  cartan = record { low = omega arith; high = omega arith };
  some = omega arith;
  few = omega arith;
  had = refl;
  narrow = let test : nat_le (size head_B.space) (2 ^ 63) ≡ true = refl in leb-true (size head_B.space) (2 ^ 63) test;
}

word_A : IsWord head_A.space head_A.start
unfolding base_size top_word are_below
word_A = digits_by_test (sizes head_A.space) head_A.start refl

word_B : IsWord head_B.space head_B.start
unfolding base_size are_below
word_B = digits_by_test (sizes head_B.space) head_B.start refl

word_C : IsWord head_C.space head_C.start
unfolding base_size top_word are_below
word_C = digits_by_test (sizes head_C.space) head_C.start refl

word_D : IsWord head_D.space head_D.start
unfolding base_size top_word are_below
word_D = digits_by_test (sizes head_D.space) head_D.start refl

-- ---- lines by computing

leads_A : after_lines (codes "crystal-job 1" ∷ head_A.lines) Unread ≡ Ok (Headed (progress part.Head (head_draft head_A (Some (code_of head_A.space head_A.start)) [] 4096)))
unfolding line_made worded ruled made placed drafted has_room rule_of rule_of_key table shape_of space_of base_size
leads_A = refl

leads_B : after_lines (codes "crystal-job 1" ∷ head_B.lines) Unread ≡ Ok (Headed (progress part.Head (head_draft head_B None (code_of head_B.space head_B.start ∷ []) 2048)))
unfolding line_made worded ruled made placed drafted has_room rule_of rule_of_key table shape_of space_of base_size word_read token_digit letters
leads_B = refl

leads_C : after_lines (codes "crystal-job 1" ∷ head_C.lines) Unread ≡ Ok (Headed (progress part.Head (head_draft head_C (Some (code_of head_C.space head_C.start)) [] 200000)))
unfolding line_made worded ruled made placed drafted has_room rule_of rule_of_key table shape_of space_of base_size
leads_C = refl

leads_D : after_lines (codes "crystal-job 1" ∷ head_D.lines) Unread ≡ Ok (Headed (progress part.Head (head_draft head_D (Some (code_of head_D.space head_D.start)) [] 16384)))
unfolding line_made worded ruled made placed drafted has_room rule_of rule_of_key table shape_of space_of base_size
leads_D = refl

-- ---- the four heads

-- the head of a shape: its first start is the top word
shape_head_is : (lines : List (List ℕ)) (t : CartanType) (rows : List ℕ) (cells : ℕ) → IsShape (tableau_shape t rows)
    → IsWord (shape_head lines t rows).space (shape_head lines t rows).start
    → after_lines (codes "crystal-job 1" ∷ lines) Unread
    ≡ Ok (Headed (progress part.Head (head_draft (shape_head lines t rows) (Some (code_of (shape_head lines t rows).space (shape_head lines t rows).start)) [] cells)))
    → list_all is_plain (codes "crystal-job 1" ∷ lines) ≡ true → length lines ≤ 4 → IsHead (shape_head lines t rows)
shape_head_is lines t rows cells shape word leads plain few = record {
  top = Some (code_of (shape_head lines t rows).space (shape_head lines t rows).start);
  starts = [];
  cells = cells;
  leads = leads;
  plain = plain;
  few = few;
  first = refl;
  begun = refl;
  space = shape_is_space (tableau_shape t rows) shape;
  word = word;
}

head_A_is : IsHead head_A
head_A_is = shape_head_is head_A.lines (type_with A 4) (4 ∷ 3 ∷ 2 ∷ 1 ∷ []) 4096 shape_A word_A leads_A refl (omega arith)

head_B_is : IsHead head_B
head_B_is = record {
  top = None;
  starts = code_of head_B.space head_B.start ∷ [];
  cells = 2048;
  leads = leads_B;
  plain = refl;
  few = omega arith;
  first = refl;
  begun = refl;
  space = space_B;
  word = word_B;
}

head_C_is : IsHead head_C
head_C_is = shape_head_is head_C.lines (type_with C 4) (4 ∷ 3 ∷ 2 ∷ 1 ∷ []) 200000 shape_C word_C leads_C refl (omega arith)

head_D_is : IsHead head_D
head_D_is = shape_head_is head_D.lines (type_with D 4) (3 ∷ 2 ∷ 1 ∷ []) 16384 shape_D word_D leads_D refl (omega arith)

by_tests : (a b c : Bool) → IsHead (if a then head_A else if b then head_B else if c then head_C else head_D)
by_tests true b c = head_A_is
by_tests false true c = head_B_is
by_tests false false true = head_C_is
by_tests false false false = head_D_is

pub head_is : (number : ℕ) → IsHead (sample_head number)
unfolding sample_head
head_is number = by_tests (number % 4 == 0) (number % 4 == 1) (number % 4 == 2)
