-- Lines without a fault, one after another, and what their text is judged to be.
use Rattle.std.proofs.Common.{◌≡◌, ◌∙◌, refl, sym, ap, ℕ, ◌+◌, ◌*◌, ◌≤◌, ◌==◌, ◌&&◌, nat_le, Bool, true, false, List, [], ◌∷◌, ◌++◌, length, length-append, append_assoc, Ok, Err, arith}
use Rattle.std.specs.List.{flat_map, list_all}
use Rattle.std.proofs.lemmas.List.{append-nil}
use Rattle.std.proofs.lemmas.List.Folds.{list_all-append}
use Rattle.std.proofs.lemmas.Bool.{and_parts, leb-true}
use Rattle.std.proofs.lemmas.Bool.Decides.{nat_tests}
use Rattle.text_pieces.specs.Pieces.{pieces, has_none, are_printed}
use Rattle.text_pieces.proofs.Cuts.{piece_before}
use Rattle.crystal_streams.specs.Lines.{ended}
use Rattle.job_text.specs.declared.drafts.Stage.{Stage}
use Rattle.job_text.specs.declared.drafts.Stage.TheVariants.{Unread}
use Rattle.job_text.specs.declared.jobs.Job.{Job}
use Rattle.job_text.specs.Judge.{Judged, and_then, at_line, line_made, at_end, judged_from, judge}
use Rattle.job_text.proofs.LineSteps.{line_taken}

-- the stage behind lines
abbrev pub after_lines : List (List ℕ) → Stage → Judged Stage
after_lines [] stage = Ok stage
after_lines (line ∷ lines) stage = and_then (line_made line stage) (after_lines lines)

pub after_append : (xs ys : List (List ℕ)) (s t : Stage) → after_lines xs s ≡ Ok t → after_lines (xs ++ ys) s ≡ after_lines ys t
after_append [] ys s t is = let same : s ≡ t = cc in ap (after_lines ys) same
after_append (x ∷ xs) ys s t is =
    elim (line_made x s) as (λ r. and_then r (after_lines xs) ≡ Ok t → and_then r (after_lines (xs ++ ys)) ≡ after_lines ys t) [
      | Ok mid ↦ λ h. after_append xs ys mid t h
      | Err why ↦ λ h. cc
    ] is

-- a line that is printed and short
abbrev pub is_plain : List ℕ → Bool
is_plain line = are_printed line && nat_le (length line) 199

no_end : (line : List ℕ) → are_printed line ≡ true → has_none 10 line ≡ true
no_end [] printed = refl
no_end (byte ∷ bytes) printed =
    let (here, there) = and_parts (nat_le 32 byte && nat_le byte 126) (are_printed bytes) printed in
    let (low, high) = and_parts (nat_le 32 byte) (nat_le byte 126) here in
    let above : 32 ≤ byte = leb-true 32 byte low in
    let other : (byte == 10) ≡ false = grind (arith, nat_tests) in
    rw (other, no_end bytes there) refl

-- one line in front of a text
line_in_front : (n : ℕ) (s mid : Stage) (line rest : List ℕ) → are_printed line ≡ true → line_made line s ≡ Ok mid →
    judged_from n s (pieces 10 ((line ++ 10 ∷ []) ++ rest)) ≡ judged_from (n + 1) mid (pieces 10 rest)
line_in_front n s mid line rest printed made =
    ap (λ text. judged_from n s (pieces 10 text)) (append_assoc line (10 ∷ []) rest)
    ∙ ap (λ ps. judged_from n s ps) (piece_before 10 line rest (no_end line printed))
    ∙ line_taken n s mid line rest (ap (at_line n) made)

text_after : (n : ℕ) (lines : List (List ℕ)) (s t : Stage) (rest : List ℕ) → list_all is_plain lines ≡ true → after_lines lines s ≡ Ok t →
    judged_from n s (pieces 10 (flat_map ended lines ++ rest)) ≡ judged_from (n + length lines) t (pieces 10 rest)
text_after n [] s t rest good is =
    let same : s ≡ t = cc in
    let last : n ≡ n + 0 = omega arith in
    ap (λ stage. judged_from n stage (pieces 10 rest)) same ∙ ap (λ k. judged_from k t (pieces 10 rest)) last
text_after n (line ∷ lines) s t rest good is =
    let (here, there) = and_parts (is_plain line) (list_all is_plain lines) good in
    let (printed, short) = and_parts (are_printed line) (nat_le (length line) 199) here in
    let count : n + 1 + length lines ≡ n + length (line ∷ lines) = omega arith in
    elim (line_made line s) as (λ r. line_made line s ≡ r → and_then r (after_lines lines) ≡ Ok t → judged_from n s (pieces 10 (flat_map ended (line ∷ lines) ++ rest)) ≡ judged_from (n + length (line ∷ lines)) t (pieces 10 rest)) [
      | Ok mid ↦ λ made h.
          ap (λ text. judged_from n s (pieces 10 text)) (append_assoc (line ++ 10 ∷ []) (flat_map ended lines) rest)
          ∙ line_in_front n s mid line (flat_map ended lines ++ rest) printed made
          ∙ text_after (n + 1) lines mid t rest there h
          ∙ ap (λ k. judged_from k t (pieces 10 rest)) count
      | Err why ↦ λ made h. cc
    ] refl is

-- the text of lines that lead to a stage is judged as this stage ends
pub text_judged : (lines : List (List ℕ)) (t : Stage) (j : Job) → list_all is_plain lines ≡ true → after_lines lines Unread ≡ Ok t → at_end t ≡ Ok j →
    judge (flat_map ended lines) ≡ Ok j
unfolding judge
text_judged lines t j good leads last =
    ap (λ text. judged_from 1 Unread (pieces 10 text)) (sym (append-nil (flat_map ended lines)))
    ∙ text_after 1 lines Unread t [] good leads
    ∙ ap (at_line (1 + length lines)) last

pub text_length : (lines : List (List ℕ)) → list_all is_plain lines ≡ true → length (flat_map ended lines) ≤ 200 * length lines
text_length [] good = omega arith
text_length (line ∷ lines) good =
    let (here, there) = and_parts (is_plain line) (list_all is_plain lines) good in
    let (printed, short) = and_parts (are_printed line) (nat_le (length line) 199) here in
    omega (
      arith,
      length-append (line ++ 10 ∷ []) (flat_map ended lines),
      length-append line (10 ∷ []),
      leb-true (length line) 199 short,
      text_length lines there,
    )

-- plain lines one after another
pub plain_append : (xs ys : List (List ℕ)) → list_all is_plain xs ≡ true → list_all is_plain ys ≡ true → list_all is_plain (xs ++ ys) ≡ true
plain_append xs ys front back = list_all-append is_plain xs ys ∙ rw (front, back) refl
