-- The first piece of a text, and what is behind it.
use Rattle.std.proofs.Common.{◌≡◌, ℕ, ◌+◌, ◌<◌, ◌≤◌, Bool, true, false, not, nat_lt, ◌==◌, List, [], ◌∷◌, ◌++◌, length, take, drop, subst, refl, arith}
use Rattle.std.specs.Prelude.{Some, None}
use Rattle.std.specs.List.{position, position_or_len, list_all, take_while}
use Rattle.std.proofs.lemmas.List.Splits.{slice_split-cons_yes, slice_split-cons_no, slice_split_first}
use Rattle.std.proofs.lemmas.List.Sums.{take_while-cons}
use Rattle.std.proofs.lemmas.Option.{cond_some}
use Rattle.std.proofs.lemmas.List.{take_all}
use Rattle.std.proofs.lemmas.Bool.{ltb-true, ltb-false}
use Rattle.std.proofs.lemmas.Grind.{common_steps}
use Rattle.text_pieces.specs.Pieces.{pieces, has_none}

-- a text has a first piece
pub some_piece : (separator : ℕ) (text : List ℕ) → (first : List ℕ) × (rest : List (List ℕ)) × (pieces separator text ≡ first ∷ rest)
some_piece separator [] = ([], [], refl)
some_piece separator (byte ∷ bytes) =
    let (first, rest, here) = some_piece separator bytes in
    elim (byte == separator) as (λ t. (byte == separator) ≡ t → (first : List ℕ) × (rest : List (List ℕ)) × (pieces separator (byte ∷ bytes) ≡ first ∷ rest)) [
      | true ↦ λ is. ([], first ∷ rest, rw (is, here) refl)
      | false ↦ λ is. (byte ∷ first, rest, rw (is, here) refl)
    ] refl

-- a text with no separator is one piece
pub whole_piece : (separator : ℕ) (text : List ℕ) → has_none separator text ≡ true → pieces separator text ≡ text ∷ []
whole_piece separator [] h = refl
whole_piece separator (byte ∷ bytes) h = grind (arith, common_steps, slice_split-cons_no, whole_piece separator bytes)

-- a piece with no separator, before a separator
pub piece_before : (separator : ℕ) (text rest : List ℕ) → has_none separator text ≡ true → pieces separator (text ++ separator ∷ rest) ≡ text ∷ pieces separator rest
piece_before separator [] rest h = grind (arith, common_steps, slice_split-cons_yes)
piece_before separator (byte ∷ bytes) rest h = grind (arith, common_steps, slice_split-cons_no, piece_before separator bytes rest)

-- what stands before the first element that fails passes
passes_before : {X : Type 0} (p : X → Bool) (xs : List X) → list_all p (take_while p xs) ≡ true
passes_before p [] = refl
passes_before p (x ∷ xs) = elim (p x) as (λ t. p x ≡ t → list_all p (take_while p (x ∷ xs)) ≡ true) [
  | true ↦ λ is. grind (arith, common_steps, take_while-cons p x xs, passes_before p xs)
  | false ↦ λ is. grind (arith, common_steps, take_while-cons p x xs)
] refl

-- a place is found only within the text, and only the first
found_at : (separator : ℕ) (text : List ℕ) (place : ℕ) → position (λ byte. byte == separator) text ≡ Some place →
    (position_or_len (λ byte. byte == separator) text < length text) × (position_or_len (λ byte. byte == separator) text ≡ place)
found_at separator text place found =
    let (below, same) = cond_some _ _ _ found in
    (ltb-true _ _ below, same)

-- where no place is found, the whole text stands before the first
found_none : (separator : ℕ) (text : List ℕ) → position (λ byte. byte == separator) text ≡ None →
    length text ≤ position_or_len (λ byte. byte == separator) text
found_none separator text found =
    elim (nat_lt (position_or_len (λ byte. byte == separator) text) (length text)) as (λ t. nat_lt (position_or_len (λ byte. byte == separator) text) (length text) ≡ t → length text ≤ position_or_len (λ byte. byte == separator) text) [
      | true ↦ λ is. let wrong = rw is at found in cc
      | false ↦ λ is. ltb-false _ _ is
    ] refl

-- before the first separator there is none
pub before_some : (separator : ℕ) (text : List ℕ) (place : ℕ) → position (λ byte. byte == separator) text ≡ Some place →
    has_none separator (take place text) ≡ true
before_some separator text place found =
    let (below, same) = found_at separator text place found in
    let P : ℕ → Type 0 = λ k. has_none separator (take k text) ≡ true in
    subst P same (passes_before (λ byte. not (byte == separator)) text)

pub none_at_all : (separator : ℕ) (text : List ℕ) → position (λ byte. byte == separator) text ≡ None → has_none separator text ≡ true
none_at_all separator text found =
    let P : List ℕ → Type 0 = λ xs. has_none separator xs ≡ true in
    subst P (take_all _ text (found_none separator text found)) (passes_before (λ byte. not (byte == separator)) text)

-- where a separator is found, the text is cut there
pub split_some : (separator : ℕ) (text : List ℕ) (place : ℕ) → position (λ byte. byte == separator) text ≡ Some place →
    pieces separator text ≡ take place text ∷ pieces separator (drop (place + 1) text)
split_some separator text place found =
    let (below, same) = found_at separator text place found in
    let P : ℕ → Type 0 = λ k. pieces separator text ≡ take k text ∷ pieces separator (drop (k + 1) text) in
    subst P same (slice_split_first (λ byte. byte == separator) text 0 below)

-- where none is found, the text is one piece
pub split_none : (separator : ℕ) (text : List ℕ) → position (λ byte. byte == separator) text ≡ None → pieces separator text ≡ text ∷ []
split_none separator text found = whole_piece separator text (none_at_all separator text found)
