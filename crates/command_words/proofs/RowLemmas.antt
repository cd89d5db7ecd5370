-- The loop over the rows of a census, which holds texts behind references.
use Rattle.std.proofs.Common.{◌≡◌, ◌∙◌, ◌<◌, ◌+◌, ℕ, suc, refl, sym, ap, ap₂, arith, List, [], ◌∷◌, ◌++◌, map, length, drop, get_or, Option, Some, None, drop-cons, append_assoc, append-nil, Bor}
use Rattle.std.proofs.lemmas.List.{drop_all}
use Rattle.command_words.specs.Judge.{Text, row_number, row_numbers, with_row}

abbrev texts : List (Bor Text) → List Text
texts = map (λ text. text.now)

-- lengths before those of the rows that are left
abbrev pub before : List ℕ → Option (List ℕ) → Option (List ℕ)
before lengths (Some more) = Some (lengths ++ more)
before lengths None = None

-- the first `count` rows have these lengths
abbrev pub AreRowsSoFar : List (Bor Text) → ℕ → List ℕ → Type 0
AreRowsSoFar rows count lengths = row_numbers (texts rows) ≡ before lengths (row_numbers (texts (drop count rows)))

pub rows_none : (rows : List (Bor Text)) (lengths : List ℕ) → lengths ≡ [] → AreRowsSoFar rows 0 lengths
rows_none rows lengths none = rw none (kept (row_numbers (texts rows)))
  where
    kept : (o : Option (List ℕ)) → o ≡ before [] o
    kept (Some more) = refl
    kept None = refl

module _ (rows : List (Bor Text)) (count : ℕ) (row : Bor Text) (inside : count < length rows) (at : row ≡ get_or rows count row) where
  one_more : (o : Option ℕ) → o ≡ row_number row.now → row_numbers (texts (drop count rows)) ≡ with_row o (row_numbers (texts (drop (suc count) rows)))
  one_more o is =
      ap (λ (ws : List (Bor Text)). row_numbers (texts ws)) (drop-cons rows count row inside)
      ∙ ap₂ with_row (ap (λ (r : Bor Text). row_number r.now) (sym at) ∙ sym is) refl

  moved : (lengths : List ℕ) (n : ℕ) (rest : Option (List ℕ)) → before lengths (with_row (Some n) rest) ≡ before (lengths ++ n ∷ []) rest
  moved lengths n (Some more) = ap Some (sym (append_assoc lengths (n ∷ []) more))
  moved lengths n None = refl

  pub rows_more : (lengths : List ℕ) (n : ℕ) → Some n ≡ row_number row.now → AreRowsSoFar rows count lengths → AreRowsSoFar rows (count + 1) (lengths ++ n ∷ [])
  rows_more lengths n is so_far =
      let next : suc count ≡ count + 1 = omega arith in
      so_far ∙ ap (before lengths) (one_more (Some n) is) ∙ moved lengths n (row_numbers (texts (drop (suc count) rows)))
      ∙ ap (λ (k : ℕ). before (lengths ++ n ∷ []) (row_numbers (texts (drop k rows)))) next

  pub rows_fault : (lengths : List ℕ) → None ≡ row_number row.now → AreRowsSoFar rows count lengths → row_numbers (texts rows) ≡ None
  rows_fault lengths is so_far = so_far ∙ ap (before lengths) (one_more None is)

pub rows_all : (rows : List (Bor Text)) (count : ℕ) (lengths : List ℕ) → length rows ≡ count → AreRowsSoFar rows count lengths → row_numbers (texts rows) ≡ Some lengths
rows_all rows count lengths all so_far =
    let left : drop count rows ≡ [] = drop_all count rows (omega (arith, all)) in
    so_far ∙ ap (λ (ws : List (Bor Text)). before lengths (row_numbers (texts ws))) left ∙ ap Some (append-nil lengths)
