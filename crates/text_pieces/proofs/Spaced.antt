-- Words that are joined by single blanks are read back.
use Rattle.std.proofs.Common.{◌≡◌, ℕ, true, List, [], ◌∷◌, ◌++◌, refl, ◌∙◌, ap}
use Rattle.std.specs.List.{list_all}
use Rattle.std.proofs.lemmas.Bool.{and_parts}
use Rattle.text_pieces.specs.Pieces.{is_filled, has_none, is_word, words, spaced}
use Rattle.text_pieces.proofs.Cuts.{whole_piece, piece_before}

-- a single word is its own list of words
pub one_word : (word : List ℕ) → is_word word ≡ true → words word ≡ word ∷ []
one_word word good =
    let (filled, whole) = and_parts (is_filled word) (has_none 32 word) good in
    rw (whole_piece 32 word whole, filled) refl

-- a word and a blank in front of a text are its first word
pub word_before : (word rest : List ℕ) → is_word word ≡ true → words (word ++ 32 ∷ rest) ≡ word ∷ words rest
word_before word rest good =
    let (filled, whole) = and_parts (is_filled word) (has_none 32 word) good in
    rw (piece_before 32 word rest whole, filled) refl

-- a blank in front of a text changes no word
pub blank_before : (rest : List ℕ) → words (32 ∷ rest) ≡ words rest
blank_before rest = refl

pub spaced_words : (ws : List (List ℕ)) → list_all is_word ws ≡ true → words (spaced ws) ≡ ws
spaced_words [] good = refl
spaced_words (word ∷ []) good = one_word word (and_parts (is_word word) true good).0
spaced_words (word ∷ next ∷ rest) good =
    let (here, there) = and_parts (is_word word) (list_all is_word (next ∷ rest)) good in
    word_before word (spaced (next ∷ rest)) here ∙ ap (λ ws. word ∷ ws) (spaced_words (next ∷ rest) there)
