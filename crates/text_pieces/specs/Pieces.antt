-- How a byte text is cut: pieces between separators, words between blanks.
use Rattle.std.specs.Prelude.{ℕ, Bool, true, false, not, ◌&&◌, ◌==◌, nat_le, List, [], ◌∷◌, ◌++◌, Option, Some, None, filter, slice_index_or}
use Rattle.std.specs.List.{list_all, slice_split}

-- what stands between the separators of a text, one piece more than there are separators; a piece may be empty
abbrev pub pieces : ℕ → List ℕ → List (List ℕ)
pieces separator text = slice_split (λ byte. byte == separator) text

-- the pieces of what stands behind a separator, and none where there was no separator
abbrev pub pieces_behind : ℕ → Option (List ℕ) → List (List ℕ)
pieces_behind separator None = []
pieces_behind separator (Some rest) = pieces separator rest

-- whether no byte of a text is the separator
abbrev pub has_none : ℕ → List ℕ → Bool
has_none separator text = list_all (λ byte. not (byte == separator)) text

-- whether a text has a byte
abbrev pub is_filled : List ℕ → Bool
is_filled [] = false
is_filled (byte ∷ bytes) = true

-- whether a text is a single word: it has a byte, and no blank, which is byte 32
abbrev pub is_word : List ℕ → Bool
is_word text = is_filled text && has_none 32 text

-- the words of a line: its longest runs of bytes other than the blank
abbrev pub words : List ℕ → List (List ℕ)
words line = filter is_filled (pieces 32 line)

-- the k-th word, from 0, or the empty text past the last
abbrev pub at : List (List ℕ) → ℕ → List ℕ
at args k = slice_index_or args k []

-- words joined by single blanks
abbrev pub spaced : List (List ℕ) → List ℕ
spaced [] = []
spaced (word ∷ []) = word
spaced (word ∷ next ∷ rest) = word ++ 32 ∷ spaced (next ∷ rest)

-- whether each byte of a line is printed ASCII, the blank among them
abbrev pub are_printed : List ℕ → Bool
are_printed line = list_all (λ byte. nat_le 32 byte && nat_le byte 126) line

-- what stands between two parts of a line: a blank, an upright bar and a blank
abbrev pub bar : List ℕ
bar = 32 ∷ 124 ∷ 32 ∷ []
