-- How a vertex is printed.
use Rattle.std.specs.Prelude.{ℕ, zero, suc, Bool, true, false, List, [], ◌∷◌, ◌++◌, Option, Some, None, decimal}
use Rattle.tensor_words.specs.Spaces.{word_weight}
use Rattle.text_pieces.specs.Pieces.{bar, spaced}
use Rattle.tableau_reading.specs.Texts.{word_text, weight_text}
use Rattle.canonical_graph.specs.Graphs.{FinishedType, vertex_word, target_rank, lowering}

-- the arrow f_i that leads to a vertex, as `i:TARGET`; nothing where f_i gives zero
abbrev pub arrow_text : ℕ → ℕ → List ℕ
arrow_text i target = (decimal i ++ 58 ∷ []) ++ decimal target

abbrev pub texts_of : ℕ → Option ℕ → List (List ℕ)
texts_of i None = []
texts_of i (Some target) = arrow_text i target ∷ []

-- the arrows of the first n indices
abbrev pub arrow_texts : FinishedType → ℕ → ℕ → List (List ℕ)
arrow_texts f rank zero = []
arrow_texts f rank (suc n) = arrow_texts f rank n ++ texts_of (suc n) (target_rank f rank (lowering (suc n)))

-- the arrows with single blanks between them, or the one byte - where there is none
abbrev pub or_dash : List (List ℕ) → List ℕ
or_dash [] = 45 ∷ []
or_dash (text ∷ texts) = spaced (text ∷ texts)

unfoldable pub arrows_text : FinishedType → ℕ → List ℕ
arrows_text f rank = or_dash (arrow_texts f rank f.space.cartan.rank)

-- the line of a vertex without the byte 10 at its end: `RANK | WORD | WEIGHT | ARROWS`
unfoldable pub vertex_text : FinishedType → ℕ → List ℕ
vertex_text f rank =
    decimal rank ++ bar ++ word_text f.space (vertex_word f rank) ++ bar
    ++ weight_text (word_weight f.space (vertex_word f rank)) ++ bar ++ arrows_text f rank

-- a line with the arrow of one index behind it, where it is not zero, and a blank between unless it is the first
abbrev pub spaced_onto : List ℕ → Bool → ℕ → Option ℕ → List ℕ
spaced_onto line first i None = line
spaced_onto line true i (Some target) = ((line ++ decimal i) ++ 58 ∷ []) ++ decimal target
spaced_onto line false i (Some target) = (((line ++ 32 ∷ []) ++ decimal i) ++ 58 ∷ []) ++ decimal target

-- a line with the one byte - behind it where there is no arrow
abbrev pub dash_onto : List ℕ → Bool → List ℕ
dash_onto line true = line ++ 45 ∷ []
dash_onto line false = line
