-- The answers to asks about a finished graph. Each line ends with byte 10.
use Rattle.std.specs.Prelude.{ℕ, List, ◌∷◌, ◌++◌, length, codes, decimal, ℤ}
use Rattle.std.specs.List.{flat_map}
use Rattle.tensor_words.specs.declared.spaces.Order.{Order}
use Rattle.tensor_words.specs.declared.spaces.Order.TheVariants.{Standard, Kashiwara}
use Rattle.tableau_reading.specs.Shapes.{ShapeType, shape_space}
use Rattle.tableau_reading.specs.Readings.{top_word}
use Rattle.tableau_reading.specs.Texts.{word_text, weight_text}
use Rattle.canonical_graph.specs.Graphs.{FinishedType, vertex_word}
use Rattle.text_pieces.specs.Pieces.{bar}
use Rattle.crystal_streams.specs.Lines.{ended}
use Rattle.answer_text.specs.Texts.{numbered}

-- numbers in decimal, each with a blank in front of it
abbrev pub listed : List ℕ → List ℕ
listed numbers = flat_map (λ number. 32 ∷ decimal number) numbers

-- what an ask is about, and how many answers it has: `demazure I1 I2 .. | COUNT`, `tops N1 N2 .. | COUNT`,
-- `reflect I | COUNT`
unfoldable pub demazure_head : List ℕ → ℕ → List ℕ
demazure_head indices count = codes "demazure" ++ listed indices ++ bar ++ decimal count

unfoldable pub tops_head : List ℕ → ℕ → List ℕ
tops_head rows count = codes "tops" ++ listed rows ++ bar ++ decimal count

unfoldable pub reflection_head : ℕ → ℕ → List ℕ
reflection_head index count = codes "reflect " ++ decimal index ++ bar ++ decimal count

-- a member of a subset: `RANK | WORD`
unfoldable pub member_line : FinishedType → ℕ → List ℕ
member_line f rank = decimal rank ++ bar ++ word_text f.space (vertex_word f rank)

-- the Demazure subset of these indices: its members, by their ranks
unfoldable pub demazure_text : FinishedType → List ℕ → List ℕ → List ℕ
demazure_text f indices ranks =
    ended (demazure_head indices (length ranks)) ++ flat_map (λ rank. ended (member_line f rank)) ranks

-- the top word of a shape
unfoldable pub shape_text : ShapeType → List ℕ
shape_text shape = word_text (shape_space shape) (top_word shape)

-- the word of a vertex and the top word of a shape as one word, in the tensor order of the graph: the vertex first in the
-- standard order, last in Kashiwara's
abbrev pub product_text : Order → List ℕ → List ℕ → List ℕ
product_text Standard vertex top = vertex ++ 32 ∷ top
product_text Kashiwara vertex top = top ++ 32 ∷ vertex

-- a product top: the word of both, and a weight, as `WORD | WEIGHT`
unfoldable pub top_line : FinishedType → List ℕ → ℕ → List ℤ → List ℕ
top_line f top rank weight = product_text f.space.order (word_text f.space (vertex_word f rank)) top ++ bar ++ weight_text weight

-- the product tops with a shape: the ranks of their vertices, each with its weight
unfoldable pub tops_text : FinishedType → ShapeType → List (ℕ × List ℤ) → List ℕ
tops_text f shape tops =
    ended (tops_head shape.rows (length tops)) ++ flat_map (λ top. ended (top_line f (shape_text shape) top.0 top.1)) tops

-- a vertex and its image, by their ranks: `RANK | IMAGE`
unfoldable pub image_line : ℕ → ℕ → List ℕ
image_line rank image = decimal rank ++ bar ++ decimal image

-- the reflection of an index: the images of the vertices, in ascending rank from 0
unfoldable pub reflection_text : ℕ → List ℕ → List ℕ
reflection_text index images =
    ended (reflection_head index (length images)) ++ numbered (λ rank image. ended (image_line rank image)) 0 images
