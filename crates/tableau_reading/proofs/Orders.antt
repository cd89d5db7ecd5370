-- The boxes of a shape in the order of the reading, in both tensor orders.
use Rattle.std.proofs.Common.{◌≡◌, ◌∙◌, refl, ap, ℕ, ◌<◌, true, List, length, map, get_or, arith}
use Rattle.std.proofs.lemmas.List.{length-reverse, get_or-reverse}
use Rattle.tensor_words.specs.declared.spaces.Order.{Order}
use Rattle.tensor_words.specs.declared.spaces.Order.TheVariants.{Standard, Kashiwara}
use Rattle.tensor_words.proofs.Reversal.{map_reversed}
use Rattle.tableau_reading.specs.Shapes.{ShapeType, IsShape, is_falling, box_count}
use Rattle.tableau_reading.specs.Readings.{Box, box, boxes, boxes_read, listed_in, place_in, place, column_place, height, width}
use Rattle.tableau_reading.proofs.Boxes.{in_row, in_column, column_there, place_below, box_at_place, box_at, length-boxes}

-- ---- lists from either end

length-listed : {E : Type 0} (o : Order) (xs : List E) → length (listed_in o xs) ≡ length xs
length-listed Standard xs = refl
length-listed Kashiwara xs = length-reverse xs

pub map-listed : {D E : Type 0} (o : Order) (f : D → E) (xs : List D) → map f (listed_in o xs) ≡ listed_in o (map f xs)
map-listed Standard f xs = refl
map-listed Kashiwara f xs = map_reversed f xs

pub get_or-listed : {E : Type 0} (o : Order) (xs : List E) (n k : ℕ) (d : E) → length xs ≡ n → k < n → get_or (listed_in o xs) k d ≡ get_or xs (place_in o n k) d
get_or-listed Standard xs n k d size lt = refl
get_or-listed Kashiwara xs n k d size lt = rw (← size) (get_or-reverse xs k d (omega arith))

pub place_in-below : (o : Order) (n k : ℕ) → k < n → place_in o n k < n
place_in-below Standard n k lt = lt
place_in-below Kashiwara n k lt = omega arith

place_in-twice : (o : Order) (n k : ℕ) → k < n → place_in o n (place_in o n k) ≡ k
place_in-twice Standard n k lt = refl
place_in-twice Kashiwara n k lt = omega arith

-- ---- the places of the reading

pub length-boxes_read : (s : ShapeType) → is_falling s.rows ≡ true → length (boxes_read s) ≡ box_count s
length-boxes_read s falls = length-listed s.order (boxes s.rows) ∙ length-boxes s.rows falls

pub column_below : (s : ShapeType) (r c : ℕ) → IsShape s → c < get_or s.rows r 0 → column_place s.rows r c < box_count s
column_below s r c h lt =
    let row : r < height s.rows c = in_column s.rows r c h.falling lt in
    let column : c < width s.rows = column_there s.rows r c h.falling lt in
    omega (arith, place_below s r c column row, length-boxes s.rows h.falling)

-- what is known of the place of a box
pub record IsPlaced (s : ShapeType) (r c : ℕ) : Type 0 where
  pub below : place s r c < box_count s
  pub there : get_or (boxes_read s) (place s r c) (box 0 0) ≡ box r c

pub placed : (s : ShapeType) (r c : ℕ) → IsShape s → c < get_or s.rows r 0 → IsPlaced s r c
placed s r c h lt =
    let row : r < height s.rows c = in_column s.rows r c h.falling lt in
    let column : c < width s.rows = column_there s.rows r c h.falling lt in
    let low = column_below s r c h lt in
    let below : place s r c < box_count s = place_in-below s.order (box_count s) (column_place s.rows r c) low in
    record {
      below = below;
      there =
          get_or-listed s.order (boxes s.rows) (box_count s) (place s r c) (box 0 0) (length-boxes s.rows h.falling) below
          ∙ (ap (λ k. get_or (boxes s.rows) k (box 0 0)) (place_in-twice s.order (box_count s) (column_place s.rows r c) low) ∙ box_at_place s r c column row);
    }

-- what is known of the box at a place
pub record IsReadAt (s : ShapeType) (k : ℕ) (b : Box) : Type 0 where
  pub within : b.column < get_or s.rows b.row 0
  pub place : place s b.row b.column ≡ k

pub read_at : (s : ShapeType) (k : ℕ) → IsShape s → k < box_count s → IsReadAt s k (get_or (boxes_read s) k (box 0 0))
read_at s k h lt =
    let j = place_in s.order (box_count s) k in
    let size : length (boxes s.rows) ≡ box_count s = length-boxes s.rows h.falling in
    let same = get_or-listed s.order (boxes s.rows) (box_count s) k (box 0 0) size lt in
    let low : place_in s.order (box_count s) k < length (boxes s.rows) = omega (arith, size, place_in-below s.order (box_count s) k lt) in
    let known = box_at s (place_in s.order (box_count s) k) low in
    rw same (record {
      within = in_row s.rows _ _ h.falling known.row;
      place = ap (place_in s.order (box_count s)) known.place ∙ place_in-twice s.order (box_count s) k lt;
    })
