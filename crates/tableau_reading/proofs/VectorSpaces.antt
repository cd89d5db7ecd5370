-- The spaces of words that fill a shape.
use Rattle.std.proofs.Common.{◌≡◌, refl, sym, ℕ, zero, suc, ◌+◌, ◌^◌, ◌≤◌, ◌<◌, ◌==◌, nat_lt, false, IsTrue, length, map, replicate, None, Ok, arith}
use Rattle.std.specs.List.{list_all}
use Rattle.std.proofs.Math.Nat.{pow-succ', pow-zero}
use Rattle.std.proofs.lemmas.Bool.Decides.{nat_tests}
use Rattle.std.proofs.lemmas.List.{length-replicate, get_or-replicate}
use Rattle.crystal_cartan.specs.Types.{CartanType}
use Rattle.crystal_cartan.specs.declared.types.Kind.{Kind}
use Rattle.vector_crystals.specs.Letters.{letter_count}
use Rattle.tensor_words.specs.declared.spaces.Factor.TheVariants.{Vector}
use Rattle.tensor_words.specs.Spaces.{IsSpace, has_factor, base_size, product, wrong_place, space_of, size_at}
use Rattle.tableau_reading.specs.Shapes.{ShapeType, IsShape, box_count, vector_space, shape_space}
use Rattle.tableau_reading.proofs.Rows.{few_boxes, few_words}
use Rattle.tableau_reading.proofs.Boxes.{some_boxes}

product_vectors : (t : CartanType) (n : ℕ) → product (map (base_size t) (replicate n Vector)) ≡ letter_count t ^ n
unfolding base_size
product_vectors t zero = sym (pow-zero (letter_count t))
product_vectors t (suc n) = rw (product_vectors t n) (sym (pow-succ' (letter_count t) n))

pub all_vectors : (k : Kind) (n : ℕ) → IsTrue (list_all (has_factor k) (replicate n Vector))
all_vectors k zero = refl
all_vectors k (suc n) = all_vectors k n

none_wrong : (k : Kind) (p n : ℕ) → wrong_place k p (replicate n Vector) ≡ None
none_wrong k p zero = refl
none_wrong k p (suc n) = none_wrong k (p + 1) n

pub shape_is_space : (s : ShapeType) → IsShape s → IsSpace (shape_space s)
shape_is_space s h =
    let size : length (replicate (box_count s) Vector) ≡ box_count s = length-replicate (box_count s) Vector in
    record {
      cartan = h.cartan;
      some = omega (arith, size, some_boxes s.rows h.filled);
      few = omega (arith, size, few_boxes s.cartan (box_count s) h.small);
      had = all_vectors s.cartan.kind (box_count s);
      narrow = rw (product_vectors s.cartan (box_count s)) (few_words s.cartan (box_count s) h.small);
    }

pub vector_space_of : (s : ShapeType) → IsShape s → space_of s.cartan (replicate (box_count s) Vector) ≡ Ok (vector_space s)
unfolding space_of
vector_space_of s h =
    let size : length (replicate (box_count s) Vector) ≡ box_count s = length-replicate (box_count s) Vector in
    let some : 0 < box_count s = some_boxes s.rows h.filled in
    let few : box_count s ≤ 40 = few_boxes s.cartan (box_count s) h.small in
    let filled : (length (replicate (box_count s) Vector) == 0) ≡ false = grind (arith, nat_tests) in
    let fits : nat_lt 40 (length (replicate (box_count s) Vector)) ≡ false = grind (arith, nat_tests) in
    let narrow : nat_lt (2 ^ 63) (letter_count s.cartan ^ box_count s) ≡ false = not_above (letter_count s.cartan ^ box_count s) (few_words s.cartan (box_count s) h.small) in
    rw (filled, fits, none_wrong s.cartan.kind 1 (box_count s), product_vectors s.cartan (box_count s), narrow) refl
  where
    not_above : (n : ℕ) → n ≤ 2 ^ 63 → nat_lt (2 ^ 63) n ≡ false
    not_above n le = grind (arith, nat_tests)

pub vector_size : (s : ShapeType) (k : ℕ) → k < box_count s → size_at (shape_space s) k ≡ letter_count s.cartan
unfolding base_size
vector_size s k lt = rw (get_or-replicate (box_count s) k Vector Vector lt) refl

pub length-shape_space : (s : ShapeType) → length (shape_space s).factors ≡ box_count s
length-shape_space s = length-replicate (box_count s) Vector
