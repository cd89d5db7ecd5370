-- No raising operator applies to the top word of a shape.
use Rattle.std.proofs.Common.{◌≡◌, ◌∙◌, refl, ap, ap₂, subst, ℕ, zero, suc, ◌+◌, ◌-◌, ◌≤◌, ◌<◌, ◌==◌, nat_le, Bool, true, List, [], ◌∷◌, ◌++◌, length, map, reverse, replicate, pos, arith}
use Rattle.std.specs.Ordering.{int_eq}
use Rattle.std.specs.List.{range_with_len}
use Rattle.std.proofs.lemmas.Bool.{eqb-true}
use Rattle.std.proofs.lemmas.Bool.Decides.{nat_tests}
use Rattle.std.proofs.lemmas.List.{length-map, map-append, length-reverse, reverse-reverse, replicate-append-replicate}
use Rattle.crystal_cartan.specs.Types.{CartanType, IsCartan, HasIndex, coordinates, coordinates_of}
use Rattle.crystal_cartan.specs.Crystals.{edge_action}
use Rattle.crystal_cartan.specs.declared.types.Kind.{Kind}
use Rattle.crystal_cartan.specs.declared.types.Kind.TheVariants.{A, B, C, D}
use Rattle.vector_crystals.specs.Letters.{letter_count_of, letter_at}
use Rattle.vector_crystals.specs.VectorCrystals.{vector_edges_of, vector_edges, letter_action, digit_action}
use Rattle.vector_crystals.proofs.Tables.{all_below, below_at, all_ranks, ranks_at}
use Rattle.vector_crystals.proofs.Digits.{letter_at-unbarred}
use Rattle.tensor_words.specs.declared.spaces.Factor.TheVariants.{Vector}
use Rattle.tensor_words.specs.declared.spaces.Order.{Order}
use Rattle.tensor_words.specs.declared.spaces.Order.TheVariants.{Standard, Kashiwara}
use Rattle.tensor_words.specs.Spaces.{tensor_space, ordered, HasFactors, base_action, base_size}
use Rattle.tensor_words.specs.Codes.{AreDigits, IsWord}
use Rattle.tensor_words.proofs.Reversal.{law_of_reversal, reverse_first}
use Rattle.tensor_words.specs.TensorRule as rule
use Rattle.tensor_words.specs.TensorRule.{word_eps, word_phi}
use Rattle.tableau_reading.specs.Shapes.{ShapeType, IsShape, box_count, shape_space}
use Rattle.tableau_reading.specs.Readings.{Box, box, height, width, column_boxes, boxes_before, boxes, boxes_read, listed_in, top_word}
use Rattle.tableau_reading.specs.Laws.{TopHasRows, TopIsHighest}
use Rattle.tableau_reading.proofs.Boxes.{height-le, length-boxes}
use Rattle.tableau_reading.proofs.Orders.{length-boxes_read, map-listed}
use Rattle.tableau_reading.proofs.VectorSpaces.{all_vectors}

-- ---- what an index does at the letters without a bar

-- the letter 1 cannot be raised, and whenever a letter without a bar can be raised, the one before it can be lowered
abbrev climb_cell : Kind → ℕ → ℕ → ℕ → Bool
climb_cell k r i zero = (edge_action int_eq (vector_edges_of k r) i).eps (pos 1) == 0
climb_cell k r i (suc d) = nat_le ((edge_action int_eq (vector_edges_of k r) i).eps (pos (suc d + 1))) ((edge_action int_eq (vector_edges_of k r) i).phi (pos (d + 1)))

abbrev climb_table : Kind → ℕ → Bool
climb_table k r = all_below r (λ j. all_below (coordinates_of k r) (climb_cell k r (j + 1)))

climb_rows : (k : Kind) → all_ranks climb_table k ≡ true
climb_rows A = refl
climb_rows B = refl
climb_rows C = refl
climb_rows D = refl

climb_at : (t : CartanType) (i d : ℕ) → IsCartan t → HasIndex t i → d < coordinates t → climb_cell t.kind t.rank i d ≡ true
climb_at t i d c index lt =
    let table : climb_table t.kind t.rank ≡ true = ranks_at climb_table climb_rows t c in
    let row = below_at t.rank (λ j. all_below (coordinates t) (climb_cell t.kind t.rank (j + 1))) table (i - 1) (omega (arith, index.low, index.high)) in
    let place : i - 1 + 1 ≡ i = omega (arith, index.low) in
    subst (λ j. climb_cell t.kind t.rank j d ≡ true) place (below_at (coordinates t) (climb_cell t.kind t.rank (i - 1 + 1)) row d lt)

count_le : (k : Kind) (r : ℕ) → coordinates_of k r ≤ letter_count_of k r
count_le A r = omega arith
count_le B r = omega arith
count_le C r = omega arith
count_le D r = omega arith

pub unbarred : (t : CartanType) (d : ℕ) → IsCartan t → d < coordinates t → letter_at t d ≡ pos (d + 1)
unbarred t d c lt = letter_at-unbarred t d c (omega (arith, count_le t.kind t.rank)) lt

first_still : (t : CartanType) (i : ℕ) → IsCartan t → HasIndex t i → 0 < coordinates t → (base_action t i Vector).eps 0 ≡ 0
unfolding base_action digit_action letter_action vector_edges
first_still t i c index some = rw (unbarred t 0 c some) (eqb-true _ 0 (climb_at t i 0 c index some))

climbs : (t : CartanType) (i d : ℕ) → IsCartan t → HasIndex t i → suc d < coordinates t → (base_action t i Vector).eps (suc d) ≤ (base_action t i Vector).phi d
unfolding base_action digit_action letter_action vector_edges
climbs t i d c index lt =
    let cell = climb_at t i (suc d) c index lt in
    rw (unbarred t (suc d) c lt, unbarred t d c (omega arith)) (le_by_test _ _ cell)
  where
    le_by_test : (a b : ℕ) → nat_le a b ≡ true → a ≤ b
    le_by_test a b is = grind (arith, nat_tests)

-- ---- words in which each digit but 0 stands in front of the digit before it

abbrev Follows : ℕ → List ℕ → Type 0
Follows zero ds = Unit {0}
Follows (suc d) [] = ⊥
Follows (suc d) (e ∷ es) = e ≡ d

-- digits below n in steps down
abbrev pub AreSteps : ℕ → List ℕ → Type 0
AreSteps n [] = Unit {0}
AreSteps n (d ∷ ds) = (d < n) × Follows d ds × AreSteps n ds

follows_more : (d : ℕ) (ds es : List ℕ) → Follows d ds → Follows d (ds ++ es)
follows_more zero ds es h = tt
follows_more (suc d) [] es h = absurd h
follows_more (suc d) (e ∷ ds) es h = h

-- digits below n
abbrev pub AreBelow : ℕ → List ℕ → Type 0
AreBelow n [] = Unit {0}
AreBelow n (d ∷ ds) = (d < n) × AreBelow n ds

steps_below : (n : ℕ) (ds : List ℕ) → AreSteps n ds → AreBelow n ds
steps_below n [] h = tt
steps_below n (d ∷ ds) h = (h.0, steps_below n ds h.2)

below-append : (n : ℕ) (ds es : List ℕ) → AreBelow n ds → AreBelow n es → AreBelow n (ds ++ es)
below-append n [] es h k = k
below-append n (d ∷ ds) es h k = (h.0, below-append n ds es h.1 k)

below-reverse : (n : ℕ) (ds : List ℕ) → AreBelow n ds → AreBelow n (reverse ds)
below-reverse n [] h = tt
below-reverse n (d ∷ ds) h = rw (reverse_first d ds) (below-append n (reverse ds) (d ∷ []) (below-reverse n ds h.1) (h.0, tt))

below-listed : (o : Order) (n : ℕ) (ds : List ℕ) → AreBelow n ds → AreBelow n (listed_in o ds)
below-listed Standard n ds h = h
below-listed Kashiwara n ds h = below-reverse n ds h

pub steps-append : (n : ℕ) (ds es : List ℕ) → AreSteps n ds → AreSteps n es → AreSteps n (ds ++ es)
steps-append n [] es h k = k
steps-append n (d ∷ ds) es h k = (h.0, follows_more d ds es h.1, steps-append n ds es h.2 k)

no_eps : (t : CartanType) (i : ℕ) (ds : List ℕ) → IsCartan t → HasIndex t i → AreSteps (coordinates t) ds →
    word_eps (map (base_action t i) (replicate (length ds) Vector)) ds ≡ 0
no_eps t i [] c index steps = refl
no_eps t i (d ∷ ds) c index steps =
    omega (arith, no_eps t i ds c index steps.2, covered d ds steps.0 steps.1)
  where
    covered : (d : ℕ) (ds : List ℕ) → d < coordinates t → Follows d ds →
        (base_action t i Vector).eps d ≤ word_phi (map (base_action t i) (replicate (length ds) Vector)) ds
    covered zero ds lt follows = omega (arith, first_still t i c index lt)
    covered (suc d) [] lt follows = absurd follows
    covered (suc d) (e ∷ es) lt follows = rw follows (omega (arith, climbs t i d c index lt))

-- ---- top words are of that kind

-- h - 1, .., 0
abbrev pub descending : ℕ → List ℕ
descending zero = []
descending (suc h) = h ∷ descending h

descending_steps : (n h : ℕ) → h ≤ n → AreSteps n (descending h)
descending_steps n zero le = tt
descending_steps n (suc h) le = (omega arith, next h, descending_steps n h (omega arith))
  where
    next : (k : ℕ) → Follows k (descending k)
    next zero = tt
    next (suc k) = refl

rows_down : (m c a h : ℕ) → m ≡ a + h → map (λ (b : Box). b.row) (map (λ k. box (m - 1 - k) c) (range_with_len a h)) ≡ descending h
rows_down m c a zero is = refl
rows_down m c a (suc h) is =
    let first : m - 1 - a ≡ h = omega arith in
    ap₂ (λ x xs. x ∷ xs) first (rows_down m c (a + 1) h (omega arith))

pub column_down : (rows : List ℕ) (c : ℕ) → map (λ (b : Box). b.row) (column_boxes rows c) ≡ descending (height rows c)
column_down rows c = rows_down (height rows c) c 0 (height rows c) (omega arith)

pub top_more : (rows : List ℕ) (c : ℕ) →
    map (λ (b : Box). b.row) (boxes_before rows (suc c)) ≡ map (λ (b : Box). b.row) (boxes_before rows c) ++ descending (height rows c)
top_more rows c = map-append (λ (b : Box). b.row) (boxes_before rows c) (column_boxes rows c) ∙ ap (λ ds. map (λ (b : Box). b.row) (boxes_before rows c) ++ ds) (column_down rows c)

pub top_steps : (rows : List ℕ) (n c : ℕ) → length rows ≤ n → AreSteps n (map (λ (b : Box). b.row) (boxes_before rows c))
top_steps rows n zero le = tt
top_steps rows n (suc c) le =
    rw (top_more rows c) (steps-append n (map (λ (b : Box). b.row) (boxes_before rows c)) (descending (height rows c))
    (top_steps rows n c le) (descending_steps n (height rows c) (omega (arith, height-le rows c))))

-- the top word lists the rows of the boxes in the order of the reading
pub top_listed : (s : ShapeType) → map (λ (b : Box). b.row) (boxes_read s) ≡ listed_in s.order (map (λ (b : Box). b.row) (boxes s.rows))
top_listed s = map-listed s.order (λ (b : Box). b.row) (boxes s.rows)

pub length-top : (s : ShapeType) → IsShape s → length (map (λ (b : Box). b.row) (boxes_read s)) ≡ box_count s
length-top s h = length-map (boxes_read s) (λ (b : Box). b.row) ∙ length-boxes_read s h.falling

pub top_below : (s : ShapeType) → IsShape s → AreBelow (coordinates s.cartan) (map (λ (b : Box). b.row) (boxes_read s))
top_below s h =
    let steps : AreSteps (coordinates s.cartan) (map (λ (b : Box). b.row) (boxes s.rows)) = top_steps s.rows (coordinates s.cartan) (width s.rows) h.low in
    rw (top_listed s) (below-listed s.order (coordinates s.cartan) (map (λ (b : Box). b.row) (boxes s.rows)) (steps_below _ _ steps))

below_are_digits : (t : CartanType) (ds : List ℕ) → AreBelow (coordinates t) ds → AreDigits (map (base_size t) (replicate (length ds) Vector)) ds
unfolding base_size
below_are_digits t [] below = tt
below_are_digits t (d ∷ ds) below = (omega (arith, below.0, count_le t.kind t.rank), below_are_digits t ds below.1)

-- the top word of a shape is a word of its space
pub top_is_word : (s : ShapeType) → IsShape s → IsWord (shape_space s) (top_word s)
unfolding top_word
top_is_word s h =
    let digits = below_are_digits s.cartan (map (λ (b : Box). b.row) (boxes_read s)) (top_below s h) in
    rw (length-top s h) at digits

reverse-replicate : {E : Type 0} (n : ℕ) (x : E) → reverse (replicate n x) ≡ replicate n x
reverse-replicate zero x = refl
reverse-replicate (suc n) x =
    let next : n + 1 ≡ suc n = omega arith in
    reverse_first x (replicate n x) ∙ (ap (λ xs. xs ++ x ∷ []) (reverse-replicate n x) ∙ (replicate-append-replicate n 1 x ∙ ap (λ m. replicate m x) next))

-- in Kashiwara's order the same word read from its other end
no_eps_in : (o : Order) (t : CartanType) (i : ℕ) (ds : List ℕ) → IsCartan t → HasIndex t i → AreSteps (coordinates t) ds →
    (rule.action (ordered o (tensor_space t (replicate (length ds) Vector))) i).eps (listed_in o ds) ≡ 0
unfolding rule.action
no_eps_in Standard t i ds c index steps = no_eps t i ds c index steps
no_eps_in Kashiwara t i ds c index steps =
    let factors : HasFactors (tensor_space t (replicate (length ds) Vector)) = record { cartan = c; had = all_vectors t.kind (length ds) } in
    let digits = below_are_digits t (reverse ds) (below-reverse (coordinates t) ds (steps_below (coordinates t) ds steps)) in
    let word : IsWord (tensor_space t (replicate (length ds) Vector)) (reverse ds) = rw (length-reverse ds) at digits in
    (law_of_reversal t i (replicate (length ds) Vector) (reverse ds) factors index word).eps
    ∙ rw (reverse-replicate (length ds) Vector, reverse-reverse ds) (no_eps t i ds c index steps)

pub top_is_highest : TopIsHighest
unfolding top_word
top_is_highest s i h index =
    let steps : AreSteps (coordinates s.cartan) (map (λ (b : Box). b.row) (boxes s.rows)) = top_steps s.rows (coordinates s.cartan) (width s.rows) h.low in
    let none = no_eps_in s.order s.cartan i (map (λ (b : Box). b.row) (boxes s.rows)) h.cartan index steps in
    let size : length (map (λ (b : Box). b.row) (boxes s.rows)) ≡ box_count s = length-map (boxes s.rows) (λ (b : Box). b.row) ∙ length-boxes s.rows h.falling in
    rw (top_listed s, ← size) none

unbarred_rows : (t : CartanType) (bs : List Box) → IsCartan t → AreBelow (coordinates t) (map (λ (b : Box). b.row) bs) →
    map (letter_at t) (map (λ (b : Box). b.row) bs) ≡ map (λ (b : Box). pos (b.row + 1)) bs
unbarred_rows t [] c below = refl
unbarred_rows t (b ∷ bs) c below = ap₂ (λ x xs. x ∷ xs) (unbarred t b.row c below.0) (unbarred_rows t bs c below.1)

pub top_has_rows : TopHasRows
unfolding top_word
top_has_rows s h = unbarred_rows s.cartan (boxes_read s) h.cartan (top_below s h)
