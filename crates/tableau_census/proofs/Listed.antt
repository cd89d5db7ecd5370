-- The listing has exactly the codes of the readings within bounds, ascending.
use Rattle.std.proofs.Common.{◌≡◌, ◌∙◌, refl, sym, subst, ℕ, zero, suc, ◌+◌, ◌-◌, ◌≤◌, ◌<◌, ◌==◌, nat_lt, IsTrue, Bool, true, false, ◌||◌, ◌&&◌, List, [], ◌∷◌, ◌++◌, length, get_or, set, Contains, inl, inr, arith}
use Rattle.std.specs.List.{range_with_len, flat_map}
use Rattle.std.proofs.lemmas.Bool.{cases_lt, cases_eq}
use Rattle.std.proofs.lemmas.Bool.Decides.{nat_tests}
use Rattle.std.proofs.lemmas.List.{ext_get_or, get_or_append_left, get_or-append_right, get_or-set_other, length-set, length-append}
use Rattle.std.proofs.lemmas.List.Elements.{Contains-append_left, Contains-append_right, Contains-append_cases, Contains-get_or}
use Rattle.std.proofs.lemmas.Grind.{get_or-set_at}
use Rattle.list_facts.proofs.Rising.{Rises}
use Rattle.crystal_cartan.specs.Types.{CartanType}
use Rattle.crystal_cartan.specs.declared.types.Kind.TheVariants.{A}
use Rattle.tableau_reading.specs.Shapes.{ShapeType, tableau_shape, IsShape, box_count, shape_space}
use Rattle.tensor_words.specs.Codes.{IsWord, code_of, is_before}
use Rattle.tableau_census.specs.Listing.{low_in, bound_in, IsBounded, completion_codes}
use Rattle.tableau_census.specs.Laws.{IsBeginning}
use Rattle.tableau_census.proofs.ShapeWords.{before_below}
use Rattle.tableau_census.proofs.Bounded.{Agree, bounds_agree, bounded_again, room, bounded_is_word, bounded_is_semistandard}

-- ---- lists one after another, one for each number of a range

pub record IsInRange (f : ℕ → List ℕ) (a m c : ℕ) : Type 0 where
  pub at : ℕ
  pub low : a ≤ at
  pub high : at < a + m
  pub there : Contains (f at) c

pub in_range : (f : ℕ → List ℕ) (a m c : ℕ) → Contains (flat_map f (range_with_len a m)) c → IsInRange f a m c
in_range f a zero c h = absurd (omega (arith, h.1))
in_range f a (suc m) c h = elim (Contains-append_cases (f a) (flat_map f (range_with_len (a + 1) m)) c h) [
  | inl first ↦ record { at = a; low = omega arith; high = omega arith; there = first }
  | inr later ↦
      let rest = in_range f (a + 1) m c later in
      record { at = rest.at; low = omega (arith, rest.low); high = omega (arith, rest.high); there = rest.there }
]

pub from_range : (f : ℕ → List ℕ) (a m c d : ℕ) → a ≤ d → d < a + m → Contains (f d) c → Contains (flat_map f (range_with_len a m)) c
from_range f a zero c d low high there = absurd (omega arith)
from_range f a (suc m) c d low high there = elim (cases_eq a d) [
  | inl same ↦ Contains-append_left (f a) (flat_map f (range_with_len (a + 1) m)) c (subst (λ x. Contains (f x) c) (sym same) there)
  | inr other ↦ Contains-append_right (f a) (flat_map f (range_with_len (a + 1) m)) c (from_range f (a + 1) m c d (omega arith) (omega arith) there)
]

rises_joined : (xs ys : List ℕ) → Rises xs → Rises ys → ((x y : ℕ) → Contains xs x → Contains ys y → x < y) → Rises (xs ++ ys)
rises_joined xs ys p q across i j d less within = elim (cases_lt j (length xs)) [
  | inl left ↦
      let first = get_or_append_left xs ys d i (omega arith) in
      let second = get_or_append_left xs ys d j left in
      omega (arith, first, second, p i j d less left)
  | inr right ↦
      let second = get_or-append_right xs ys (length xs) j d refl right in
      let inside : j - length xs < length ys = omega (arith, length-append xs ys) in
      elim (cases_lt i (length xs)) [
        | inl left ↦
            let first = get_or_append_left xs ys d i left in
            omega (arith, first, second, across (get_or xs i d) (get_or ys (j - length xs) d) (Contains-get_or xs i d left) (Contains-get_or ys (j - length xs) d inside))
        | inr behind ↦
            let first = get_or-append_right xs ys (length xs) i d refl behind in
            omega (arith, first, second, q (i - length xs) (j - length xs) d (omega arith) inside)
      ]
]

rises_range : (f : ℕ → List ℕ) (a m : ℕ) → ((d : ℕ) → a ≤ d → d < a + m → Rises (f d))
    → ((d e x y : ℕ) → a ≤ d → d < e → e < a + m → Contains (f d) x → Contains (f e) y → x < y) → Rises (flat_map f (range_with_len a m))
rises_range f a zero each across = λ i j d less within. absurd (omega arith)
rises_range f a (suc m) each across =
    rises_joined (f a) (flat_map f (range_with_len (a + 1) m)) (each a (omega arith) (omega arith))
    (rises_range f (a + 1) m (λ d low high. each d (omega arith) (omega arith)) (λ d e x y low less high. across d e x y (omega arith) less (omega arith)))
    (λ x y first later.
    let rest = in_range f (a + 1) m y later in
    across a rest.at x y (omega arith) (omega (arith, rest.low)) (omega (arith, rest.high)) first rest.there)

-- ---- words that first differ at a place

differ_at : (v w : List ℕ) (k : ℕ) → k < length v → k < length w → Agree k v w → get_or v k 0 < get_or w k 0 → IsTrue (is_before v w)
differ_at [] w k lt within same less = absurd (omega arith)
differ_at (x ∷ v) [] k lt within same less = absurd (omega arith)
differ_at (x ∷ v) (y ∷ w) zero lt within same less = let test : nat_lt x y ≡ true = grind (arith, nat_tests) in rw test refl
differ_at (x ∷ v) (y ∷ w) (suc k) lt within same less =
    let first : x ≡ y = same 0 (omega arith) in
    let equal : (x == y) ≡ true = grind (arith, nat_tests) in
    let rest = differ_at v w k (omega arith) (omega arith) (λ j low. same (suc j) (omega arith)) less in
    or_right (nat_lt x y) (is_before v w) (x == y) equal rest
  where
    or_right : (a b e : Bool) → e ≡ true → IsTrue b → IsTrue (a || (e && b))
    or_right true b e is h = refl
    or_right false b e is h = rw is h

-- ---- completions

-- v is w up to the place k, and from there on each digit is within its bounds
pub record Completes (s : ShapeType) (k : ℕ) (w v : List ℕ) : Type 0 where
  pub size : length v ≡ box_count s
  pub same : Agree k v w
  pub within : (j : ℕ) → k ≤ j → j < box_count s → IsBounded s v j

-- the code is that of such a word
pub record IsCompletionCode (s : ShapeType) (k : ℕ) (w : List ℕ) (c : ℕ) : Type 0 where
  pub word : List ℕ
  pub completes : Completes s k w word
  pub code : code_of (shape_space s) word ≡ c

module _ (t : CartanType) (rows : List ℕ) (h : IsShape (tableau_shape t rows)) where
  abbrev here : ShapeType
  here = tableau_shape t rows

  put_size : (w : List ℕ) (k d : ℕ) → length w ≡ box_count here → length (set w k d) ≡ box_count here
  put_size w k d size = length-set w k d ∙ size

  -- the digit at the next place is chosen
  put_completes : (k d : ℕ) (w v : List ℕ) → length w ≡ box_count here → k < box_count here → low_in here w k ≤ d → d < bound_in here w k
      → Completes here (k + 1) (set w k d) v → Completes here k w v
  put_completes k d w v size lt low high m = record {
    size = m.size;
    same = same;
    within = λ j le less. elim (cases_lt k j) [
      | inl later ↦ m.within j (omega arith) less
      | inr now ↦ let at : k ≡ j = omega arith in subst (IsBounded here v) at chosen
    ];
  }
    where
      same : Agree k v w
      same j less = m.same j (omega arith) ∙ get_or-set_other w k j d 0 (λ e. omega arith)

      chosen : IsBounded here v k
      chosen =
          let bounds = bounds_agree t rows h v w k lt same in
          let digit : get_or v k 0 ≡ d = m.same k (omega arith) ∙ get_or-set_at w k k d 0 refl (omega arith) in
          record { low = omega (arith, bounds.0); bound = omega (arith, bounds.1) }

  chosen_completes : (k : ℕ) (w v : List ℕ) → length w ≡ box_count here → k < box_count here → Completes here k w v → Completes here (k + 1) (set w k (get_or v k 0)) v
  chosen_completes k w v size lt m = record {
    size = m.size;
    same = λ j less. elim (cases_eq j k) [
      | inl at ↦ subst (λ i. get_or v i 0 ≡ get_or (set w k (get_or v k 0)) i 0) (sym at) (sym (get_or-set_at w k k (get_or v k 0) 0 refl (omega arith)))
      | inr other ↦ m.same j (omega arith) ∙ sym (get_or-set_other w k j (get_or v k 0) 0 other)
    ];
    within = λ j le less. m.within j (omega arith) less;
  }

  pub listed : (n k c : ℕ) (w : List ℕ) → length w ≡ box_count here → k + n ≡ box_count here → Contains (completion_codes here n k w) c → IsCompletionCode here k w c
  unfolding completion_codes
  listed zero k c w size is there = record {
    word = w;
    completes = record { size = size; same = λ j less. refl; within = λ j le less. absurd (omega arith) };
    code = single (code_of (shape_space here) w) c there;
  }
    where
      single : (x c : ℕ) → Contains (x ∷ []) c → x ≡ c
      single x c (zero, lt, e) = e
      single x c (suc k, lt, e) = absurd (omega arith)
  listed (suc n) k c w size is there =
      let found = in_range (λ d. completion_codes here n (k + 1) (set w k d)) (low_in here w k) (bound_in here w k - low_in here w k) c there in
      let rest = listed n (k + 1) c (set w k found.at) (put_size w k found.at size) (omega arith) found.there in
      record {
        word = rest.word;
        completes = put_completes k found.at w rest.word size (omega arith) found.low (omega (arith, found.low, found.high)) rest.completes;
        code = rest.code;
      }

  pub lists : (n k : ℕ) (w v : List ℕ) → length w ≡ box_count here → k + n ≡ box_count here → Completes here k w v
      → Contains (completion_codes here n k w) (code_of (shape_space here) v)
  unfolding completion_codes
  lists zero k w v size is m =
      let same : v ≡ w = ext_get_or 0 v w (m.size ∙ sym size) (λ j less. m.same j (omega (arith, m.size))) in
      rw same (Contains-get_or (code_of (shape_space here) w ∷ []) 0 0 (omega arith))
  lists (suc n) k w v size is m =
      let b = m.within k (omega arith) (omega arith) in
      let bounds = bounds_agree t rows h v w k (omega arith) m.same in
      from_range (λ d. completion_codes here n (k + 1) (set w k d)) (low_in here w k) (bound_in here w k - low_in here w k) (code_of (shape_space here) v) (get_or v k 0)
      (omega (arith, b.low, bounds.0)) (omega (arith, b.low, b.bound, bounds.0, bounds.1))
      (lists n (k + 1) (set w k (get_or v k 0)) v (put_size w k (get_or v k 0) size) (omega arith) (chosen_completes k w v size (omega arith) m))

  -- ---- ascending

  -- the digits before the place are within their bounds
  abbrev BoundedBefore : ℕ → List ℕ → Type 0
  BoundedBefore k w = (j : ℕ) → j < k → IsBounded here w j

  whole : (k : ℕ) (w v : List ℕ) → k ≤ box_count here → BoundedBefore k w → Completes here k w v → (j : ℕ) → j < box_count here → IsBounded here v j
  whole k w v le before m j less = elim (cases_lt j k) [
    | inl early ↦ bounded_again t rows h v w j less (λ i low. m.same i (omega arith)) (before j early)
    | inr late ↦ m.within j late less
  ]

  put_bounded : (k d : ℕ) (w : List ℕ) → length w ≡ box_count here → k < box_count here → low_in here w k ≤ d → d < bound_in here w k
      → BoundedBefore k w → BoundedBefore (k + 1) (set w k d)
  put_bounded k d w size lt low high before j less = elim (cases_eq j k) [
    | inl at ↦ subst (IsBounded here (set w k d)) (sym at) chosen
    | inr other ↦
        bounded_again t rows h (set w k d) w j (omega arith) (λ i early. get_or-set_other w k i d 0 (λ e. omega arith)) (before j (omega arith))
  ]
    where
      chosen : IsBounded here (set w k d) k
      chosen =
          let bounds = bounds_agree t rows h (set w k d) w k lt (λ i early. get_or-set_other w k i d 0 (λ e. omega arith)) in
          let digit : get_or (set w k d) k 0 ≡ d = get_or-set_at w k k d 0 refl (omega arith) in
          record { low = omega (arith, bounds.0); bound = omega (arith, bounds.1) }

  -- words that begin alike, with different digits at the place k
  apart : (n k d e x y : ℕ) (w : List ℕ) → length w ≡ box_count here → suc (k + n) ≡ box_count here → BoundedBefore k w
      → low_in here w k ≤ d → d < e → e < bound_in here w k
      → Contains (completion_codes here n (k + 1) (set w k d)) x → Contains (completion_codes here n (k + 1) (set w k e)) y → x < y
  apart n k d e x y w size is before low less high first second =
      let v = listed n (k + 1) x (set w k d) (put_size w k d size) (omega arith) first in
      let u = listed n (k + 1) y (set w k e) (put_size w k e size) (omega arith) second in
      let all = whole (k + 1) (set w k d) v.word (omega arith) (put_bounded k d w size (omega arith) low (omega arith) before) v.completes in
      let every = whole (k + 1) (set w k e) u.word (omega arith) (put_bounded k e w size (omega arith) (omega arith) high before) u.completes in
      let word : IsWord (shape_space here) v.word = bounded_is_word t rows h v.word v.completes.size all in
      let other : IsWord (shape_space here) u.word = bounded_is_word t rows h u.word u.completes.size every in
      let at_first : get_or v.word k 0 ≡ d = v.completes.same k (omega arith) ∙ get_or-set_at w k k d 0 refl (omega arith) in
      let at_second : get_or u.word k 0 ≡ e = u.completes.same k (omega arith) ∙ get_or-set_at w k k e 0 refl (omega arith) in
      let alike : Agree k v.word u.word = λ j early.
      (v.completes.same j (omega arith) ∙ get_or-set_other w k j d 0 (λ s. omega arith)) ∙ sym (u.completes.same j (omega arith) ∙ get_or-set_other w k j e 0 (λ s. omega arith)) in
      let test = differ_at v.word u.word k (omega (arith, v.completes.size)) (omega (arith, u.completes.size)) alike (omega arith) in
      omega (arith, before_below here v.word u.word h word other test, v.code, u.code)

  pub ascends : (n k : ℕ) (w : List ℕ) → length w ≡ box_count here → k + n ≡ box_count here → BoundedBefore k w → Rises (completion_codes here n k w)
  unfolding completion_codes
  ascends zero k w size is before = λ i j d less within. absurd (omega arith)
  ascends (suc n) k w size is before =
      rises_range (λ d. completion_codes here n (k + 1) (set w k d)) (low_in here w k) (bound_in here w k - low_in here w k)
      (λ d low high. ascends n (k + 1) (set w k d) (put_size w k d size) (omega arith) (put_bounded k d w size (omega arith) low (omega arith) before))
      (λ d e x y low less high first second. apart n k d e x y w size (omega arith) before low less (omega arith) first second)

  -- ---- each beginning is completed

  finish : (n k : ℕ) (w : List ℕ) → t.kind ≡ A → length w ≡ box_count here → k + n ≡ box_count here → BoundedBefore k w → IsBeginning here k w
  finish zero k w kind size is before = record {
    word = w;
    lawful = bounded_is_word t rows h w size (λ j less. before j (omega arith));
    semistandard = bounded_is_semistandard t rows h w size (λ j less. before j (omega arith));
    same = λ j less. refl;
  }
  finish (suc n) k w kind size is before =
      let high = room t rows h kind w k (omega arith) before (omega arith) in
      let rest = finish n (k + 1) (set w k (low_in here w k)) kind (put_size w k (low_in here w k) size) (omega arith)
      (put_bounded k (low_in here w k) w size (omega arith) (omega arith) high before) in
      record {
        word = rest.word;
        lawful = rest.lawful;
        semistandard = rest.semistandard;
        same = λ j less. rest.same j (omega arith) ∙ get_or-set_other w k j (low_in here w k) 0 (λ e. omega arith);
      }

  pub completed : (k : ℕ) (w : List ℕ) → t.kind ≡ A → length w ≡ box_count here → k ≤ box_count here → BoundedBefore k w → IsBeginning here k w
  completed k w kind size le before = finish (box_count here - k) k w kind size (omega arith) before
