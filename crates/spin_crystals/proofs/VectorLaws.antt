-- The laws of a seminormal crystal, on vectors of signs.
use Rattle.std.proofs.Common.{◌≡◌, refl, ◌∙◌, sym, ap, ℕ, ◌+◌, ◌-◌, ◌≤◌, ◌<◌, ◌==◌, ◌⊎◌, inl, inr, ◌↔◌, nat_lt, Bool, true, false, IsTrue, if◌then◌else◌, List, [], ◌∷◌, ◌++◌, length, take, drop, slice_index_or, Option, Some, None, ℤ, pos, negsuc, ◌+ℤ◌, ◌-ℤ◌, arith, length-drop, length-take}
use Rattle.std.specs.Option.{option_map, option_map_or}
use Rattle.std.proofs.lemmas.List.{get_or_append_left, get_or-append-add, get_or-append_right, take-append-drop}
use Rattle.std.proofs.lemmas.Bool.{cases_order}
use Rattle.std.proofs.lemmas.Bool.Decides.{nat_tests}
use Rattle.crystal_cartan.specs.Types.{CartanType, IsCartan, HasIndex, coordinates, least_rank}
use Rattle.crystal_cartan.specs.Weights.{coordinate, difference_of, root, root_at, step_root_at, last_root_at, unit_at, twice_pairing, last_twice_pairing, IsPairing}
use Rattle.crystal_cartan.specs.Seminormal.{IsSeminormal}
use Rattle.crystal_cartan.specs.declared.types.Kind.{Kind}
use Rattle.crystal_cartan.specs.declared.types.Kind.TheVariants.{A, B, C, D}
use Rattle.crystal_cartan.proofs.Coordinates.{length-weight_from, coordinate-weight_from, weight_by_coordinates}
use Rattle.spin_crystals.specs.Signs.{plus, minus, same_signs, HasSpin, has_spin}
use Rattle.spin_crystals.specs.SpinCrystals.{signs_action, signs_weight, sign_coordinate}
use Rattle.spin_crystals.proofs.Replaced.{replaced, replaced-head}
use Rattle.spin_crystals.proofs.Edges.{change, changed, last_change, lower-change, raise-change, change-size, change-lengths}
use Rattle.spin_crystals.proofs.Strings.{IsReplacement, replaced_some, replaced_not_from, replaced_back, replaced_ends, replaced_length, phi-lower, eps-raise, parts_differ}
use Rattle.spin_crystals.proofs.SignWeights.{spin_coordinates}
use Rattle.spin_crystals.proofs.Turning.{replaced-append}

-- ---- the signs of u p v

sign_inside : (u p v : List Bool) (e k : ℕ) → e < length p → k ≡ length u + e → slice_index_or (u ++ (p ++ v)) k plus ≡ slice_index_or p e plus
sign_inside u p v e k below place =
    rw (place, get_or-append-add u (p ++ v) e plus, get_or_append_left p v plus e below) refl

sign_outside : (u p q v : List Bool) (k : ℕ) → length q ≡ length p → (k < length u) ⊎ (length u + length p ≤ k) →
    slice_index_or (u ++ (p ++ v)) k plus ≡ slice_index_or (u ++ (q ++ v)) k plus
sign_outside u p q v k size where_is = elim where_is [
  | inl low ↦ get_or_append_left u (p ++ v) plus k low ∙ sym (get_or_append_left u (q ++ v) plus k low)
  | inr high ↦
      let above : length u ≤ k = omega arith in
      let first : length p ≤ k - length u = omega arith in
      let second : length q ≤ k - length u = omega arith in
      rw (
        get_or-append_right u (p ++ v) (length u) k plus refl above,
        get_or-append_right u (q ++ v) (length u) k plus refl above,
        get_or-append_right p v (length p) (k - length u) plus refl first,
        get_or-append_right q v (length q) (k - length u) plus refl second,
        size,
      ) refl
]

-- ---- lowering subtracts the root

unit_same : (i j : ℕ) → i ≡ j → unit_at i j ≡ pos 1
unit_same i j same =
    let test : (i == j) ≡ true = grind (arith, nat_tests) in
    rw test refl

unit_other : (i j : ℕ) → (i < j) ⊎ (j < i) → unit_at i j ≡ pos 0
unit_other i j apart =
    let test : (i == j) ≡ false = grind (arith, nat_tests) in
    rw test refl

-- the j-th coordinate falls by twice the undoubled coordinate of the root
abbrev FallsAt : List Bool → List Bool → ℕ → ℤ → Type 0
FallsAt x y j c = sign_coordinate y j ≡ (sign_coordinate x j -ℤ (c +ℤ c))

falls_by_one : (x y : List Bool) (j : ℕ) (c : ℤ) → slice_index_or x (j - 1) plus ≡ plus → slice_index_or y (j - 1) plus ≡ minus → c ≡ pos 1 → FallsAt x y j c
falls_by_one x y j c first after root_is = rw (first, after, root_is) refl

rises_by_one : (x y : List Bool) (j : ℕ) (c : ℤ) → slice_index_or x (j - 1) plus ≡ minus → slice_index_or y (j - 1) plus ≡ plus → c ≡ negsuc 0 → FallsAt x y j c
rises_by_one x y j c first after root_is = rw (first, after, root_is) refl

stays : (x y : List Bool) (j : ℕ) (c : ℤ) → slice_index_or x (j - 1) plus ≡ slice_index_or y (j - 1) plus → c ≡ pos 0 → FallsAt x y j c
stays x y j c same root_is = rw (root_is, same) (sign (slice_index_or y (j - 1) plus))
  where
    sign : (s : Bool) → (if s then negsuc 0 else pos 1) ≡ ((if s then negsuc 0 else pos 1) -ℤ (pos 0 +ℤ pos 0))
    sign true = refl
    sign false = refl

-- where j stands beside i and i + 1
data Where (i j : ℕ) : Type 0 where
  before : j < i → Where i j
  first : j ≡ i → Where i j
  second : j ≡ i + 1 → Where i j
  beyond : i + 1 < j → Where i j

where_from : (i j : ℕ) → (j ≡ i) ⊎ ((j < i) ⊎ (i < j)) → (j ≡ i + 1) ⊎ ((j < i + 1) ⊎ (i + 1 < j)) → Where i j
where_from i j (inl same) next = first same
where_from i j (inr (inl low)) next = before low
where_from i j (inr (inr high)) (inl same) = second same
where_from i j (inr (inr high)) (inr (inl low)) = absurd (omega arith)
where_from i j (inr (inr high)) (inr (inr higher)) = beyond higher

where_is : (i j : ℕ) → Where i j
where_is i j = where_from i j (cases_order j i) (cases_order j (i + 1))

exchange_falls : (i j : ℕ) (u v : List Bool) → 1 ≤ i → 1 ≤ j → length u ≡ i - 1 → Where i j →
    FallsAt (u ++ (plus ∷ minus ∷ v)) (u ++ (minus ∷ plus ∷ v)) j (step_root_at i j)
exchange_falls i j u v low start size (before below) =
    stays (u ++ (plus ∷ minus ∷ v)) (u ++ (minus ∷ plus ∷ v)) j (step_root_at i j)
    (sign_outside u (plus ∷ minus ∷ []) (minus ∷ plus ∷ []) v (j - 1) refl (inl (omega arith)))
    (rw (unit_other i j (inr below), unit_other (i + 1) j (inr (omega arith))) refl)
exchange_falls i j u v low start size (first same) =
    falls_by_one (u ++ (plus ∷ minus ∷ v)) (u ++ (minus ∷ plus ∷ v)) j (step_root_at i j)
    (sign_inside u (plus ∷ minus ∷ []) v 0 (j - 1) (omega arith) (omega arith)) (sign_inside u (minus ∷ plus ∷ []) v 0 (j - 1) (omega arith) (omega arith))
    (rw (unit_same i j (sym same), unit_other (i + 1) j (inr (omega arith))) refl)
exchange_falls i j u v low start size (second same) =
    rises_by_one (u ++ (plus ∷ minus ∷ v)) (u ++ (minus ∷ plus ∷ v)) j (step_root_at i j)
    (sign_inside u (plus ∷ minus ∷ []) v 1 (j - 1) (omega arith) (omega arith)) (sign_inside u (minus ∷ plus ∷ []) v 1 (j - 1) (omega arith) (omega arith))
    (rw (unit_other i j (inl (omega arith)), unit_same (i + 1) j (sym same)) refl)
exchange_falls i j u v low start size (beyond above) =
    stays (u ++ (plus ∷ minus ∷ v)) (u ++ (minus ∷ plus ∷ v)) j (step_root_at i j)
    (sign_outside u (plus ∷ minus ∷ []) (minus ∷ plus ∷ []) v (j - 1) refl (inr (omega arith)))
    (rw (unit_other i j (inl (omega arith)), unit_other (i + 1) j (inl above)) refl)

last_falls_B : (r j : ℕ) (u v : List Bool) → 1 ≤ r → 1 ≤ j → j ≤ r → length u ≡ r - 1 → Where r j →
    FallsAt (u ++ (plus ∷ v)) (u ++ (minus ∷ v)) j (last_root_at B r j)
last_falls_B r j u v low start high size (before below) =
    stays (u ++ (plus ∷ v)) (u ++ (minus ∷ v)) j (last_root_at B r j)
    (sign_outside u (plus ∷ []) (minus ∷ []) v (j - 1) refl (inl (omega arith))) (unit_other r j (inr below))
last_falls_B r j u v low start high size (first same) =
    falls_by_one (u ++ (plus ∷ v)) (u ++ (minus ∷ v)) j (last_root_at B r j)
    (sign_inside u (plus ∷ []) v 0 (j - 1) (omega arith) (omega arith)) (sign_inside u (minus ∷ []) v 0 (j - 1) (omega arith) (omega arith)) (unit_same r j (sym same))
last_falls_B r j u v low start high size (second same) = absurd (omega arith)
last_falls_B r j u v low start high size (beyond above) = absurd (omega arith)

last_falls_D : (r j : ℕ) (u v : List Bool) → 2 ≤ r → 1 ≤ j → j ≤ r → length u ≡ r - 2 → Where (r - 1) j →
    FallsAt (u ++ (plus ∷ plus ∷ v)) (u ++ (minus ∷ minus ∷ v)) j (last_root_at D r j)
last_falls_D r j u v low start high size (before below) =
    stays (u ++ (plus ∷ plus ∷ v)) (u ++ (minus ∷ minus ∷ v)) j (last_root_at D r j)
    (sign_outside u (plus ∷ plus ∷ []) (minus ∷ minus ∷ []) v (j - 1) refl (inl (omega arith)))
    (rw (unit_other (r - 1) j (inr below), unit_other r j (inr (omega arith))) refl)
last_falls_D r j u v low start high size (first same) =
    falls_by_one (u ++ (plus ∷ plus ∷ v)) (u ++ (minus ∷ minus ∷ v)) j (last_root_at D r j)
    (sign_inside u (plus ∷ plus ∷ []) v 0 (j - 1) (omega arith) (omega arith)) (sign_inside u (minus ∷ minus ∷ []) v 0 (j - 1) (omega arith) (omega arith))
    (rw (unit_same (r - 1) j (sym same), unit_other r j (inr (omega arith))) refl)
last_falls_D r j u v low start high size (second same) =
    falls_by_one (u ++ (plus ∷ plus ∷ v)) (u ++ (minus ∷ minus ∷ v)) j (last_root_at D r j)
    (sign_inside u (plus ∷ plus ∷ []) v 1 (j - 1) (omega arith) (omega arith)) (sign_inside u (minus ∷ minus ∷ []) v 1 (j - 1) (omega arith) (omega arith))
    (rw (unit_other (r - 1) j (inl (omega arith)), unit_same r j (omega arith)) refl)
last_falls_D r j u v low start high size (beyond above) = absurd (omega arith)

exchange_replaced : (i j : ℕ) (x y : List Bool) → 1 ≤ i → 1 ≤ j → IsReplacement (i - 1) (plus ∷ minus ∷ []) (minus ∷ plus ∷ []) x y → FallsAt x y j (step_root_at i j)
exchange_replaced i j x y low start r =
    rw (r.source, r.target) (exchange_falls i j r.before r.behind low start r.size (where_is i j))

last_replaced : (k : Kind) (n j : ℕ) (x y : List Bool) → IsTrue (has_spin k) → least_rank k ≤ n → 1 ≤ j → j ≤ n →
    IsReplacement (last_change k n).after (last_change k n).old (last_change k n).new x y → FallsAt x y j (last_root_at k n j)
last_replaced A n j x y spin low start high r = cc
last_replaced B n j x y spin low start high r =
    let one : 1 ≤ n = omega arith in
    rw (r.source, r.target) (last_falls_B n j r.before r.behind one start high r.size (where_is n j))
last_replaced C n j x y spin low start high r = cc
last_replaced D n j x y spin low start high r =
    let two : 2 ≤ n = omega arith in
    rw (r.source, r.target) (last_falls_D n j r.before r.behind two start high r.size (where_is (n - 1) j))

falls_by_test : (t : CartanType) (i j : ℕ) (x y : List Bool) (b : Bool) → IsCartan t → HasSpin t → HasIndex t i → 1 ≤ j → j ≤ t.rank →
    IsReplacement (changed t i b).after (changed t i b).old (changed t i b).new x y → FallsAt x y j (if b then step_root_at i j else last_root_at t.kind t.rank j)
falls_by_test t i j x y true classical spin index start high r = exchange_replaced i j x y index.low start r
falls_by_test t i j x y false classical spin index start high r = last_replaced t.kind t.rank j x y spin classical.low start high r

coordinate-signs_weight : (t : CartanType) (x : List Bool) (j : ℕ) → 1 ≤ j → j ≤ t.rank → coordinate (signs_weight t x) j ≡ sign_coordinate x j
unfolding signs_weight
coordinate-signs_weight t x j low high = coordinate-weight_from t.rank (sign_coordinate x) j low high

length-signs_weight : (t : CartanType) (x : List Bool) → length (signs_weight t x) ≡ t.rank
unfolding signs_weight
length-signs_weight t x = length-weight_from t.rank (sign_coordinate x)

coordinate-root : (t : CartanType) (i j : ℕ) → HasSpin t → 1 ≤ j → j ≤ t.rank → coordinate (root t i) j ≡ (root_at t i j +ℤ root_at t i j)
unfolding root
coordinate-root t i j spin low high =
    let within : j ≤ coordinates t = rw (spin_coordinates t spin) high in
    coordinate-weight_from (coordinates t) (λ k. root_at t i k +ℤ root_at t i k) j low within

replacement_falls : (t : CartanType) (i : ℕ) (x y : List Bool) → IsCartan t → HasSpin t → HasIndex t i →
    IsReplacement (change t i).after (change t i).old (change t i).new x y → signs_weight t y ≡ difference_of (signs_weight t x) (root t i)
replacement_falls t i x y classical spin index r =
    let size : length (signs_weight t y) ≡ length (signs_weight t x) = length-signs_weight t y ∙ sym (length-signs_weight t x) in
    weight_by_coordinates (length (signs_weight t x)) (λ j. coordinate (signs_weight t x) j -ℤ coordinate (root t i) j) (signs_weight t y) size
    (λ j low within.
    let high : j ≤ t.rank = rw (← length-signs_weight t x) within in
    rw (coordinate-signs_weight t y j low high, coordinate-signs_weight t x j low high, coordinate-root t i j spin low high)
    (falls_by_test t i j x y (nat_lt i t.rank) classical spin index low high r))

-- ---- the pairing is phi - eps

-- x is u w v, with m signs in u and k in w
record IsPart (m k : ℕ) (x : List Bool) : Type 0 where
  before : List Bool
  part : List Bool
  behind : List Bool
  size : length before ≡ m
  width : length part ≡ k
  whole : x ≡ before ++ (part ++ behind)

part_of : (m k : ℕ) (x : List Bool) → m + k ≤ length x → IsPart m k x
part_of m k x long =
    let rest : length (drop m x) ≡ length x - m = length-drop m x in
    record {
      before = take m x;
      part = take k (drop m x);
      behind = drop k (drop m x);
      size = grind (arith, length-take);
      width = grind (arith, length-take);
      whole = sym (take-append-drop m x) ∙ ap (λ z. take m x ++ z) (sym (take-append-drop k (drop m x)));
    }

-- 1 where the part is this one
abbrev count_of : List Bool → List Bool → ℕ
count_of p w = if same_signs p w then 1 else 0

replaced_count : (m k : ℕ) (p q x : List Bool) (r : IsPart m k x) → length p ≡ k → option_map_or {U = ℕ} (λ y. 1) (replaced m p q x) 0 ≡ count_of p r.part
replaced_count m k p q x r size =
    let step : replaced m p q x ≡ option_map (λ y. r.before ++ y) (if same_signs p r.part then Some (q ++ r.behind) else None) =
    ap (λ z. replaced m p q z) r.whole ∙ replaced-append m p q r.before (r.part ++ r.behind) r.size ∙ ap (λ o. option_map (λ y. r.before ++ y) o) (replaced-head p q r.part r.behind (r.width ∙ sym size)) in
    rw step (counted r.before (q ++ r.behind) (same_signs p r.part))
  where
    counted : (u z : List Bool) (b : Bool) → option_map_or {U = ℕ} (λ y. 1) (option_map (λ y. u ++ y) (if b then Some z else None)) 0 ≡ (if b then 1 else 0)
    counted u z true = refl
    counted u z false = refl

sign_of_part : (m k : ℕ) (x : List Bool) (r : IsPart m k x) (e j : ℕ) → e < k → j ≡ m + e + 1 → sign_coordinate x j ≡ (if slice_index_or r.part e plus then negsuc 0 else pos 1)
sign_of_part m k x r e j below place =
    let inside : e < length r.part = rw r.width below in
    let here : j - 1 ≡ length r.before + e = rw r.size (omega arith) in
    ap (λ z. sign_coordinate z j) r.whole ∙ rw (sign_inside r.before r.part r.behind e (j - 1) inside here) refl

abbrev twice_count : List Bool → List Bool → List Bool → ℤ
twice_count p q w = (pos (count_of p w) -ℤ pos (count_of q w)) +ℤ (pos (count_of p w) -ℤ pos (count_of q w))

exchange_balance : (w : List Bool) → length w ≡ 2 →
    twice_count (plus ∷ minus ∷ []) (minus ∷ plus ∷ []) w ≡ ((if slice_index_or w 0 plus then negsuc 0 else pos 1) -ℤ (if slice_index_or w 1 plus then negsuc 0 else pos 1))
exchange_balance [] size = absurd (omega arith)
exchange_balance (a ∷ []) size = absurd (omega arith)
exchange_balance (true ∷ true ∷ []) size = refl
exchange_balance (true ∷ false ∷ []) size = refl
exchange_balance (false ∷ true ∷ []) size = refl
exchange_balance (false ∷ false ∷ []) size = refl
exchange_balance (a ∷ b ∷ c ∷ w) size = absurd (omega arith)

balance_D : (w : List Bool) → length w ≡ 2 →
    twice_count (plus ∷ plus ∷ []) (minus ∷ minus ∷ []) w ≡ ((if slice_index_or w 0 plus then negsuc 0 else pos 1) +ℤ (if slice_index_or w 1 plus then negsuc 0 else pos 1))
balance_D [] size = absurd (omega arith)
balance_D (a ∷ []) size = absurd (omega arith)
balance_D (true ∷ true ∷ []) size = refl
balance_D (true ∷ false ∷ []) size = refl
balance_D (false ∷ true ∷ []) size = refl
balance_D (false ∷ false ∷ []) size = refl
balance_D (a ∷ b ∷ c ∷ w) size = absurd (omega arith)

balance_B : (w : List Bool) → length w ≡ 1 →
    twice_count (plus ∷ []) (minus ∷ []) w ≡ ((if slice_index_or w 0 plus then negsuc 0 else pos 1) +ℤ (if slice_index_or w 0 plus then negsuc 0 else pos 1))
balance_B [] size = absurd (omega arith)
balance_B (true ∷ []) size = refl
balance_B (false ∷ []) size = refl
balance_B (a ∷ b ∷ w) size = absurd (omega arith)

sign_pairing_at : (t : CartanType) (x : List Bool) (m k e j : ℕ) (r : IsPart m k x) → e < k → j ≡ m + e + 1 → j ≤ t.rank →
    coordinate (signs_weight t x) j ≡ (if slice_index_or r.part e plus then negsuc 0 else pos 1)
sign_pairing_at t x m k e j r below place high =
    let low : 1 ≤ j = omega arith in
    coordinate-signs_weight t x j low high ∙ sign_of_part m k x r e j below place

exchange_pairing : (t : CartanType) (i : ℕ) (x : List Bool) → 1 ≤ i → i < t.rank → (r : IsPart (i - 1) 2 x) →
    twice_count (plus ∷ minus ∷ []) (minus ∷ plus ∷ []) r.part ≡ (coordinate (signs_weight t x) i -ℤ coordinate (signs_weight t x) (i + 1))
exchange_pairing t i x low high r =
    rw (sign_pairing_at t x (i - 1) 2 0 i r (omega arith) (omega arith) (omega arith), sign_pairing_at t x (i - 1) 2 1 (i + 1) r (omega arith) (omega arith) (omega arith))
    (exchange_balance r.part r.width)

last_pairing : (t : CartanType) (k : Kind) (x : List Bool) → IsTrue (has_spin k) → least_rank k ≤ t.rank → (r : IsPart (last_change k t.rank).after (length (last_change k t.rank).old) x) →
    twice_count (last_change k t.rank).old (last_change k t.rank).new r.part ≡ last_twice_pairing k t.rank (signs_weight t x)
last_pairing t A x spin low r = cc
last_pairing t B x spin low r =
    let two : 2 ≤ t.rank = low in
    rw (sign_pairing_at t x (t.rank - 1) 1 0 t.rank r (omega arith) (omega arith) (omega arith)) (balance_B r.part r.width)
last_pairing t C x spin low r = cc
last_pairing t D x spin low r =
    let three : 3 ≤ t.rank = low in
    rw (sign_pairing_at t x (t.rank - 2) 2 0 (t.rank - 1) r (omega arith) (omega arith) (omega arith), sign_pairing_at t x (t.rank - 2) 2 1 t.rank r (omega arith) (omega arith) (omega arith))
    (balance_D r.part r.width)

pairing_by_test : (t : CartanType) (i : ℕ) (x : List Bool) (b : Bool) → nat_lt i t.rank ≡ b → IsCartan t → HasSpin t → HasIndex t i →
    (r : IsPart (changed t i b).after (length (changed t i b).old) x) →
    twice_count (changed t i b).old (changed t i b).new r.part ≡ (if b then coordinate (signs_weight t x) i -ℤ coordinate (signs_weight t x) (i + 1) else last_twice_pairing t.kind t.rank (signs_weight t x))
pairing_by_test t i x true test classical spin index r =
    exchange_pairing t i x index.low (below test) r
  where
    below : nat_lt i t.rank ≡ true → i < t.rank
    below is = grind (arith, nat_tests)
pairing_by_test t i x false test classical spin index r = last_pairing t t.kind x spin classical.low r

-- ---- the laws

ends : (o : Option (List Bool)) (n : ℕ) → n ≡ option_map_or (λ y. 1) o 0 → (o ≡ None) ↔ (n ≡ 0)
ends None n is = (λ none. is, λ zero. refl)
ends (Some y) n is = (λ none. cc, λ zero. absurd (omega arith))

vector_balanced : (t : CartanType) (i : ℕ) (x : List Bool) → IsCartan t → HasSpin t → HasIndex t i → length x ≡ t.rank →
    IsPairing t (signs_weight t x) i (pos ((signs_action t i).phi x) -ℤ pos ((signs_action t i).eps x))
unfolding twice_pairing
vector_balanced t i x classical spin index size =
    let whole : t.rank ≡ (change t i).after + (length (change t i).old + (change t i).behind) = change-size t i classical index in
    let long : (change t i).after + length (change t i).old ≤ length x = omega arith in
    let r : IsPart (change t i).after (length (change t i).old) x = part_of (change t i).after (length (change t i).old) x long in
    let down : (signs_action t i).phi x ≡ count_of (change t i).old r.part =
    phi-lower t i x classical spin index size ∙ ap (λ o. option_map_or (λ y. 1) o 0) (lower-change t i x classical spin index size) ∙
    replaced_count (change t i).after (length (change t i).old) (change t i).old (change t i).new x r refl in
    let up : (signs_action t i).eps x ≡ count_of (change t i).new r.part =
    eps-raise t i x classical spin index size ∙ ap (λ o. option_map_or (λ y. 1) o 0) (raise-change t i x classical spin index size) ∙
    replaced_count (change t i).after (length (change t i).old) (change t i).new (change t i).old x r (change-lengths t i) in
    rw (down, up) (pairing_by_test t i x (nat_lt i t.rank) refl classical spin index r)

vector_lower_counts : (t : CartanType) (i : ℕ) (x y : List Bool) → IsCartan t → HasSpin t → HasIndex t i → length x ≡ t.rank → (signs_action t i).lower x ≡ Some y →
    ((signs_action t i).phi x ≡ (signs_action t i).phi y + 1) × ((signs_action t i).eps y ≡ (signs_action t i).eps x + 1)
vector_lower_counts t i x y classical spin index size made =
    let down : replaced (change t i).after (change t i).old (change t i).new x ≡ Some y = sym (lower-change t i x classical spin index size) ∙ made in
    let same : length y ≡ t.rank = replaced_length (change t i).after (change t i).old (change t i).new x y (change-lengths t i) down ∙ size in
    let r : IsReplacement (change t i).after (change t i).old (change t i).new x y = replaced_some (change t i).after (change t i).old (change t i).new x y down in
    let phi_x : (signs_action t i).phi x ≡ 1 = phi-lower t i x classical spin index size ∙ ap (λ o. option_map_or (λ y. 1) o 0) made in
    let phi_y : (signs_action t i).phi y ≡ 0 = phi-lower t i y classical spin index same ∙ ap (λ o. option_map_or (λ y. 1) o 0) (lower-change t i y classical spin index same ∙
    replaced_ends (change t i).after (change t i).old (change t i).new x y (change-lengths t i) (parts_differ t i).0 down) in
    let eps_y : (signs_action t i).eps y ≡ 1 = eps-raise t i y classical spin index same ∙ ap (λ o. option_map_or (λ y. 1) o 0) (raise-change t i y classical spin index same ∙
    replaced_back (change t i).after (change t i).old (change t i).new x y down) in
    let eps_x : (signs_action t i).eps x ≡ 0 = eps-raise t i x classical spin index size ∙ ap (λ o. option_map_or (λ y. 1) o 0) (raise-change t i x classical spin index size ∙
    ap (λ z. replaced (change t i).after (change t i).new (change t i).old z) r.source ∙
    replaced_not_from (change t i).after (change t i).new (change t i).old (change t i).old r.before r.behind r.size (sym (change-lengths t i)) (parts_differ t i).1) in
    (omega arith, omega arith)

-- the laws at every vector with as many signs as the rank
pub vector_seminormal : (t : CartanType) (i : ℕ) (x : List Bool) → IsCartan t → HasSpin t → HasIndex t i → length x ≡ t.rank →
    IsSeminormal t i (signs_action t i) (signs_weight t) x
vector_seminormal t i x classical spin index size = record {
  raised_back = λ y made.
      let down : replaced (change t i).after (change t i).old (change t i).new x ≡ Some y = sym (lower-change t i x classical spin index size) ∙ made in
      let same : length y ≡ t.rank = replaced_length (change t i).after (change t i).old (change t i).new x y (change-lengths t i) down ∙ size in
      raise-change t i y classical spin index same ∙ replaced_back (change t i).after (change t i).old (change t i).new x y down;
  lowered_back = λ y made.
      let up : replaced (change t i).after (change t i).new (change t i).old x ≡ Some y = sym (raise-change t i x classical spin index size) ∙ made in
      let same : length y ≡ t.rank = replaced_length (change t i).after (change t i).new (change t i).old x y (sym (change-lengths t i)) up ∙ size in
      lower-change t i y classical spin index same ∙ replaced_back (change t i).after (change t i).new (change t i).old x y up;
  lower_ends = ends ((signs_action t i).lower x) ((signs_action t i).phi x) (phi-lower t i x classical spin index size);
  raise_ends = ends ((signs_action t i).raise x) ((signs_action t i).eps x) (eps-raise t i x classical spin index size);
  lower_counts = λ y made. vector_lower_counts t i x y classical spin index size made;
  raise_counts = λ y made.
      let up : replaced (change t i).after (change t i).new (change t i).old x ≡ Some y = sym (raise-change t i x classical spin index size) ∙ made in
      let same : length y ≡ t.rank = replaced_length (change t i).after (change t i).new (change t i).old x y (sym (change-lengths t i)) up ∙ size in
      let down : (signs_action t i).lower y ≡ Some x = lower-change t i y classical spin index same ∙ replaced_back (change t i).after (change t i).new (change t i).old x y up in
      let counts : ((signs_action t i).phi y ≡ (signs_action t i).phi x + 1) × ((signs_action t i).eps x ≡ (signs_action t i).eps y + 1) = vector_lower_counts t i y x classical spin index same down in
      (counts.1, counts.0);
  balanced = vector_balanced t i x classical spin index size;
  weight_falls = λ y made.
      replacement_falls t i x y classical spin index
      (replaced_some (change t i).after (change t i).old (change t i).new x y (sym (lower-change t i x classical spin index size) ∙ made));
}
