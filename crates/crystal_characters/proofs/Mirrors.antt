-- Crystal reflections of codes and vertices.
use Rattle.std.proofs.Common.{◌≡◌, ◌∙◌, sym, refl, ap, subst, ℕ, zero, suc, ◌+◌, ◌-◌, ◌/◌, ◌≤◌, ◌<◌, Bool, true, false, length, Option, Some, None, ℤ, pos, negsuc, neg_ℤ, ◌+ℤ◌, ◌-ℤ◌, ◌*ℤ◌, arith, inl, inr, Contains}
use Rattle.std.specs.Option.{option_and_then}
use Rattle.std.proofs.lemmas.Bool.{cases_lt}
use Rattle.std.proofs.lemmas.Int.{ints}
use lib.IntN.{nat_abs}
use lib.Signed.{le_z}
use Rattle.std.proofs.Math.IntN.{zero-*ℤ, suc_ℤ-*ℤ, pos-*ℤ-pos, pos-*ℤ-negsuc, negsuc-*ℤ-pos, negsuc-*ℤ-negsuc}
use Rattle.crystal_cartan.specs.Types.{HasIndex}
use Rattle.crystal_cartan.specs.Weights.{coordinate, root_at, twice_pairing, reflection, IsPairing}
use Rattle.crystal_cartan.proofs.Coordinates.{weight_by_coordinates}
use Rattle.tensor_words.specs.Spaces.{SpaceType, IsSpace, size}
use Rattle.tensor_words.specs.Operators.{op}
use Rattle.canonical_graph.specs.Graphs.{FinishedType, IsFinished, code_at, rank_in}
use Rattle.canonical_graph.proofs.Ranks.{code_below, place_of_rank, rank_of_code, rank_of_listed, listed_code}
use Rattle.crystal_characters.specs.Characters.{code_weight, vertex_weight}
use Rattle.crystal_characters.specs.Reflections.{repeated, repeated_rank, reflected_by, crystal_reflection, reflection_rank}
use Rattle.crystal_characters.proofs.Strings.{arrow_of, eps_of, phi_of, IsString, seminormal_code, lowered, raised}

-- the reflection from half of a pairing
pub by_lowering : (s : SpaceType) (i n c : ℕ) (z : ℤ) → z ≡ pos n +ℤ pos n → reflected_by s i z c ≡ repeated s (arrow_of true i) n c
by_lowering s i n c (pos k) is =
    let even : k / 2 ≡ n = omega (arith, ints, is) in
    ap (λ m. repeated s (arrow_of true i) m c) even
by_lowering s i n c (negsuc k) is = absurd (omega (arith, ints, is))

pub by_raising : (s : SpaceType) (i n c : ℕ) (z : ℤ) → 1 ≤ n → z ≡ neg_ℤ (pos n +ℤ pos n) → reflected_by s i z c ≡ repeated s (arrow_of false i) n c
by_raising s i n c (pos k) some is = absurd (omega (arith, ints, is))
by_raising s i n c (negsuc k) some is =
    let even : suc k / 2 ≡ n = omega (arith, ints, is) in
    ap (λ m. repeated s (arrow_of false i) m c) even

-- a number times a doubled one, and a negative number times another
doubled_times : (n : ℕ) (r : ℤ) → pos n *ℤ (r +ℤ r) ≡ pos (n + n) *ℤ r
doubled_times zero r = zero-*ℤ (r +ℤ r) ∙ sym (zero-*ℤ r)
doubled_times (suc n) r =
    let count : suc n + suc n ≡ suc (suc (n + n)) = omega arith in
    let left : pos (suc n) *ℤ (r +ℤ r) ≡ pos n *ℤ (r +ℤ r) +ℤ (r +ℤ r) = suc_ℤ-*ℤ (pos n) (r +ℤ r) in
    let first : pos (suc (suc (n + n))) *ℤ r ≡ pos (suc (n + n)) *ℤ r +ℤ r = suc_ℤ-*ℤ (pos (suc (n + n))) r in
    let second : pos (suc (n + n)) *ℤ r ≡ pos (n + n) *ℤ r +ℤ r = suc_ℤ-*ℤ (pos (n + n)) r in
    let rest : pos n *ℤ (r +ℤ r) ≡ pos (n + n) *ℤ r = doubled_times n r in
    rw count (left ∙ omega (arith, ints, first, second, rest))

pub negative_times : (k : ℕ) (r : ℤ) → neg_ℤ (pos k) *ℤ r ≡ neg_ℤ (pos k *ℤ r)
negative_times zero r = omega (arith, ints, zero-*ℤ r)
negative_times (suc k) (pos x) = negsuc-*ℤ-pos k x ∙ ap neg_ℤ (sym (pos-*ℤ-pos (suc k) x))
negative_times (suc k) (negsuc x) =
    negsuc-*ℤ-negsuc k x ∙ omega (arith, ints, pos-*ℤ-negsuc (suc k) x)

fallen : (x y r z : ℤ) (n : ℕ) → x +ℤ pos n *ℤ (r +ℤ r) ≡ y → z ≡ pos n +ℤ pos n → x ≡ y -ℤ z *ℤ r
fallen x y r z n falls is =
    let same : z *ℤ r ≡ pos n *ℤ (r +ℤ r) = ap (λ k. k *ℤ r) is ∙ sym (doubled_times n r) in
    omega (arith, ints, falls, same)

risen : (x y r z : ℤ) (n : ℕ) → y +ℤ pos n *ℤ (r +ℤ r) ≡ x → z ≡ neg_ℤ (pos n +ℤ pos n) → x ≡ y -ℤ z *ℤ r
risen x y r z n rises is =
    let same : z *ℤ r ≡ neg_ℤ (pos (n + n) *ℤ r) = ap (λ k. k *ℤ r) is ∙ negative_times (n + n) r in
    omega (arith, ints, rises, same, doubled_times n r)

-- d is the crystal reflection of c, and c that of d
pub record IsMirror (s : SpaceType) (i c d : ℕ) : Type 0 where
  pub below : d < size s
  pub image : crystal_reflection s i c ≡ Some d
  pub back : crystal_reflection s i d ≡ Some c
  pub weight : code_weight s d ≡ reflection s.cartan (code_weight s c) i

balance : (s : SpaceType) (i c : ℕ) → IsSpace s → HasIndex s.cartan i → c < size s
    → (pos (phi_of s i c) -ℤ pos (eps_of s i c)) +ℤ (pos (phi_of s i c) -ℤ pos (eps_of s i c)) ≡ twice_pairing s.cartan (code_weight s c) i
balance s i c space index lt = (seminormal_code s i c space index lt).balanced

mirror_below : (s : SpaceType) (i n c d : ℕ) → IsSpace s → HasIndex s.cartan i → IsString s i n c d → phi_of s i c ≡ eps_of s i c + n → IsMirror s i c d
unfolding crystal_reflection reflection repeated
mirror_below s i n c d space index string long =
    let up = balance s i c space index string.above in
    let down = balance s i d space index string.below in
    let above : twice_pairing s.cartan (code_weight s c) i ≡ pos n +ℤ pos n = omega (arith, ints, up) in
    let under : twice_pairing s.cartan (code_weight s d) i ≡ neg_ℤ (pos n +ℤ pos n) = omega (arith, ints, down, string.phi, string.eps) in
    record {
      below = string.below;
      image = by_lowering s i n c _ above ∙ string.lowers;
      back = returned n string under;
      weight = weight_by_coordinates (length (code_weight s c)) (λ j. coordinate (code_weight s c) j -ℤ twice_pairing s.cartan (code_weight s c) i *ℤ root_at s.cartan i j)
          (code_weight s d) string.size (λ j low high.
          fallen (coordinate (code_weight s d) j) (coordinate (code_weight s c) j) (root_at s.cartan i j) _ n (string.falls j low high) above);
    }
  where
    returned : (m : ℕ) → IsString s i m c d → twice_pairing s.cartan (code_weight s d) i ≡ neg_ℤ (pos m +ℤ pos m)
        → reflected_by s i (twice_pairing s.cartan (code_weight s d) i) d ≡ Some c
    returned zero st is =
        let even : twice_pairing s.cartan (code_weight s d) i ≡ pos 0 +ℤ pos 0 = omega (arith, ints, is) in
        let same : Some c ≡ Some d = st.lowers in
        by_lowering s i 0 d _ even ∙ sym same
    returned (suc m) st is = by_raising s i (suc m) d _ (omega arith) is ∙ st.raises

mirror_above : (s : SpaceType) (i n c d : ℕ) → IsSpace s → HasIndex s.cartan i → IsString s i n d c → 1 ≤ n → eps_of s i c ≡ phi_of s i c + n → IsMirror s i c d
unfolding crystal_reflection reflection
mirror_above s i n c d space index string some long =
    let up = balance s i d space index string.above in
    let down = balance s i c space index string.below in
    let under : twice_pairing s.cartan (code_weight s c) i ≡ neg_ℤ (pos n +ℤ pos n) = omega (arith, ints, down) in
    let above : twice_pairing s.cartan (code_weight s d) i ≡ pos n +ℤ pos n = omega (arith, ints, up, string.phi, string.eps) in
    record {
      below = string.above;
      image = by_raising s i n c _ some under ∙ string.raises;
      back = by_lowering s i n d _ above ∙ string.lowers;
      weight = weight_by_coordinates (length (code_weight s c)) (λ j. coordinate (code_weight s c) j -ℤ twice_pairing s.cartan (code_weight s c) i *ℤ root_at s.cartan i j)
          (code_weight s d) (sym string.size) (λ j low high.
          risen (coordinate (code_weight s d) j) (coordinate (code_weight s c) j) (root_at s.cartan i j) _ n (string.falls j low (omega (arith, string.size))) under);
    }

pub mirror_of : (s : SpaceType) (i c : ℕ) → IsSpace s → HasIndex s.cartan i → c < size s → (d : ℕ) × IsMirror s i c d
mirror_of s i c space index lt =
    elim (cases_lt (phi_of s i c) (eps_of s i c)) [
      | inl less ↦
          let string = raised s i (eps_of s i c - phi_of s i c) c space index lt (omega arith) in
          (string.0, mirror_above s i (eps_of s i c - phi_of s i c) c string.0 space index string.1 (omega arith) (omega arith))
      | inr over ↦
          let string = lowered s i (phi_of s i c - eps_of s i c) c space index lt (omega arith) in
          (string.0, mirror_below s i (phi_of s i c - eps_of s i c) c string.0 space index string.1 (omega arith))
    ]

-- the image of a vertex under the crystal reflection
pub record IsImage (f : FinishedType) (i rank t : ℕ) : Type 0 where
  pub below : t < length f.codes
  pub image : reflection_rank f i rank ≡ Some t
  pub back : reflection_rank f i t ≡ Some rank
  pub weight : vertex_weight f t ≡ reflection f.space.cartan (vertex_weight f rank) i

-- the codes to which an operator leads from a listed code are listed
pub repeated_listed : (f : FinishedType) (down : Bool) (i n c d : ℕ) → IsFinished f → HasIndex f.space.cartan i → Contains f.codes c
    → repeated f.space (arrow_of down i) n c ≡ Some d → Contains f.codes d
unfolding repeated
repeated_listed f down i zero c d finished index there is =
    let same : Some c ≡ Some d = is in
    let at : c ≡ d = cc in
    subst (Contains f.codes) at there
repeated_listed f down i (suc n) c d finished index there is =
    elim (op f.space (arrow_of down i) c) as (λ o. op f.space (arrow_of down i) c ≡ o → option_and_then (repeated f.space (arrow_of down i) n) o ≡ Some d → Contains f.codes d) [
      | None ↦ λ next none. cc
      | Some e ↦ λ next some.
          repeated_listed f down i n e d finished index (finished.closed (arrow_of down i) c e there (record { index = index }) next) some
    ] refl is

reflected_listed : (f : FinishedType) (i c d : ℕ) (z : ℤ) → IsFinished f → HasIndex f.space.cartan i → Contains f.codes c
    → reflected_by f.space i z c ≡ Some d → Contains f.codes d
reflected_listed f i c d (pos n) finished index there is = repeated_listed f true i (n / 2) c d finished index there is
reflected_listed f i c d (negsuc n) finished index there is = repeated_listed f false i (suc n / 2) c d finished index there is

pub mirror_listed : (f : FinishedType) (i c d : ℕ) → IsFinished f → HasIndex f.space.cartan i → Contains f.codes c
    → crystal_reflection f.space i c ≡ Some d → Contains f.codes d
unfolding crystal_reflection
mirror_listed f i c d finished index there is = reflected_listed f i c d _ finished index there is

pub image_of : (f : FinishedType) (i rank : ℕ) → IsFinished f → HasIndex f.space.cartan i → rank < length f.codes → (t : ℕ) × IsImage f i rank t
unfolding reflection_rank crystal_reflection
image_of f i rank finished index lt =
    let mirror = mirror_of f.space i (code_at f rank) finished.space index (code_below f rank finished lt) in
    let there : Contains f.codes mirror.0 = reflected_listed f i (code_at f rank) mirror.0 _ finished index (listed_code f rank lt) mirror.1.image in
    let found = rank_of_listed f.codes mirror.0 finished.ascending there in
    let place = place_of_rank f.codes mirror.0 found.0 found.1 in
    let at : code_at f found.0 ≡ mirror.0 = place.1 in (
      found.0,
      record {
        below = place.0;
        image = ap (option_and_then (rank_in f.codes)) mirror.1.image ∙ found.1;
        back = ap (λ c. option_and_then (rank_in f.codes) (crystal_reflection f.space i c)) at
            ∙ ap (option_and_then (rank_in f.codes)) mirror.1.back ∙ rank_of_code f rank finished lt;
        weight = ap (code_weight f.space) at ∙ mirror.1.weight;
      },
    )

-- the reflection as it is carried out: the operator is applied as often as the pairing says
pub image_by_pairing : (f : FinishedType) (i rank : ℕ) (p : ℤ) → IsPairing f.space.cartan (vertex_weight f rank) i p
    → reflection_rank f i rank ≡ repeated_rank f (record { down = le_z (pos 0) p; index = i }) (nat_abs p) rank
unfolding reflection_rank crystal_reflection repeated_rank
image_by_pairing f i rank (pos n) is =
    let up : le_z (pos 0) (pos n) ≡ true = grind (arith, ints) in
    rw up (ap (option_and_then (rank_in f.codes)) (by_lowering f.space i n (code_at f rank) _ (sym is)))
image_by_pairing f i rank (negsuc n) is =
    ap (option_and_then (rank_in f.codes)) (by_raising f.space i (suc n) (code_at f rank) _ (omega arith) (sym is ∙ omega (arith, ints)))

-- what carrying it out gives is the image
pub image_told : (f : FinishedType) (i rank n : ℕ) (p q : ℤ) (o : Option ℕ) → IsFinished f → HasIndex f.space.cartan i → rank < length f.codes
    → IsPairing f.space.cartan (vertex_weight f rank) i p → q ≡ p → n ≡ nat_abs q
    → o ≡ repeated_rank f (record { down = le_z (pos 0) q; index = i }) n rank → (t : ℕ) × (o ≡ Some t) × IsImage f i rank t
image_told f i rank n p q o finished index lt pairs same count led =
    let image = image_of f i rank finished index lt in
    let told : repeated_rank f (record { down = le_z (pos 0) p; index = i }) (nat_abs p) rank ≡ Some image.0 =
    sym (image_by_pairing f i rank p pairs) ∙ image.1.image in
    (image.0, led ∙ rw (count, same) told, image.1)

pub some_image : (f : FinishedType) (i rank t : ℕ) (o : Option ℕ) → o ≡ Some t → (u : ℕ) × (o ≡ Some u) × IsImage f i rank u → IsImage f i rank t
some_image f i rank t o is (u, at, image) =
    let same : u ≡ t = cc in
    subst (IsImage f i rank) same image
