-- The arrows of one index as a replacement.
use Rattle.std.proofs.Common.{◌≡◌, refl, ◌∙◌, ap, ℕ, zero, suc, ◌+◌, ◌-◌, ◌≤◌, ◌<◌, nat_lt, Bool, true, false, IsTrue, if◌then◌else◌, List, [], ◌∷◌, ◌++◌, map, length, arith, append-nil}
use Rattle.std.specs.List.{flat_map}
use Rattle.std.proofs.lemmas.List.{map-append}
use Rattle.std.proofs.lemmas.Bool.Decides.{nat_tests}
use Rattle.std.proofs.lemmas.Grind.{flat_map-append}
use Rattle.crystal_cartan.specs.Types.{CartanType, IsCartan, HasIndex, least_rank}
use Rattle.crystal_cartan.specs.Crystals.{Edge, edge}
use Rattle.crystal_cartan.specs.declared.types.Kind.{Kind}
use Rattle.crystal_cartan.specs.declared.types.Kind.TheVariants.{A, B, C, D}
use Rattle.spin_crystals.specs.Signs.{plus, minus, vectors, HasSpin, has_spin}
use Rattle.spin_crystals.specs.SpinCrystals.{exchange_edges, last_spin_edges, spin_edges, signs_action}
use Rattle.spin_crystals.proofs.Lookups.{prefixed}
use Rattle.spin_crystals.proofs.Replaced.{arrows, replaced, target-arrows, origin-arrows}

map-prefixed : (s : Bool) (i : ℕ) (g h : List Bool → List Bool) (vs : List (List Bool)) →
    map (λ v. edge (s ∷ g v) i (s ∷ h v)) vs ≡ map (prefixed s) (map (λ v. edge (g v) i (h v)) vs)
map-prefixed s i g h [] = refl
map-prefixed s i g h (v ∷ vs) = ap (λ fs. edge (s ∷ g v) i (s ∷ h v) ∷ fs) (map-prefixed s i g h vs)

-- the arrows from u p v to u q v, for all u of the list
abbrev pub spread : ℕ → List Bool → List Bool → ℕ → List (List Bool) → List (Edge (List Bool))
spread i p q n us = flat_map (λ u. map (λ v. edge (u ++ (p ++ v)) i (u ++ (q ++ v))) (vectors n)) us

spread-prefixed : (i : ℕ) (p q : List Bool) (n : ℕ) (s : Bool) (us : List (List Bool)) →
    spread i p q n (map (λ u. s ∷ u) us) ≡ map (prefixed s) (spread i p q n us)
spread-prefixed i p q n s [] = refl
spread-prefixed i p q n s (u ∷ us) =
    rw (map-append, spread-prefixed i p q n s us, map-prefixed s i (λ v. u ++ (p ++ v)) (λ v. u ++ (q ++ v)) (vectors n)) refl

spread-vectors : (i : ℕ) (p q : List Bool) (m n : ℕ) → spread i p q n (vectors m) ≡ arrows i p q m n
spread-vectors i p q zero n = append-nil (map (λ v. edge (p ++ v) i (q ++ v)) (vectors n))
spread-vectors i p q (suc m) n =
    rw (flat_map-append, spread-prefixed i p q n plus, spread-prefixed i p q n minus, spread-vectors i p q m n) refl

-- the arrows from u p to u q
last-prefixed : (i : ℕ) (p q : List Bool) (s : Bool) (us : List (List Bool)) →
    map (λ u. edge (u ++ p) i (u ++ q)) (map (λ u. s ∷ u) us) ≡ map (prefixed s) (map (λ u. edge (u ++ p) i (u ++ q)) us)
last-prefixed i p q s [] = refl
last-prefixed i p q s (u ∷ us) = ap (λ fs. edge (s ∷ (u ++ p)) i (s ∷ (u ++ q)) ∷ fs) (last-prefixed i p q s us)

last-vectors : (i : ℕ) (p q : List Bool) (m : ℕ) → map (λ u. edge (u ++ p) i (u ++ q)) (vectors m) ≡ arrows i p q m 0
last-vectors i p q zero = rw (append-nil p, append-nil q) refl
last-vectors i p q (suc m) =
    rw (map-append, last-prefixed i p q plus, last-prefixed i p q minus, last-vectors i p q m) refl

-- what the arrows of one index do: after so many signs the part `old` becomes the part `new`
pub record Change : Type 0 where
  pub after : ℕ
  pub old : List Bool
  pub new : List Bool
  pub behind : ℕ

abbrev pub last_change : Kind → ℕ → Change
last_change D r = record { after = r - 2; old = plus ∷ plus ∷ []; new = minus ∷ minus ∷ []; behind = 0 }
last_change _ r = record { after = r - 1; old = plus ∷ []; new = minus ∷ []; behind = 0 }

-- the same, where `early` says whether the index is below the rank
abbrev pub changed : CartanType → ℕ → Bool → Change
changed t i true = record { after = i - 1; old = plus ∷ minus ∷ []; new = minus ∷ plus ∷ []; behind = t.rank - i - 1 }
changed t i false = last_change t.kind t.rank

abbrev pub change : CartanType → ℕ → Change
change t i = changed t i (nat_lt i t.rank)

pub last_index : (t : CartanType) (i : ℕ) → HasIndex t i → nat_lt i t.rank ≡ false → i ≡ t.rank
last_index t i index is =
    let low : t.rank ≤ i = grind (arith, nat_tests) in
    omega arith

exchange_size : (t : CartanType) (i : ℕ) → HasIndex t i → nat_lt i t.rank ≡ true → t.rank ≡ (i - 1) + (2 + (t.rank - i - 1))
exchange_size t i index is =
    let low : i < t.rank = grind (arith, nat_tests) in
    omega arith

last_spin_edges-change : (k : Kind) (r i : ℕ) → i ≡ r → IsTrue (has_spin k) →
    last_spin_edges k r ≡ arrows i (last_change k r).old (last_change k r).new (last_change k r).after (last_change k r).behind
last_spin_edges-change A r i same spin = cc
last_spin_edges-change B r i same spin = rw same (last-vectors r (plus ∷ []) (minus ∷ []) (r - 1))
last_spin_edges-change C r i same spin = cc
last_spin_edges-change D r i same spin = rw same (last-vectors r (plus ∷ plus ∷ []) (minus ∷ minus ∷ []) (r - 2))

-- these are the arrows of the definition
pub spin_edges-change : (t : CartanType) (i : ℕ) → HasSpin t → HasIndex t i →
    spin_edges t i ≡ arrows i (change t i).old (change t i).new (change t i).after (change t i).behind
unfolding spin_edges
spin_edges-change t i spin index =
    elim (nat_lt i t.rank) as (λ b. nat_lt i t.rank ≡ b → (if b then exchange_edges t.rank i else last_spin_edges t.kind t.rank) ≡ arrows i (changed t i b).old (changed t i b).new (changed t i b).after (changed t i b).behind) [
      | true ↦ λ is. spread-vectors i (plus ∷ minus ∷ []) (minus ∷ plus ∷ []) (i - 1) (t.rank - i - 1)
      | false ↦ λ is. last_spin_edges-change t.kind t.rank i (last_index t i index is) spin
    ] refl

-- the part and the signs around it make up the vector
last_change-size : (k : Kind) (r : ℕ) → least_rank k ≤ r → r ≡ (last_change k r).after + (length (last_change k r).old + (last_change k r).behind)
last_change-size A r low = omega arith
last_change-size B r low = omega arith
last_change-size C r low = omega arith
last_change-size D r low = omega arith

pub change-size : (t : CartanType) (i : ℕ) → IsCartan t → HasIndex t i → t.rank ≡ (change t i).after + (length (change t i).old + (change t i).behind)
change-size t i classical index =
    elim (nat_lt i t.rank) as (λ b. nat_lt i t.rank ≡ b → t.rank ≡ (changed t i b).after + (length (changed t i b).old + (changed t i b).behind)) [
      | true ↦ λ is. exchange_size t i index is
      | false ↦ λ is. last_change-size t.kind t.rank classical.low
    ] refl

pub change-lengths : (t : CartanType) (i : ℕ) → length (change t i).new ≡ length (change t i).old
change-lengths t i =
    elim (nat_lt i t.rank) as (λ b. length (changed t i b).new ≡ length (changed t i b).old) [
      | true ↦ refl
      | false ↦ elim t.kind as (λ k. length (last_change k t.rank).new ≡ length (last_change k t.rank).old) [ A ↦ refl | B ↦ refl | C ↦ refl | D ↦ refl ]
    ]

-- lowering and raising, in short
pub lower-change : (t : CartanType) (i : ℕ) (x : List Bool) → IsCartan t → HasSpin t → HasIndex t i → length x ≡ t.rank →
    (signs_action t i).lower x ≡ replaced (change t i).after (change t i).old (change t i).new x
unfolding signs_action
lower-change t i x classical spin index size =
    rw (spin_edges-change t i spin index) (target-arrows i (change t i).old (change t i).new (change t i).after (change t i).behind x (size ∙ change-size t i classical index))

pub raise-change : (t : CartanType) (i : ℕ) (x : List Bool) → IsCartan t → HasSpin t → HasIndex t i → length x ≡ t.rank →
    (signs_action t i).raise x ≡ replaced (change t i).after (change t i).new (change t i).old x
unfolding signs_action
raise-change t i x classical spin index size =
    rw (spin_edges-change t i spin index) (origin-arrows i (change t i).old (change t i).new (change t i).after (change t i).behind x (rw (change-lengths t i) (size ∙ change-size t i classical index)))
