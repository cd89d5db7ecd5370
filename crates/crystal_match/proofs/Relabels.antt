-- Relabelled arrows: they are arrows of the type, relabelled twice they are themselves, and turned around they stay turned around.
use Rattle.std.proofs.Common.{◌≡◌, refl, ap, subst, ℕ, ◌-◌, ◌%◌, ◌≤◌, ◌==◌, not, Bool, true, false, if◌then◌else◌, inl, inr, List, [], ◌∷◌, map, arith}
use Rattle.std.proofs.lemmas.Bool.{cases_eq}
use Rattle.std.proofs.lemmas.Bool.Decides.{nat_tests}
use Rattle.crystal_cartan.specs.Types.{CartanType, IsCartan, HasIndex, least_rank}
use Rattle.crystal_cartan.specs.declared.types.Arrow.{Arrow}
use Rattle.crystal_cartan.specs.declared.types.Kind.{Kind}
use Rattle.crystal_cartan.specs.declared.types.Kind.TheVariants.{A, B, C, D}
use Rattle.tensor_words.specs.Laws.{reversed_arrow}
use Rattle.tensor_words.specs.Operators.{IsArrow}
use Rattle.tensor_words.specs.Reach.{IsPath}
use Rattle.crystal_match.specs.Relabelling.{RelabelType, exchanged, star_index_of, star_index, relabelled}
use Rattle.crystal_match.specs.Telling.{PointedType, IsPointed}

exchanged_in : (i j k r : ℕ) → 1 ≤ i → i ≤ r → 1 ≤ j → j ≤ r → 1 ≤ k → k ≤ r → (1 ≤ exchanged i j k) × (exchanged i j k ≤ r)
exchanged_in i j k r li hi lj hj lk hk = elim (cases_eq k i) [
  | inl first ↦ (grind (arith, nat_tests), grind (arith, nat_tests))
  | inr other ↦ elim (cases_eq k j) [
    | inl second ↦ (grind (arith, nat_tests), grind (arith, nat_tests))
    | inr third ↦ (grind (arith, nat_tests), grind (arith, nat_tests))
  ]
]

exchanged_twice : (i j k : ℕ) → exchanged i j (exchanged i j k) ≡ k
exchanged_twice i j k = elim (cases_eq k i) [
  | inl first ↦ elim (cases_eq j i) [
    | inl same ↦ grind (arith, nat_tests)
    | inr apart ↦ grind (arith, nat_tests)
  ]
  | inr other ↦ elim (cases_eq k j) [
    | inl second ↦ grind (arith, nat_tests)
    | inr third ↦ grind (arith, nat_tests)
  ]
]

star_in : (k : Kind) (r i : ℕ) → least_rank k ≤ r → 1 ≤ i → i ≤ r → (1 ≤ star_index_of k r i) × (star_index_of k r i ≤ r)
star_in A r i least low high = (omega arith, omega arith)
star_in B r i least low high = (low, high)
star_in C r i least low high = (low, high)
star_in D r i least low high = by (r % 2 == 0)
  where
    by : (even : Bool) → (1 ≤ (if even then i else exchanged (r - 1) r i)) × ((if even then i else exchanged (r - 1) r i) ≤ r)
    by true = (low, high)
    by false = exchanged_in (r - 1) r i r (omega arith) (omega arith) (omega arith) (omega arith) low high

star_twice : (k : Kind) (r i : ℕ) → 1 ≤ i → i ≤ r → star_index_of k r (star_index_of k r i) ≡ i
star_twice A r i low high = omega arith
star_twice B r i low high = refl
star_twice C r i low high = refl
star_twice D r i low high = by (r % 2 == 0)
  where
    by : (even : Bool) → (if even then (if even then i else exchanged (r - 1) r i) else exchanged (r - 1) r (if even then i else exchanged (r - 1) r i)) ≡ i
    by true = refl
    by false = exchanged_twice (r - 1) r i

relabelled_in : (star : Bool) (t : CartanType) (a : Arrow) → IsCartan t → HasIndex t a.index → HasIndex t (relabelled (record { cartan = t; star = star }) a).index
relabelled_in true t a cartan index =
    let both = star_in t.kind t.rank a.index cartan.low index.low index.high in record { low = both.0; high = both.1 }
relabelled_in false t a cartan index = index

relabelled_again : (star : Bool) (t : CartanType) (a : Arrow) → HasIndex t a.index
    → (let m : RelabelType = record { cartan = t; star = star } in relabelled m (relabelled m a) ≡ a)
relabelled_again true t a index = by a.down a.index (star_twice t.kind t.rank a.index index.low index.high)
  where
    by : (down : Bool) (i : ℕ) → star_index t (star_index t i) ≡ i
        → (let x : Arrow = record { down = not (not down); index = star_index t (star_index t i) } in let y : Arrow = record { down = down; index = i } in x ≡ y)
    by true i is = ap (λ (n : ℕ). let x : Arrow = record { down = true; index = n } in x) is
    by false i is = ap (λ (n : ℕ). let x : Arrow = record { down = false; index = n } in x) is
relabelled_again false t a index = refl

relabelled_turned : (star : Bool) (t : CartanType) (a : Arrow)
    → (let m : RelabelType = record { cartan = t; star = star } in relabelled m (reversed_arrow a) ≡ reversed_arrow (relabelled m a))
relabelled_turned true t a = refl
relabelled_turned false t a = refl

module _ (m : PointedType) where
  pub turned : (a : Arrow) → relabelled m.relabel (reversed_arrow a) ≡ reversed_arrow (relabelled m.relabel a)
  turned a = relabelled_turned m.relabel.star m.relabel.cartan a

  module _ (is : IsPointed m) where
    index_there : (a : Arrow) → IsArrow m.space a → HasIndex m.relabel.cartan a.index
    index_there a fits = rw is.relabel fits.index

    pub relabelled_arrow : (a : Arrow) → IsArrow m.space a → IsArrow m.space (relabelled m.relabel a)
    relabelled_arrow a fits = record {
      index =
          let here = relabelled_in m.relabel.star m.relabel.cartan a (rw is.relabel is.space.cartan) (index_there a fits) in
          let P : CartanType → Type 0 = λ t. HasIndex t (relabelled m.relabel a).index in
          subst P is.relabel here;
    }

    pub relabelled_twice : (a : Arrow) → IsArrow m.space a → relabelled m.relabel (relabelled m.relabel a) ≡ a
    relabelled_twice a fits = relabelled_again m.relabel.star m.relabel.cartan a (index_there a fits)

    pub relabelled_path : (path : List Arrow) → IsPath m.space path → IsPath m.space (map (relabelled m.relabel) path)
    relabelled_path [] arrows = tt
    relabelled_path (a ∷ path) arrows = (relabelled_arrow a arrows.0, relabelled_path path arrows.1)

    pub path_twice : (path : List Arrow) → IsPath m.space path → map (relabelled m.relabel) (map (relabelled m.relabel) path) ≡ path
    path_twice [] arrows = refl
    path_twice (a ∷ path) arrows = rw (relabelled_twice a arrows.0, path_twice path arrows.1) refl

rank_of : (k : Kind) (r : ℕ) → least_rank k ≤ r → 1 ≤ r
rank_of A r least = least
rank_of B r least = omega (arith, least)
rank_of C r least = omega (arith, least)
rank_of D r least = omega (arith, least)

-- there is an index
pub rank_some : (m : PointedType) → IsPointed m → 1 ≤ m.space.cartan.rank
rank_some m is = rank_of m.space.cartan.kind m.space.cartan.rank is.space.cartan.low
