-- Cartan types and their indices.
use Rattle.std.specs.Prelude.{ℕ, ◌+◌, ◌≤◌}
use Rattle.crystal_cartan.specs.declared.types.Kind.{Kind}
use Rattle.crystal_cartan.specs.declared.types.Kind.TheVariants.{A, B, C, D}

-- a Cartan type, as contracts see it: B_3 has the kind B and the rank 3
pub record CartanType : Type 0 where
  pub kind : Kind
  pub rank : ℕ

-- the least rank that this library takes of each kind
abbrev pub least_rank : Kind → ℕ
least_rank A = 1
least_rank B = 2
least_rank C = 2
least_rank D = 3

-- the type is one of those that this library takes
pub record IsCartan (t : CartanType) : Type 0 where
  pub low : least_rank t.kind ≤ t.rank
  pub high : t.rank ≤ 8

-- the number of coordinates of a weight: those of A_r have r + 1, the others r
abbrev pub coordinates_of : Kind → ℕ → ℕ
coordinates_of A r = r + 1
coordinates_of B r = r
coordinates_of C r = r
coordinates_of D r = r

abbrev pub coordinates : CartanType → ℕ
coordinates t = coordinates_of t.kind t.rank

-- i is the index of a simple root: 1 to the rank
pub record HasIndex (t : CartanType) (i : ℕ) : Type 0 where
  pub low : 1 ≤ i
  pub high : i ≤ t.rank
