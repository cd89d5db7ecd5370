-- How the arrows of a crystal are relabelled.
use Rattle.std.specs.Prelude.{ℕ, ◌+◌, ◌-◌, ◌%◌, ◌==◌, Bool, true, false, not, if◌then◌else◌}
use Rattle.crystal_cartan.specs.Types.{CartanType}
use Rattle.crystal_cartan.specs.declared.types.Arrow.{Arrow}
use Rattle.crystal_cartan.specs.declared.types.Kind.{Kind}
use Rattle.crystal_cartan.specs.declared.types.Kind.TheVariants.{A, B, C, D}

-- a map of the arrows of a Cartan type: those of the star, or all kept
pub record RelabelType : Type 0 where
  pub cartan : CartanType
  pub star : Bool

abbrev pub kept : CartanType → RelabelType
kept t = record { cartan = t; star = false }

abbrev pub starred : CartanType → RelabelType
starred t = record { cartan = t; star = true }

-- two indices exchanged, all others kept
abbrev pub exchanged : ℕ → ℕ → ℕ → ℕ
exchanged i j k = if k == i then j else (if k == j then i else k)

-- the longest element of the Weyl group takes the simple root of i to the negative of that of this index
abbrev pub star_index_of : Kind → ℕ → ℕ → ℕ
star_index_of A r i = r + 1 - i
star_index_of B r i = i
star_index_of C r i = i
star_index_of D r i = if r % 2 == 0 then i else exchanged (r - 1) r i

abbrev pub star_index : CartanType → ℕ → ℕ
star_index t i = star_index_of t.kind t.rank i

-- the arrow that stands for this one; under the star f and e are exchanged
abbrev pub relabelled : RelabelType → Arrow → Arrow
relabelled m a = if m.star then record { down = not a.down; index = star_index m.cartan a.index } else a
