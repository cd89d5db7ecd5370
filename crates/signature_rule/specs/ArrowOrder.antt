-- The order of the arrows of a type: f_1 to f_r, and then e_1 to e_r.
use Rattle.std.specs.Prelude.{ℕ, ◌+◌, ◌-◌, if◌then◌else◌}
use Rattle.crystal_cartan.specs.declared.types.Arrow.{Arrow}

-- the place of an arrow, counted from 0, where the rank is r
abbrev pub arrow_place : ℕ → Arrow → ℕ
arrow_place rank a = if a.down then a.index - 1 else rank + (a.index - 1)
