use Rattle.std.proofs.Common.{ℕ, ◌≤◌, pos, ◌≤ℤ◌}
use Rattle.crystal_cartan.specs.Weights.{twice_pairing}
use Rattle.crystal_cartan.proofs.types.Cartan.is_dominant.Given as goal

abbrev pub invariant-indices : goal.invariant-indices
invariant-indices l = (i : ℕ) → 1 ≤ i → i ≤ l.place → pos 0 ≤ℤ twice_pairing l.self l.weight i
