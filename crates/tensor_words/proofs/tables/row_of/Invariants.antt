use Rattle.std.proofs.Common.{◌≡◌, ℕ, ◌-◌, ◌≤◌, ◌<◌, length, slice_index, slice_index_or, None, IfSome}
use Rattle.crystal_cartan.specs.Types.{HasIndex}
use Rattle.tensor_words.specs.Spaces.{base_action, factor_at, size_at}
use Rattle.tensor_words.proofs.tables.row_of.Given as goal

abbrev pub invariant-indices : goal.invariant-indices
invariant-indices l = record {
  phis : length l.phi ≡ 8;
  epses : length l.eps ≡ 8;
  phi : (i : ℕ) → HasIndex l.space.cartan i → i ≤ l.entry → slice_index l.phi (i - 1) ≡ (base_action l.space.cartan i (factor_at l.space l.place)).phi l.digit;
  eps : (i : ℕ) → HasIndex l.space.cartan i → i ≤ l.entry → slice_index l.eps (i - 1) ≡ (base_action l.space.cartan i (factor_at l.space l.place)).eps l.digit;
  lowers : length l.lower ≡ 8;
  raises : length l.raise ≡ 8;
  lower : (i : ℕ) → HasIndex l.space.cartan i → i ≤ l.entry → slice_index_or l.lower (i - 1) None ≡ (base_action l.space.cartan i (factor_at l.space l.place)).lower l.digit;
  raise : (i : ℕ) → HasIndex l.space.cartan i → i ≤ l.entry → slice_index_or l.raise (i - 1) None ≡ (base_action l.space.cartan i (factor_at l.space l.place)).raise l.digit;
  lower_below : (j : ℕ) → IfSome (slice_index_or l.lower j None) (λ e. e < size_at l.space l.place);
  raise_below : (j : ℕ) → IfSome (slice_index_or l.raise j None) (λ e. e < size_at l.space l.place);
  few_phi : (j : ℕ) → slice_index l.phi j ≤ 2;
  few_eps : (j : ℕ) → slice_index l.eps j ≤ 2;
}
