-- Rows of tables: what each index does to one element of a factor, and its weight.
use Rattle.std.specs.Prelude.{ℕ, ◌-◌, ◌≡◌, ◌≤◌, ◌<◌, slice_index, slice_index_or, All, None, IfSome}
use Rattle.crystal_cartan.specs.Types.{HasIndex}
use Rattle.crystal_cartan.specs.Weights.{IsWeight, IsWithin}
use Rattle.tensor_words.specs.declared.tables.Row.{Row}
use Rattle.tensor_words.specs.Spaces.{SpaceType, factor_at, size_at, base_action, base_weight}

-- the row of the element with the digit d of the factor at the place k, counted from 0; the entry of an index stands at the index less 1
pub record IsRow (s : SpaceType) (k d : ℕ) (r : Row) : Type 0 where
  pub phi : (i : ℕ) → HasIndex s.cartan i → slice_index r.phi (i - 1) ≡ (base_action s.cartan i (factor_at s k)).phi d
  pub eps : (i : ℕ) → HasIndex s.cartan i → slice_index r.eps (i - 1) ≡ (base_action s.cartan i (factor_at s k)).eps d
  pub lower : (i : ℕ) → HasIndex s.cartan i → slice_index_or r.lower (i - 1) None ≡ (base_action s.cartan i (factor_at s k)).lower d
  pub raise : (i : ℕ) → HasIndex s.cartan i → slice_index_or r.raise (i - 1) None ≡ (base_action s.cartan i (factor_at s k)).raise d
  pub lower_below : (j : ℕ) → IfSome (slice_index_or r.lower j None) (λ e. e < size_at s k)
  pub raise_below : (j : ℕ) → IfSome (slice_index_or r.raise j None) (λ e. e < size_at s k)
  pub few_phi : (j : ℕ) → slice_index r.phi j ≤ 2
  pub few_eps : (j : ℕ) → slice_index r.eps j ≤ 2
  pub weight : r.weight ≡ base_weight s.cartan (factor_at s k) d
  pub size : IsWeight s.cartan r.weight
  pub within : All (IsWithin 2) r.weight
