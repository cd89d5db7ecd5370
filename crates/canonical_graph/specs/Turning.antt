-- Tables of arrows turned around. A table has a row for each of n vertices, with an entry for each of r indices.
use Rattle.std.specs.Prelude.{ℕ, ◌+◌, ◌*◌, ◌^◌, ◌<◌, ◌≡◌, List, length, slice_index, ◌⊎◌}

-- each entry is the rank of a vertex, or 2^32 - 1 for none, and no two entries of one index have one rank
pub record AreArrows (r n : ℕ) (entries : List ℕ) : Type 0 where
  pub size : length entries ≡ n * r
  pub few : n < 2 ^ 32
  pub below : (k j : ℕ) → k < n → j < r → (slice_index entries (k * r + j) ≡ 4294967295) ⊎ (slice_index entries (k * r + j) < n)
  pub apart : (k l j : ℕ) → k < n → l < n → j < r → slice_index entries (k * r + j) < n → slice_index entries (k * r + j) ≡ slice_index entries (l * r + j) → k ≡ l

-- an entry is none, or leads back to a vertex whose entry at this index is one of the first m and leads here
abbrev pub LeadsBack : ℕ → ℕ → List ℕ → ℕ → ℕ → ℕ → Type 0
LeadsBack r m entries t j k = (k ≡ 4294967295) ⊎ ((k * r + j < m) × (slice_index entries (k * r + j) ≡ t))

-- the first m entries of a table are turned around
pub record AreTurned (r n m : ℕ) (entries back : List ℕ) : Type 0 where
  pub size : length back ≡ n * r
  pub all : (k j t : ℕ) → k < n → j < r → t < n → k * r + j < m → slice_index entries (k * r + j) ≡ t → slice_index back (t * r + j) ≡ k
  pub only : (t j : ℕ) → t < n → j < r → LeadsBack r m entries t j (slice_index back (t * r + j))
