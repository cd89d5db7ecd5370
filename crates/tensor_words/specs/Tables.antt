-- Tables of a space: rows of the elements of its factors, the values of its places, and shifts in place of divisions.
use Rattle.std.specs.Prelude.{ℕ, ◌+◌, ◌*◌, ◌/◌, ◌%◌, ◌^◌, ◌≡◌, ◌<◌, ◌≤◌, List, [], length, drop, slice_index, slice_index_or, Option, None, IfSome}
use Rattle.tensor_words.specs.declared.tables.Row.{Row}
use Rattle.tensor_words.specs.Spaces.{SpaceType, IsSpace, sizes, size_at, product}
use Rattle.tensor_words.specs.Steps.{IsRow}

-- read beyond the end of a table
abbrev pub no_row : Row
no_row = record { phi = []; eps = []; lower = []; raise = []; weight = [] }

-- a table has `width` rows for each factor; this is the one at the place `at`, if the factor has such an element
abbrev pub IsRowAt : SpaceType → ℕ → ℕ → Row → Type 0
IsRowAt s width at r = at % width < size_at s (at / width) → IsRow s (at / width) (at % width) r

pub record AreRows (s : SpaceType) (width : ℕ) (rows : List Row) : Type 0 where
  pub some : (0 < width) × (width ≤ 256)
  pub wide : (k : ℕ) → k < length s.factors → size_at s k ≤ width
  pub count : length rows ≡ length s.factors * width
  pub each : (at : ℕ) → at < length rows → IsRowAt s width at (slice_index_or rows at no_row)

-- how much a digit at the place k, counted from 0, adds to a code
abbrev pub place_value : SpaceType → ℕ → ℕ
place_value s k = product (drop (k + 1) (sizes s))

pub record AreValues (s : SpaceType) (values : List ℕ) : Type 0 where
  pub space : IsSpace s
  pub count : length values ≡ 40
  pub each : (k : ℕ) → k < length s.factors → slice_index values k ≡ place_value s k

-- a shift by so many bits divides by the value
abbrev pub IsBitShift : ℕ → Option ℕ → Type 0
IsBitShift value shift = IfSome shift (λ t. (t < 64) × (value ≡ 2 ^ t))

pub record AreBitShifts (values : List ℕ) (shifts : List (Option ℕ)) : Type 0 where
  pub count : length shifts ≡ 40
  pub each : (k : ℕ) → k < 40 → IsBitShift (slice_index values k) (slice_index_or shifts k None)
