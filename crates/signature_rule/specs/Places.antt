-- Where the operators of all indices act on a word, and the lengths of its strings. The entry of an index stands at the index less 1.
use Rattle.std.specs.Prelude.{ℕ, ◌-◌, ◌≡◌, ◌==◌, nat_le, nat_lt, if◌then◌else◌, List, slice_index, Option, Some, None, MatchOption}
use Rattle.crystal_cartan.specs.Types.{HasIndex}
use Rattle.tensor_words.specs.declared.spaces.Order.{Order}
use Rattle.tensor_words.specs.declared.spaces.Order.TheVariants.{Standard, Kashiwara}
use Rattle.tensor_words.specs.declared.tables.Row.{Row}
use Rattle.tensor_words.specs.Spaces.{SpaceType}
use Rattle.tensor_words.specs.TensorRule.{action}
use Rattle.signature_rule.specs.Passes.{IsLowerPlace, IsRaisePlace}
use Rattle.signature_rule.specs.declared.places.ActingPlaces.{ActingPlaces}
use Rattle.signature_rule.specs.declared.places.StringLengths.{StringLengths}

-- the place that an entry names: 255 names none
abbrev pub entry_place : ℕ → Option ℕ
entry_place entry = if entry == 255 then None else Some entry

-- the signs that an element with this row writes at the entries of the indices: in the standard order phi closing and eps opening
-- signs, in Kashiwara's order eps closing and phi opening signs
abbrev pub closing_in : Order → Row → List ℕ
closing_in Standard r = r.phi
closing_in Kashiwara r = r.eps

abbrev pub opening_in : Order → Row → List ℕ
opening_in Standard r = r.eps
opening_in Kashiwara r = r.phi

-- the entry of the first sign that is open behind a factor at the place k with f closing and e opening signs, where m
-- signs are open before it and `before` is the entry of the first of those
abbrev pub bottom_entry : ℕ → ℕ → ℕ → ℕ → ℕ → ℕ
bottom_entry m f e k before = if nat_le m f then (if nat_lt 0 e then k else 255) else before

-- at each entry of an index the place where its operator acts on the word; none only where it gives zero
pub record ArePlaces (s : SpaceType) (w : List ℕ) (p : ActingPlaces) : Type 0 where
  pub lower : (i : ℕ) → HasIndex s.cartan i → MatchOption (entry_place (slice_index p.lower (i - 1))) ((action s i).lower w ≡ None) (IsLowerPlace s i w)
  pub raise : (i : ℕ) → HasIndex s.cartan i → MatchOption (entry_place (slice_index p.raise (i - 1))) ((action s i).raise w ≡ None) (IsRaisePlace s i w)

-- at each entry of an index how often its operators can be applied to the word
pub record AreStrings (s : SpaceType) (w : List ℕ) (r : StringLengths) : Type 0 where
  pub eps : (i : ℕ) → HasIndex s.cartan i → slice_index r.eps (i - 1) ≡ (action s i).eps w
  pub phi : (i : ℕ) → HasIndex s.cartan i → slice_index r.phi (i - 1) ≡ (action s i).phi w
