-- Where an operator acts on a word.
use Rattle.std.specs.Prelude.{ℕ, ◌<◌, ◌≡◌, nat_le, nat_lt, if◌then◌else◌, List, length, slice_index, slice_set, Option, Some, None, MatchOption}
use Rattle.std.specs.Option.{option_map}
use Rattle.tensor_words.specs.declared.spaces.Order.{Order}
use Rattle.tensor_words.specs.Spaces.{SpaceType, base_action, factor_at}
use Rattle.tensor_words.specs.Codes.{IsWord}
use Rattle.tensor_words.specs.TensorRule.{action, as_standard}

-- What a factor writes: closing signs, and then opening signs. In the standard order the closing signs are phi and the opening signs
-- eps, in Kashiwara's order they are eps and phi. So what is said here is said of the actions as the standard order sees them.

-- the digit at this place, counted from 0, writes this many opening and closing signs
pub record AreSigns (s : SpaceType) (i : ℕ) (w : List ℕ) (place opening closing : ℕ) : Type 0 where
  pub word : IsWord s w
  pub below : place < length s.factors
  pub eps : opening ≡ (as_standard s.order (base_action s.cartan i (factor_at s place))).eps (slice_index w place)
  pub phi : closing ≡ (as_standard s.order (base_action s.cartan i (factor_at s place))).phi (slice_index w place)

-- an operator makes of the word what it makes of the digit at this place, counted from 0, which is its own
pub record ActsAtPlace (s : SpaceType) (w : List ℕ) (place : ℕ) (own : Option ℕ) (image : Option (List ℕ)) : Type 0 where
  pub below : place < length s.factors
  pub acts : image ≡ option_map (slice_set w place) own

-- f_i and e_i act on the word as on its digit at this place
abbrev pub IsLowerPlace : SpaceType → ℕ → List ℕ → ℕ → Type 0
IsLowerPlace s i w place = ActsAtPlace s w place ((base_action s.cartan i (factor_at s place)).lower (slice_index w place)) ((action s i).lower w)

abbrev pub IsRaisePlace : SpaceType → ℕ → List ℕ → ℕ → Type 0
IsRaisePlace s i w place = ActsAtPlace s w place ((base_action s.cartan i (factor_at s place)).raise (slice_index w place)) ((action s i).raise w)

-- where the operator of the closing signs acts, if it does not give zero: f_i in the standard order, e_i in Kashiwara's
abbrev pub ClosesAt : Order → SpaceType → ℕ → List ℕ → Option ℕ → Type 0
ClosesAt o s i w found =
    MatchOption found ((as_standard o (action s i)).lower w ≡ None)
    (λ place. ActsAtPlace s w place ((as_standard o (base_action s.cartan i (factor_at s place))).lower (slice_index w place)) ((as_standard o (action s i)).lower w))

-- where the operator of the opening signs acts, if it does not give zero: e_i in the standard order, f_i in Kashiwara's
abbrev pub OpensAt : Order → SpaceType → ℕ → List ℕ → Option ℕ → Type 0
OpensAt o s i w found =
    MatchOption found ((as_standard o (action s i)).raise w ≡ None)
    (λ place. ActsAtPlace s w place ((as_standard o (base_action s.cartan i (factor_at s place))).raise (slice_index w place)) ((as_standard o (action s i)).raise w))

-- the place of the first sign that is open behind a factor at the place k with f closing and e opening signs, where m
-- signs are open before it and `before` is the place of the first of those: one closes the last that is open
abbrev pub bottom : ℕ → ℕ → ℕ → ℕ → Option ℕ → Option ℕ
bottom m f e k before = if nat_le m f then (if nat_lt 0 e then Some k else None) else before
