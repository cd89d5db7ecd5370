-- The fields of a space from its type and its list of factors.
use Rattle.std.specs.Prelude.{◌≡◌, ℕ, List, length, take}
use Rattle.std.proofs.Common.{ap₂}
use Rattle.crystal_cartan.specs.Padded.{padded, IsPadded, length-take_padded, padded-take}
use Rattle.tensor_words.specs.declared.spaces.Factor.{Factor}
use Rattle.tensor_words.specs.declared.spaces.Factor.TheVariants.{Vector}
use Rattle.tensor_words.specs.declared.spaces.Space.TheInside.{Inside}
use Rattle.tensor_words.specs.Spaces.{SpaceType, tensor_space, ordered, IsSpace}

abbrev pub space_fields : SpaceType → Inside
space_fields s = record { cartan = s.cartan; factors = padded Vector 40 s.factors; count = length s.factors; order = s.order }

-- the space that is seen of fields
abbrev pub space_seen : Inside → SpaceType
space_seen a = ordered a.order (tensor_space a.cartan (take a.count a.factors))

pub space_fields-view : (a : Inside) → IsSpace (space_seen a) × IsPadded Vector 40 a.count a.factors → space_fields (space_seen a) ≡ a
space_fields-view a p =
    ap₂ space_with (padded-take Vector 40 a.count a.factors p.1) (length-take_padded Vector 40 a.count a.factors p.1)
  where
    space_with : List Factor → ℕ → Inside
    space_with fs n = record { cartan = a.cartan; factors = fs; count = n; order = a.order }
