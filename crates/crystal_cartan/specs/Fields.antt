-- The fields of a weight from its list of coordinates.
use Rattle.std.specs.Prelude.{◌≡◌, ℕ, List, length, take, ℤ, pos}
use Rattle.std.proofs.Common.{ap₂}
use Rattle.crystal_cartan.specs.Padded.{padded, IsPadded, length-take_padded, padded-take}
use Rattle.crystal_cartan.specs.declared.weights.Weight.TheInside.{Inside}

abbrev pub weight_fields : List ℤ → Inside
weight_fields w = record { doubled = padded (pos 0) 9 w; size = length w }

pub weight_fields-take : (a : Inside) → IsPadded (pos 0) 9 a.size a.doubled → weight_fields (take a.size a.doubled) ≡ a
weight_fields-take a p =
    ap₂ weight_of (padded-take (pos 0) 9 a.size a.doubled p) (length-take_padded (pos 0) 9 a.size a.doubled p)
  where
    weight_of : List ℤ → ℕ → Inside
    weight_of xs n = record { doubled = xs; size = n }
