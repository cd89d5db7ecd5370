-- The fields of a wide space from its two spaces.
use Rattle.std.specs.Prelude.{◌≡◌, refl}
use Rattle.wide_words.specs.declared.spaces.WideSpace.TheInside.{Inside}
use Rattle.wide_words.specs.WideSpaces.{WideSpaceType, IsWideSpace}

abbrev pub wide_fields : WideSpaceType → Inside
wide_fields s = record { high = s.high; low = s.low }

-- the wide space that is seen of fields
abbrev pub wide_seen : Inside → WideSpaceType
wide_seen a = record { high = a.high; low = a.low }

pub wide_fields-view : (a : Inside) → IsWideSpace (wide_seen a) → wide_fields (wide_seen a) ≡ a
wide_fields-view a p = refl
