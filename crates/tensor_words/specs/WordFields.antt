-- The fields of a word from its list of digits.
use Rattle.std.specs.Prelude.{◌≡◌, ℕ, List, length, take}
use Rattle.std.proofs.Common.{ap₂}
use Rattle.crystal_cartan.specs.Padded.{padded, IsPadded, length-take_padded, padded-take}
use Rattle.tensor_words.specs.declared.words.Word.TheInside.{Inside}

abbrev pub word_fields : List ℕ → Inside
word_fields w = record { digits = padded 0 40 w; count = length w }

pub word_fields-view : (a : Inside) → IsPadded 0 40 a.count a.digits → word_fields (take a.count a.digits) ≡ a
word_fields-view a p =
    ap₂ word_with (padded-take 0 40 a.count a.digits p) (length-take_padded 0 40 a.count a.digits p)
  where
    word_with : List ℕ → ℕ → Inside
    word_with ds n = record { digits = ds; count = n }
