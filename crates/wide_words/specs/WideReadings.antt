-- A wide word as it was read: its words, and what the operators of all indices do to them.
use Rattle.std.specs.Prelude.{◌≡◌}
use Rattle.tensor_words.specs.Codes.{IsWord, code_of, word_of}
use Rattle.signature_rule.specs.Places.{ArePlaces, AreStrings}
use Rattle.wide_words.specs.declared.steps.WideReading.{WideReading}
use Rattle.wide_words.specs.WideSpaces.{WideSpaceType, IsWide}

-- the two words are those of the pair, with their places and the lengths of their strings
pub record IsReading (s : WideSpaceType) (r : WideReading) : Type 0 where
  pub word : IsWide s r.code
  pub high : r.high ≡ word_of s.high r.code.high
  pub low : r.low ≡ word_of s.low r.code.low
  pub high_word : IsWord s.high r.high
  pub low_word : IsWord s.low r.low
  pub high_code : r.code.high ≡ code_of s.high r.high
  pub low_code : r.code.low ≡ code_of s.low r.low
  pub high_places : ArePlaces s.high r.high r.high_places
  pub low_places : ArePlaces s.low r.low r.low_places
  pub high_strings : AreStrings s.high r.high r.high_strings
  pub low_strings : AreStrings s.low r.low r.low_strings
