-- A word with the places where the operators act on it.
use Rattle.std.specs.Prelude.{◌≡◌}
use Rattle.tensor_words.specs.Spaces.{SpaceType}
use Rattle.tensor_words.specs.Codes.{IsWord, code_of, word_of}
use Rattle.signature_rule.specs.Places.{ArePlaces}
use Rattle.signature_rule.specs.declared.last_word.Acting.{Acting}

-- the word is the one with the code, and its places are those of the space's operators
pub record IsActing (s : SpaceType) (a : Acting) : Type 0 where
  pub is : a.word ≡ word_of s a.code
  pub word : IsWord s a.word
  pub code : a.code ≡ code_of s a.word
  pub places : ArePlaces s a.word a.places
