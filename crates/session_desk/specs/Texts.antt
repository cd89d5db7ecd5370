-- How replies are printed.
use Rattle.std.specs.Prelude.{ℕ, ◌<◌, List, codes, decimal}
use Rattle.crystal_cartan.specs.Weights.{IsSmall}
use Rattle.tensor_words.specs.Spaces.{SpaceType, size}
use Rattle.tensor_words.specs.Codes.{word_of}
use Rattle.tableau_reading.specs.Texts.{word_text, weight_text}
use Rattle.session_desk.specs.declared.reply.Reply.{Reply}
use Rattle.session_desk.specs.declared.reply.Reply.TheVariants.{New, Old, There, Absent, Undrawn, Zero, Word, Full, Number, Weight, Done, More}

-- a reply that can be printed: a word of the space, a weight with small coordinates, and all others
abbrev pub IsPrintable : SpaceType → Reply → Type 0
IsPrintable s (Word x) = x < size s
IsPrintable s (Weight w) = IsSmall w
IsPrintable s _ = Unit {0}

-- the text of a reply
unfoldable pub reply_text : SpaceType → Reply → List ℕ
reply_text s New = codes "new"
reply_text s Old = codes "old"
reply_text s There = codes "there"
reply_text s Absent = codes "absent"
reply_text s Undrawn = codes "open"
reply_text s Zero = codes "zero"
reply_text s Full = codes "full"
reply_text s (Word x) = word_text s (word_of s x)
reply_text s (Number n) = decimal n
reply_text s (Weight w) = weight_text w
reply_text s Done = codes "done"
reply_text s More = codes "more"
