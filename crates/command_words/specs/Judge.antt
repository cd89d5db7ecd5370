-- What command words mean: settings, or the first fault.
use Rattle.std.specs.Prelude.{◌≡◌, ◌⊎◌, ℕ, Bool, false, ◌==◌, List, [], ◌∷◌, ◌++◌, Option, Some, None}
use Rattle.std.specs.Prelude.{Result, Ok, Err, if◌then◌else◌, position, codes, bytes_eq}
use Rattle.std.specs.Prelude.{◌<◌, ◌≤◌, length, nat_eq, slice_index}
use Rattle.std.specs.List.{IsDistinct, list_any}
use Rattle.command_words.specs.Number.{number_in}
use Rattle.command_words.specs.declared.fault.WordsFault.{WordsFault}
use Rattle.command_words.specs.declared.fault.WordsFault.TheVariants.{Dashed, Missing, UnknownMode}
use Rattle.command_words.specs.declared.fault.WordsFault.TheVariants.{BadGrowers, UnknownStatistic}
use Rattle.command_words.specs.declared.fault.WordsFault.TheVariants.{RepeatedStatistic, BadSample}
use Rattle.command_words.specs.declared.fault.WordsFault.TheVariants.{BadCensus, BadMatch, WideExtra, NoMemory}
use Rattle.command_words.specs.declared.settings.Relabelling.TheVariants.{Same, Star}
use Rattle.command_words.specs.declared.settings.Settings.{Settings}
use Rattle.command_words.specs.declared.settings.Settings.TheVariants.{Grow, Sample, Census, Match, Wide}
use Rattle.crystal_cartan.specs.declared.types.Kind.TheVariants.{A}
use Rattle.tensor_words.specs.declared.spaces.Order.TheVariants.{Standard}
use Rattle.tableau_reading.specs.Shapes.{ShapeType, IsShape, shape_of}
use Rattle.tableau_reading.specs.declared.shapes.ShapeFault.{ShapeFault}

-- a word, or the name of a statistic, as its bytes
abbrev pub Text : Type 0
Text = List ℕ

-- the word begins with `-`
abbrev pub is_dashed : Text → Bool
is_dashed [] = false
is_dashed (byte ∷ rest) = byte == 45

-- whether the texts have this word
abbrev pub has_word : List Text → Text → Bool
has_word texts word = list_any (λ text. bytes_eq text word) texts

-- the place of the first statistic of this name
abbrev pub name_place : List Text → Text → Option ℕ
name_place names word = position (λ name. bytes_eq name word) names

-- what a further word of `grow` names, if it stood before and the place of its statistic are known
abbrev pub place_or_fault : Bool → Option ℕ → Result ℕ WordsFault
place_or_fault stood_before None = Err UnknownStatistic
place_or_fault stood_before (Some place) = if stood_before then Err RepeatedStatistic else Ok place

-- the place that a further word of `grow` names, after the words `seen`
abbrev pub place_named : List Text → List Text → Text → Result ℕ WordsFault
place_named names seen word = place_or_fault (has_word seen word) (name_place names word)

-- one place and those after it; of two faults the first
abbrev pub with_place : Result ℕ WordsFault → Result (List ℕ) WordsFault
    → Result (List ℕ) WordsFault
with_place (Err fault) others = Err fault
with_place (Ok place) (Err fault) = Err fault
with_place (Ok place) (Ok places) = Ok (place ∷ places)

-- the places that the further words of `grow` name, after the words `seen`
abbrev pub places_named : List Text → List Text → List Text → Result (List ℕ) WordsFault
places_named names seen [] = Ok []
places_named names seen (word ∷ rest) =
    with_place (place_named names seen word) (places_named names (seen ++ word ∷ []) rest)

-- growth by so many growers, with the chosen statistics
abbrev pub grow_with : ℕ → Result (List ℕ) WordsFault → Result Settings WordsFault
grow_with growers (Ok places) = Ok (Grow growers places)
grow_with growers (Err fault) = Err fault

-- `grow` by the number of growers, if it is one, and the further words
abbrev pub judge_grow : List Text → Option ℕ → List Text → Result Settings WordsFault
judge_grow names None more = Err BadGrowers
judge_grow names (Some growers) more = grow_with growers (places_named names [] more)

-- a sample by so many growers, of the number, if it is one
abbrev pub sample_with : ℕ → Option ℕ → Result Settings WordsFault
sample_with growers None = Err BadSample
sample_with growers (Some number) = Ok (Sample growers number)

-- `sample` by the number of growers, if it is one, and the further words
abbrev pub judge_sample : Option ℕ → List Text → Result Settings WordsFault
judge_sample None more = Err BadGrowers
judge_sample (Some growers) (word ∷ []) = sample_with growers (number_in 10 0 4294967295 word)
judge_sample (Some growers) more = Err BadSample

-- the length of a row, where the word is one to nine digits
abbrev pub row_number : Text → Option ℕ
row_number word = number_in 9 0 999999999 word

-- one length and those after it
abbrev pub with_row : Option ℕ → Option (List ℕ) → Option (List ℕ)
with_row None others = None
with_row (Some length) None = None
with_row (Some length) (Some lengths) = Some (length ∷ lengths)

-- the lengths of all rows, where each word is one
abbrev pub row_numbers : List Text → Option (List ℕ)
row_numbers [] = Some []
row_numbers (word ∷ rest) = with_row (row_number word) (row_numbers rest)

-- the census of a shape, if it is one
abbrev pub census_of : Result ShapeType ShapeFault → Result Settings WordsFault
census_of (Ok shape) = Ok (Census shape)
census_of (Err fault) = Err BadCensus

-- the census of the shape of type A with this rank and these rows, if they are numbers
abbrev pub census_in : Option ℕ → Option (List ℕ) → Result Settings WordsFault
census_in None rows = Err BadCensus
census_in (Some rank) None = Err BadCensus
census_in (Some rank) (Some rows) = census_of (shape_of (record { kind = A; rank = rank }) rows)

-- `census` by the rank, 1 to 8, and the lengths of the rows
abbrev pub judge_census : Text → List Text → Result Settings WordsFault
judge_census rank rows = census_in (number_in 9 1 8 rank) (row_numbers rows)

-- `match` by its one word
abbrev pub judge_match : Text → List Text → Result Settings WordsFault
judge_match word [] =
    if bytes_eq word (codes "same") then Ok (Match Same)
    else if bytes_eq word (codes "star") then Ok (Match Star)
    else Err BadMatch
judge_match word (other ∷ more) = Err BadMatch

-- `wide` by the number of growers, if it is one, and no further word
abbrev pub judge_wide : Option ℕ → List Text → Result Settings WordsFault
judge_wide None more = Err BadGrowers
judge_wide (Some growers) [] = Ok (Wide growers)
judge_wide (Some growers) (word ∷ more) = Err WideExtra

-- the mode, the word after it and the further words
abbrev pub judge_mode : List Text → Text → Text → List Text → Result Settings WordsFault
judge_mode names mode second more =
    if bytes_eq mode (codes "grow") then judge_grow names (number_in 10 1 16 second) more
    else if bytes_eq mode (codes "sample") then judge_sample (number_in 10 1 16 second) more
    else if bytes_eq mode (codes "census") then judge_census second more
    else if bytes_eq mode (codes "match") then judge_match second more
    else if bytes_eq mode (codes "wide") then judge_wide (number_in 10 1 16 second) more
    else Err UnknownMode

-- a mode, the word after it and further words, of which the first two may be missing
abbrev pub judge_line : List Text → Option Text → Option Text → List Text
    → Result Settings WordsFault
judge_line names (Some mode) (Some second) more = judge_mode names mode second more
judge_line names mode second more = Err Missing

-- words of which none begins with `-`
abbrev pub judge_plain : List Text → List Text → Result Settings WordsFault
judge_plain names (mode ∷ second ∷ more) = judge_mode names mode second more
judge_plain names few = Err Missing

-- what the words of the command line mean, where the statistics have these names
abbrev pub judge_words : List Text → List Text → Result Settings WordsFault
judge_words words names =
    if list_any is_dashed words then Err Dashed else judge_plain names words

-- the answer is this meaning, or memory was short
abbrev pub IsAnswer : {T : Type 0} → Result T WordsFault → Result T WordsFault → Type 0
IsAnswer meaning answer = (answer ≡ meaning) ⊎ (answer ≡ Err NoMemory)

-- the places are different ones of so many statistics
pub record AreChosen (count : ℕ) (places : List ℕ) : Type 0 where
  pub distinct : IsDistinct nat_eq places
  pub below : (k : ℕ) → k < length places → slice_index places k < count

-- the number of growers is 1 to 16, the chosen places are different ones of `count` names, and the shape of a census is
-- of type A and in the standard order
abbrev pub FitsNames : ℕ → Settings → Type 0
FitsNames count (Grow growers places) = (1 ≤ growers) × (growers ≤ 16) × AreChosen count places
FitsNames count (Sample growers number) = (1 ≤ growers) × (growers ≤ 16)
FitsNames count (Census shape) = IsShape shape × (shape.cartan.kind ≡ A) × (shape.order ≡ Standard)
FitsNames count (Match relabelling) = Unit {0}
FitsNames count (Wide growers) = (1 ≤ growers) × (growers ≤ 16)
