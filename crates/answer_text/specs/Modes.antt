-- The lines of the modes `census`, `match`, `wide` and `sample`, but for those that they share with a grown graph. Each line ends
-- with byte 10.
use Rattle.std.specs.Prelude.{ℕ, if◌then◌else◌, List, ◌∷◌, ◌++◌, length, codes, decimal}
use Rattle.std.specs.List.{flat_map}
use Rattle.crystal_cartan.specs.Types.{CartanType}
use Rattle.crystal_cartan.specs.declared.types.Arrow.{Arrow}
use Rattle.tensor_words.specs.Spaces.{SpaceType}
use Rattle.tensor_words.specs.Codes.{word_of}
use Rattle.tableau_reading.specs.Texts.{word_text}
use Rattle.crystal_streams.specs.Lines.{ended}
use Rattle.answer_text.specs.Texts.{type_line}

-- the first line of a census: the kind and the rank
abbrev pub census_line : CartanType → List ℕ
census_line t = type_line (codes "census ") t

-- how many tableaux there are
unfoldable pub tableaux_line : ℕ → List ℕ
tableaux_line count = codes "tableaux " ++ decimal count

-- the tableaux by the codes of their readings: how many, and a line for each reading
unfoldable pub tableaux_text : SpaceType → List ℕ → List ℕ
tableaux_text s list =
    ended (tableaux_line (length list)) ++ flat_map (λ code. ended (word_text s (word_of s code))) list

-- the line where two components are alike: how many pairs there are
unfoldable pub same_line : ℕ → List ℕ
same_line count = codes "same " ++ decimal count

-- an arrow: f or e, and its index
unfoldable pub arrow_token : Arrow → List ℕ
arrow_token a = (if a.down then codes "f" else codes "e") ++ decimal a.index

-- arrows, each with a blank in front of it
abbrev pub arrow_tokens : List Arrow → List ℕ
arrow_tokens walk = flat_map (λ a. 32 ∷ arrow_token a) walk

-- the line where they differ: the first walk that tells the marked elements apart
unfoldable pub differs_line : List Arrow → List ℕ
differs_line walk = codes "differs" ++ arrow_tokens walk

-- the line of a growth of wide words: how many are reached, and how many f arrows at them are not zero
unfoldable pub wide_line : ℕ → ℕ → List ℕ
wide_line vertices arrows = codes "wide " ++ decimal vertices ++ 32 ∷ decimal arrows

-- the lines of a sample job: its number, and how many sessions and commands it has
unfoldable pub sample_line : ℕ → List ℕ
sample_line number = codes "sample " ++ decimal number

unfoldable pub sessions_line : ℕ → List ℕ
sessions_line count = codes "sessions " ++ decimal count

unfoldable pub commands_line : ℕ → List ℕ
commands_line count = codes "commands " ++ decimal count
