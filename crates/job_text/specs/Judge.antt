-- The judgement of a job's text, line by line: a job, or the first line with a fault and its first fault.
use Rattle.std.specs.Prelude.{ℕ, ◌+◌, ◌==◌, ◌&&◌, ◌||◌, nat_le, nat_lt, not, Bool, true, false, if◌then◌else◌, List, [], ◌∷◌, length, slice_index_or, drop, Option, Some, None, is_some, Result, Ok, Err, codes, bytes_eq}
use Rattle.std.specs.List.{list_all}
use Rattle.std.specs.Option.{option_and_then}
use Rattle.crystal_cartan.specs.Types.{CartanType, least_rank}
use Rattle.crystal_cartan.specs.declared.types.Kind.{Kind}
use Rattle.crystal_cartan.specs.declared.types.Kind.TheVariants as kind
use Rattle.crystal_cartan.specs.declared.types.Arrow.{Arrow}
use Rattle.tensor_words.specs.declared.spaces.Factor.{Factor}
use Rattle.tensor_words.specs.declared.spaces.Factor.TheVariants.{Vector, Spin, SpinPlus, SpinMinus}
use Rattle.tensor_words.specs.declared.spaces.Order.{Order as TensorOrder}
use Rattle.tensor_words.specs.declared.spaces.Order.TheVariants.{Standard, Kashiwara}
use Rattle.tensor_words.specs.Spaces.{SpaceType, space_of, ordered}
use Rattle.tensor_words.specs.Codes.{code_of}
use Rattle.tensor_words.specs.Worlds.{most_cells}
use Rattle.text_pieces.specs.Pieces.{pieces, words, at, are_printed}
use Rattle.text_pieces.specs.Numbers.{number_of, all_some}
use Rattle.tableau_reading.specs.Shapes.{ShapeType, shape_of, shape_in, shape_space}
use Rattle.tableau_reading.specs.Readings.{top_word}
use Rattle.tableau_reading.specs.Tokens.{word_read}
use Rattle.job_text.specs.declared.commands.Command.{Command}
use Rattle.job_text.specs.declared.commands.Command.TheVariants as command
use Rattle.job_text.specs.declared.commands.Ask.TheVariants as ask
use Rattle.job_text.specs.declared.faults.JobWhy.{JobWhy}
use Rattle.job_text.specs.declared.faults.JobWhy.TheVariants.{BadByte, BadHeader, UnknownLine, Misplaced, BadNumber, RankRange, BadShape}
use Rattle.job_text.specs.declared.faults.JobWhy.TheVariants.{BadSpace, BadWord, BadIndex, CellsRange, Missing, TooMany}
use Rattle.job_text.specs.declared.keys.Key.{Key}
use Rattle.job_text.specs.declared.keys.Key.TheVariants.{Typing, Order, Shape, Space, Start, Cells, Session, Add, Find, Wt}
use Rattle.job_text.specs.declared.keys.Key.TheVariants.{Lower, Raise, Look, Eps, Phi, Done, Demazure, Tops, Reflect}
use Rattle.job_text.specs.declared.keys.Version.{Version}
use Rattle.job_text.specs.declared.keys.Version.TheVariants.{One, Two}
use Rattle.job_text.specs.declared.keys.JobPart.TheVariants as part
use Rattle.job_text.specs.declared.keys.KeyRule.{KeyRule}
use Rattle.job_text.specs.declared.drafts.TypedHead.{TypedHead}
use Rattle.job_text.specs.declared.drafts.Known.{Known}
use Rattle.job_text.specs.declared.drafts.Known.TheVariants.{Nothing, Typed, Begun}
use Rattle.job_text.specs.declared.drafts.Progress.{Progress}
use Rattle.job_text.specs.declared.drafts.Stage.{Stage}
use Rattle.job_text.specs.declared.drafts.Stage.TheVariants.{Unread, Headed}
use Rattle.job_text.specs.Faults.{Refusal}
use Rattle.job_text.specs.Rules.{rule_of, is_count, is_part_between}
use Rattle.job_text.specs.declared.jobs.Job.{Job}
use Rattle.job_text.specs.Drafts.{Drafted, order_of, fresh, last_script, with_start, with_cells, with_session, with_command, with_ask, job_of}

-- what a judgement gives, or the fault
abbrev pub Judged : Type 0 → Type 0
Judged T = Result T JobWhy

-- what is there, or the fault; a test passed, or the fault
abbrev pub found : {T : Type 0} → JobWhy → Option T → Judged T
found why (Some x) = Ok x
found why None = Err why

abbrev pub found_ok : {T E : Type 0} → JobWhy → Result T E → Judged T
found_ok why (Ok x) = Ok x
found_ok why (Err e) = Err why

abbrev pub unless : {T : Type 0} → Bool → JobWhy → Judged T → Judged T
unless true why next = next
unless false why next = Err why

-- a judgement, and what follows from what it gives; the first fault stays
abbrev pub and_then : {S T E : Type 0} → Result S E → (S → Result T E) → Result T E
and_then (Ok x) next = next x
and_then (Err e) next = Err e

abbrev pub ok_map : {S T E : Type 0} → (S → T) → Result S E → Result T E
ok_map make (Ok x) = Ok (make x)
ok_map make (Err e) = Err e

-- the kinds, the tensor orders and the factors by their words
abbrev pub kind_of : List ℕ → Option Kind
kind_of text =
    if bytes_eq text (codes "A") then Some kind.A
    else if bytes_eq text (codes "B") then Some kind.B
    else if bytes_eq text (codes "C") then Some kind.C
    else if bytes_eq text (codes "D") then Some kind.D
    else None

abbrev pub order_named : List ℕ → Option TensorOrder
order_named text =
    if bytes_eq text (codes "standard") then Some Standard
    else if bytes_eq text (codes "kashiwara") then Some Kashiwara
    else None

abbrev pub factor_of : List ℕ → Option Factor
factor_of text =
    if bytes_eq text (codes "v") then Some Vector
    else if bytes_eq text (codes "s") then Some Spin
    else if bytes_eq text (codes "s+") then Some SpinPlus
    else if bytes_eq text (codes "s-") then Some SpinMinus
    else None

-- the type of this kind and rank, where it is one that is taken
abbrev pub ranked : ℕ → Kind → Option CartanType
ranked rank k = if nat_le (least_rank k) rank && nat_le rank 8 then Some (record { kind = k; rank = rank }) else None

-- numbers and indices
abbrev pub number_read : List ℕ → Judged ℕ
number_read text = found BadNumber (number_of text)

abbrev pub all_numbered : List (List ℕ) → Judged (List ℕ)
all_numbered args = found BadNumber (all_some number_of args)

abbrev pub is_index : SpaceType → ℕ → Bool
is_index s i = nat_le 1 i && nat_le i s.cartan.rank

abbrev pub indexed : SpaceType → List ℕ → Judged ℕ
indexed s text = and_then (number_read text) (λ i. unless (is_index s i) BadIndex (Ok i))

abbrev pub all_indexed : SpaceType → List (List ℕ) → Judged (List ℕ)
all_indexed s args = and_then (all_numbered args) (λ list. unless (list_all (is_index s) list) BadIndex (Ok list))

-- the factors with these words, and their space in a tensor order
abbrev pub factored : List (List ℕ) → Judged (List Factor)
factored args = found BadSpace (all_some factor_of args)

abbrev pub space_read : TensorOrder → List (List ℕ) → CartanType → Judged SpaceType
space_read o args t = and_then (factored args) (λ factors. ok_map (ordered o) (found_ok BadSpace (space_of t factors)))

-- the shape with rows of these lengths, in a tensor order
abbrev pub shaped : TensorOrder → CartanType → List (List ℕ) → Judged ShapeType
shaped o t args = and_then (all_numbered args) (λ rows. ok_map (shape_in o) (found_ok BadShape (shape_of t rows)))

-- the code of the word with these tokens
abbrev pub coded : SpaceType → List (List ℕ) → Judged ℕ
coded s tokens = found_ok BadWord (ok_map (code_of s) (word_read s tokens))

-- a command about a word, and one about an index and a word
abbrev pub commanded : Drafted → List (List ℕ) → (ℕ → Command) → Judged Drafted
commanded d tokens make = ok_map (λ c. with_command d (make c)) (coded d.space tokens)

abbrev pub commanded_at : Drafted → List (List ℕ) → (ℕ → ℕ → Command) → Judged Drafted
commanded_at d args make = and_then (indexed d.space (at args 0)) (λ i. commanded d (drop 1 args) (make i))

abbrev pub arrow : Bool → ℕ → Arrow
arrow down i = record { down = down; index = i }

-- the draft with a number of cells
abbrev pub celled : List (List ℕ) → Drafted → Judged Drafted
celled args d = and_then (number_read (at args 0)) (λ n. unless (nat_le 1 n && nat_le n most_cells) CellsRange (Ok (with_cells d n)))

-- what the line of a key word makes of a draft
unfoldable pub drafted : Key → List (List ℕ) → Drafted → Judged Drafted
drafted Typing args d = Err Misplaced
drafted Order args d = Err Misplaced
drafted Shape args d = Err Misplaced
drafted Space args d = Err Misplaced
drafted Start args d = ok_map (with_start d) (coded d.space args)
drafted Cells args d = celled args d
drafted Session args d = Ok (with_session d)
drafted Add args d = commanded d args (λ c. command.Add c)
drafted Find args d = commanded d args (λ c. command.Find c)
drafted Wt args d = commanded d args (λ c. command.Wt c)
drafted Lower args d = commanded_at d args (λ i c. command.Move (arrow true i) c)
drafted Raise args d = commanded_at d args (λ i c. command.Move (arrow false i) c)
drafted Eps args d = commanded_at d args (λ i c. command.Eps i c)
drafted Phi args d = commanded_at d args (λ i c. command.Phi i c)
drafted Look args d = commanded_at d (drop 1 args) (λ i c. command.Look (arrow (bytes_eq (at args 0) (codes "f")) i) c)
drafted Done args d = Ok (with_command d command.Done)
drafted Demazure args d = ok_map (λ list. with_ask d (ask.Demazure list)) (all_indexed d.space args)
drafted Tops args d = ok_map (λ shape. with_ask d (ask.Tops shape)) (shaped d.space.order d.space.cartan args)
drafted Reflect args d = ok_map (λ i. with_ask d (ask.Reflect i)) (indexed d.space (at args 0))

-- the head with the tensor order that a word names
abbrev pub with_order : TypedHead → TensorOrder → TypedHead
with_order head o = record head { order = Some o }

-- what the line `order`, `shape` or `space` makes of a head
unfoldable pub placed : Key → List (List ℕ) → TypedHead → Judged Known
placed Order args head = ok_map (λ o. Typed (with_order head o)) (found BadSpace (order_named (at args 0)))
placed Shape args head =
    ok_map (λ shape. Begun (fresh (shape_space shape) (Some (code_of (shape_space shape) (top_word shape))))) (shaped (order_of head) head.cartan args)
placed Space args head = ok_map (λ s. Begun (fresh s None)) (space_read (order_of head) args head.cartan)
placed _ args head = Err Misplaced

-- the type that the line `type` gives
abbrev pub typed : List (List ℕ) → Judged CartanType
typed args = and_then (number_read (at args 1)) (λ rank. found RankRange (option_and_then (ranked rank) (kind_of (at args 0))))

-- what the line of a key word makes of what is known
unfoldable pub made : Key → List (List ℕ) → Known → Judged Known
made key args Nothing = ok_map (λ t. Typed (record { cartan = t; order = None })) (typed args)
made key args (Typed head) = placed key args head
made key args (Begun d) = ok_map (λ d. Begun d) (drafted key args d)

-- whether a draft, or what is known, has room for the line
abbrev pub draft_has_room : Key → List (List ℕ) → Drafted → Bool
draft_has_room Start args d = nat_lt (length d.starts) 256
draft_has_room Cells args d = true
draft_has_room Session args d = nat_lt (length d.scripts) 16
draft_has_room Demazure args d = nat_lt (length d.asks) 8 && nat_le (length args) 64
draft_has_room Tops args d = nat_lt (length d.asks) 8
draft_has_room Reflect args d = nat_lt (length d.asks) 8
draft_has_room _ args d = nat_lt (length (last_script d)) 4096

unfoldable pub has_room : Key → List (List ℕ) → Known → Bool
has_room key args (Begun d) = draft_has_room key args d
has_room key args _ = true

-- a second line `cells` or `order` is misplaced
abbrev pub is_second : Key → Known → Bool
is_second Cells (Begun d) = is_some d.cells
is_second Order (Typed head) = is_some head.order
is_second _ _ = false

abbrev pub is_placed : KeyRule → Progress → Bool
is_placed r p = is_part_between r.first r.last p.part && not (is_second r.key p.known)

-- behind `look` stands f or e
abbrev pub is_formed : Key → List (List ℕ) → Bool
is_formed Look args = bytes_eq (at args 0) (codes "f") || bytes_eq (at args 0) (codes "e")
is_formed _ args = true

-- the line of a key word, its faults in their order; behind it stands the part that its rule names
abbrev pub behind : KeyRule → Progress → Known → Progress
behind r p known = record { version = p.version; part = r.next; known = known }

unfoldable pub ruled : KeyRule → List (List ℕ) → Progress → Judged Progress
ruled r args p =
    unless (is_count r.count (length args) && is_formed r.key args) UnknownLine
    (unless (is_placed r p) Misplaced
    (unless (has_room r.key args p.known) TooMany
    (ok_map (behind r p) (made r.key args p.known))))

-- a line behind the header, by its words; one with no word, and a comment, is passed over
unfoldable pub worded : List (List ℕ) → Progress → Judged Progress
worded [] p = Ok p
worded (word ∷ args) p =
    if slice_index_or word 0 0 == 35 then Ok p
    else and_then (found UnknownLine (rule_of p.version word)) (λ r. ruled r args p)

-- the version that a header tells
abbrev pub version_of : List ℕ → Option Version
version_of line =
    if bytes_eq line (codes "crystal-job 1") then Some One
    else if bytes_eq line (codes "crystal-job 2") then Some Two
    else None

-- the first line is a header, and no other
abbrev pub begun : Version → Progress
begun version = record { version = version; part = part.Opening; known = Nothing }

abbrev pub stepped : List ℕ → Stage → Judged Stage
stepped line Unread = ok_map (λ version. Headed (begun version)) (found BadHeader (version_of line))
stepped line (Headed p) = ok_map (λ after. Headed after) (worded (words line) p)

-- what a line makes of a stage
unfoldable pub line_made : List ℕ → Stage → Judged Stage
line_made line stage = unless (are_printed line) BadByte (stepped line stage)

-- what is known behind the last line gives
abbrev pub finished : Known → Judged Job
finished (Begun d) = unless (is_some d.top || not (length d.starts == 0)) Missing (Ok (job_of d))
finished _ = Err Missing

unfoldable pub at_end : Stage → Judged Job
at_end Unread = Err BadHeader
at_end (Headed p) = finished p.known

-- what stands behind the last end of a line: nothing, or a line that is not ended
abbrev pub tail_judged : List ℕ → Stage → Judged Job
tail_judged [] stage = at_end stage
tail_judged (byte ∷ bytes) stage = Err BadByte

-- a judgement of a line, with its number
abbrev pub at_line : {T : Type 0} → ℕ → Judged T → Result T Refusal
at_line n (Ok x) = Ok x
at_line n (Err why) = Err (record { line = n; why = why })

-- the lines of a text from the n-th on; each piece but the last is a line
abbrev pub judged_from : ℕ → Stage → List (List ℕ) → Result Job Refusal
judged_from n stage [] = Err (record { line = n; why = BadByte })
judged_from n stage (last ∷ []) = at_line n (tail_judged last stage)
judged_from n stage (line ∷ next ∷ rest) =
    and_then (at_line n (line_made line stage)) (λ after. judged_from (n + 1) after (next ∷ rest))

-- the text of a job
unfoldable pub judge : List ℕ → Result Job Refusal
judge bytes = judged_from 1 Unread (pieces 10 bytes)
