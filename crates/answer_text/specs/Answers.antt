-- Whole answers: their texts, and which of them can be printed.
use Rattle.std.specs.Prelude.{ℕ, ◌≡◌, ◌<◌, ◌≤◌, ◌^◌, List, [], ◌++◌, length, slice_index_or, string_bytes, All, Option, Some, None, IfSome}
use Rattle.std.specs.List.{flat_map}
use Rattle.crystal_cartan.specs.Types.{CartanType}
use Rattle.tensor_words.specs.Spaces.{SpaceType, size}
use Rattle.tableau_reading.specs.Shapes.{ShapeType, shape_space}
use Rattle.canonical_graph.specs.Graphs.{FinishedType}
use Rattle.crystal_match.specs.declared.comparing.Verdict.{Verdict}
use Rattle.crystal_match.specs.declared.comparing.Verdict.TheVariants.{Same, Differs}
use Rattle.session_desk.specs.declared.reply.Reply.{Reply}
use Rattle.session_desk.specs.Texts.{IsPrintable}
use Rattle.crystal_streams.specs.Lines.{ended}
use Rattle.ask_answers.specs.Answers.{IsPrintableAsk}
use Rattle.ask_answers.specs.declared.values.AskAnswer.{AskAnswer}
use Rattle.ask_answers.specs.declared.values.AskAnswer.TheVariants.{Demazure, Tops, Reflection}
use Rattle.answer_text.specs.Texts.{head_line, sessions_text, graph_head, graph_part, full_line, statistic_text, end_line, words_refusal, job_refusal}
use Rattle.answer_text.specs.Asks.{demazure_text, tops_text, reflection_text}
use Rattle.answer_text.specs.Modes.{census_line, tableaux_text, same_line, differs_line, wide_line, sample_line, sessions_line, commands_line}
use Rattle.answer_text.specs.declared.answers.Report.{Report}
use Rattle.answer_text.specs.declared.answers.Counts.{Counts}
use Rattle.answer_text.specs.declared.answers.Whole.{Whole}
use Rattle.answer_text.specs.declared.answers.Answer.{Answer}
use Rattle.answer_text.specs.declared.answers.Answer.TheVariants.{WordsRefused, JobRefused, Crystal, Sample, Tableaux, Comparison, Wide}

-- ---- answers to asks, and reports

-- the text of an answer to an ask about this graph
abbrev pub ask_text : FinishedType → AskAnswer → List ℕ
ask_text f (Demazure indices ranks) = demazure_text f indices.items ranks.items
ask_text f (Tops shape tops) = tops_text f shape tops.items
ask_text f (Reflection index images) = reflection_text index images.items

-- the answers to asks one after another
abbrev pub asks_text : FinishedType → List AskAnswer → List ℕ
asks_text f asks = flat_map (ask_text f) asks

-- the reports of statistics one after another
abbrev pub reports_text : List Report → List ℕ
reports_text reports = flat_map (λ report. statistic_text (string_bytes report.name) report.bytes.items) reports

-- the names of statistics are short
abbrev pub AreShort : List Report → Type 0
AreShort reports = All (λ report. length (string_bytes report.name) ≤ 64) reports

-- there are fewer than 2^32 sessions, and each reply can be printed
pub record ArePrintable (s : SpaceType) (told : List (List Reply)) : Type 0 where
  pub few : length told < 2 ^ 32
  pub printable : (k : ℕ) → k < length told → All (IsPrintable s) (slice_index_or told k [])

-- what is told of a graph can be printed
pub record IsPrintableWhole (whole : Whole) : Type 0 where
  pub short : AreShort whole.reports.items
  pub asks : All (IsPrintableAsk whole.finished) whole.asks.items

-- ---- the texts of whole answers, and of their parts

-- the text of a job with these replies whose graph is finished, from the parts of the statistics and the answers to the
-- asks
abbrev pub whole_text : FinishedType → List (List Reply) → List ℕ → List ℕ → List ℕ
whole_text f told parts answers =
    ended (head_line f.space.cartan) ++ sessions_text f.space told ++ graph_part f ++ parts ++ answers ++ ended end_line

-- the same where more words are reached than there are cells
abbrev pub full_text : SpaceType → List (List Reply) → List ℕ
full_text s told = ended (head_line s.cartan) ++ sessions_text s told ++ ended full_line ++ ended end_line

-- the part of a graph and of what is told of it, or `full`
abbrev pub whole_part : Whole → List ℕ
whole_part whole = graph_part whole.finished ++ reports_text whole.reports.items ++ asks_text whole.finished whole.asks.items

abbrev pub crystal_part : Option Whole → List ℕ
crystal_part (Some whole) = whole_part whole
crystal_part None = ended full_line

abbrev pub crystal_text : SpaceType → List (List Reply) → Option Whole → List ℕ
crystal_text s told (Some whole) = whole_text whole.finished told (reports_text whole.reports.items) (asks_text whole.finished whole.asks.items)
crystal_text s told None = full_text s told

-- the answer to a sample job, by the line of its graph
abbrev pub sample_answer : ℕ → CartanType → ℕ → ℕ → List ℕ → List ℕ
sample_answer number t sessions commands line =
    ended (sample_line number) ++ ended (head_line t) ++ ended (sessions_line sessions) ++ ended (commands_line commands) ++ ended line ++ ended end_line

-- the line of a graph: its sizes, or `full`
abbrev pub sizes_line : Option FinishedType → List ℕ
sizes_line (Some f) = graph_head f
sizes_line None = full_line

-- the text of a census by the codes of the tableaux, and where there are too many
abbrev pub census_text : ShapeType → List ℕ → List ℕ
census_text shape list = ended (census_line shape.cartan) ++ tableaux_text (shape_space shape) list ++ ended end_line

abbrev pub full_census_text : CartanType → List ℕ
full_census_text t = ended (census_line t) ++ ended full_line ++ ended end_line

-- the part between the head of a census and its end
abbrev pub tableaux_part : SpaceType → Option (List ℕ) → List ℕ
tableaux_part s (Some list) = tableaux_text s list
tableaux_part s None = ended full_line

abbrev pub tableaux_answer : ShapeType → Option (List ℕ) → List ℕ
tableaux_answer shape (Some list) = census_text shape list
tableaux_answer shape None = full_census_text shape.cartan

-- the text of a comparison, by its middle line
abbrev pub match_text : CartanType → List ℕ → List ℕ
match_text t line = ended (head_line t) ++ ended line ++ ended end_line

-- the line of a verdict, or `full`
abbrev pub verdict_line : Option Verdict → List ℕ
verdict_line (Some (Same pairs)) = same_line (length pairs)
verdict_line (Some (Differs walk)) = differs_line walk
verdict_line None = full_line

-- the text of a growth of wide words, by its middle line
abbrev pub wide_text : CartanType → List ℕ → List ℕ
wide_text t line = ended (head_line t) ++ ended line ++ ended end_line

-- the line of the counts, or `full`
abbrev pub counts_line : Option Counts → List ℕ
counts_line (Some counts) = wide_line counts.vertices counts.arrows
counts_line None = full_line

-- the text of an answer
abbrev pub answer_bytes : Answer → List ℕ
answer_bytes (WordsRefused fault) = words_refusal fault
answer_bytes (JobRefused line fault) = job_refusal line fault
answer_bytes (Crystal space told graph) = crystal_text space told.items graph
answer_bytes (Sample number cartan sessions commands graph) = sample_answer number cartan sessions commands (sizes_line graph)
answer_bytes (Tableaux shape codes) = tableaux_answer shape codes
answer_bytes (Comparison cartan verdict) = match_text cartan (verdict_line verdict)
answer_bytes (Wide cartan counts) = wide_text cartan (counts_line counts)

-- a verdict can be printed: there are fewer than 2^63 pairs
abbrev pub IsPrintableVerdict : Verdict → Type 0
IsPrintableVerdict (Same pairs) = length pairs < 2 ^ 63
IsPrintableVerdict (Differs walk) = Unit {0}

-- counts can be printed: there are fewer than 2^63 arrows
abbrev pub IsPrintableCounts : Counts → Type 0
IsPrintableCounts counts = counts.arrows < 2 ^ 63

-- an answer can be printed
abbrev pub IsPrintableAnswer : Answer → Type 0
IsPrintableAnswer (WordsRefused fault) = Unit {0}
IsPrintableAnswer (JobRefused line fault) = Unit {0}
IsPrintableAnswer (Crystal space told graph) =
    ArePrintable space told.items × IfSome graph IsPrintableWhole × IfSome graph (λ whole. whole.finished.space ≡ space)
IsPrintableAnswer (Sample number cartan sessions commands graph) = Unit {0}
IsPrintableAnswer (Tableaux shape codes) = IfSome codes (All (λ code. code < size (shape_space shape)))
IsPrintableAnswer (Comparison cartan verdict) = IfSome verdict IsPrintableVerdict
IsPrintableAnswer (Wide cartan counts) = IfSome counts IsPrintableCounts
