-- The parts of the answer text. Each line ends with byte 10.
use Rattle.std.specs.Prelude.{ℕ, ◌+◌, List, [], ◌∷◌, ◌++◌, length, codes, decimal}
use Rattle.std.specs.List.{flat_map, range_with_len}
use Rattle.crystal_streams.specs.Lines.{ended}
use Rattle.crystal_cartan.specs.Types.{CartanType}
use Rattle.crystal_cartan.specs.declared.types.Kind.{Kind}
use Rattle.crystal_cartan.specs.declared.types.Kind.TheVariants.{A, B, C, D}
use Rattle.tensor_words.specs.Spaces.{SpaceType}
use Rattle.canonical_graph.specs.Graphs.{FinishedType, arrow_count}
use Rattle.answer_text.specs.Vertices.{vertex_text}
use Rattle.session_desk.specs.declared.reply.Reply.{Reply}
use Rattle.session_desk.specs.Texts.{reply_text}

-- the texts of the elements of a list one after another, each with its number, the first with the number n
abbrev pub numbered : {E : Type 0} → (ℕ → E → List ℕ) → ℕ → List E → List ℕ
numbered text n [] = []
numbered text n (x ∷ xs) = text n x ++ numbered text (n + 1) xs

abbrev pub kind_text : Kind → List ℕ
kind_text A = codes "A"
kind_text B = codes "B"
kind_text C = codes "C"
kind_text D = codes "D"

-- a first word, with the blank behind it, and the kind and the rank
unfoldable pub type_line : List ℕ → CartanType → List ℕ
type_line word t = word ++ kind_text t.kind ++ 32 ∷ decimal t.rank

-- the first line: the kind and the rank
abbrev pub head_line : CartanType → List ℕ
head_line t = type_line (codes "crystal ") t

-- the line that tells the number of a session
unfoldable pub session_head : ℕ → List ℕ
session_head number = codes "session " ++ decimal number

-- a line for each reply
abbrev pub reply_lines : SpaceType → List Reply → List ℕ
reply_lines s replies = flat_map (λ reply. ended (reply_text s reply)) replies

-- one session: its number, and its replies
unfoldable pub session_text : SpaceType → ℕ → List Reply → List ℕ
session_text s number replies = ended (session_head number) ++ reply_lines s replies

-- the sessions one after another, numbered from 1, each from its replies
unfoldable pub sessions_text : SpaceType → List (List Reply) → List ℕ
sessions_text s told = numbered (session_text s) 1 told

-- the numbers of vertices and of f arrows
unfoldable pub graph_head : FinishedType → List ℕ
graph_head f = codes "graph " ++ decimal (length f.codes) ++ 32 ∷ decimal (arrow_count f)

-- a line for each vertex of the ranks from a on, n of them
abbrev pub vertex_lines : FinishedType → ℕ → ℕ → List ℕ
vertex_lines f a n = flat_map (λ rank. ended (vertex_text f rank)) (range_with_len a n)

-- the graph: its head, and its vertices in ascending rank
unfoldable pub graph_part : FinishedType → List ℕ
graph_part f = ended (graph_head f) ++ vertex_lines f 0 (length f.codes)

-- what stands in place of a graph that has more vertices than there are cells
unfoldable pub full_line : List ℕ
full_line = codes "full"

-- the line that tells the name of a statistic
unfoldable pub statistic_head : List ℕ → List ℕ
statistic_head name = codes "statistic " ++ name

-- a statistic: its name, and its report as it is
unfoldable pub statistic_text : List ℕ → List ℕ → List ℕ
statistic_text name report = ended (statistic_head name) ++ report

-- the last line
unfoldable pub end_line : List ℕ
end_line = codes "end"

-- the one line for refused command words, and for a refused job
unfoldable pub words_refusal_line : ℕ → List ℕ
words_refusal_line fault = codes "refused words " ++ decimal fault

unfoldable pub job_refusal_line : ℕ → ℕ → List ℕ
job_refusal_line line fault = codes "refused job line " ++ decimal line ++ codes " fault " ++ decimal fault

abbrev pub words_refusal : ℕ → List ℕ
words_refusal fault = ended (words_refusal_line fault)

abbrev pub job_refusal : ℕ → ℕ → List ℕ
job_refusal line fault = ended (job_refusal_line line fault)
