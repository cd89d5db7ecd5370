-- Sample jobs: a generated job for each number. Its head is one of four; a sequence of numbers that begins with the number
-- of the job chooses the commands.
use Rattle.std.specs.Prelude.{ℕ, zero, suc, ◌+◌, ◌*◌, ◌/◌, ◌%◌, ◌^◌, ◌≤◌, ◌≡◌, ◌==◌, if◌then◌else◌, List, [], ◌∷◌, ◌++◌, map, length, codes, decimal, unwrap_or, All, Ok}
use Rattle.std.specs.List.{flat_map, range_with_len}
use Rattle.crystal_streams.specs.Lines.{ended}
use Rattle.crystal_cartan.specs.Types.{CartanType}
use Rattle.crystal_cartan.specs.declared.types.Kind.{Kind}
use Rattle.crystal_cartan.specs.declared.types.Kind.TheVariants.{A, B, C, D}
use Rattle.tensor_words.specs.declared.spaces.Factor.TheVariants.{Vector, Spin}
use Rattle.tensor_words.specs.Spaces.{SpaceType, tensor_space}
use Rattle.tensor_words.specs.TensorRule.{action}
use Rattle.tensor_words.specs.Codes.{code_of}
use Rattle.tableau_reading.specs.Shapes.{tableau_shape, shape_space}
use Rattle.tableau_reading.specs.Readings.{top_word}
use Rattle.tableau_reading.specs.Texts.{word_text}
use Rattle.job_text.specs.declared.jobs.Job.{Job}
use Rattle.job_text.specs.Jobs.{most_job_bytes}
use Rattle.job_text.specs.Judge.{judge}

-- what stands between the first line and the first session, the space that these lines give, and the first start, by digits
pub record SampleHead : Type 0 where
  pub lines : List (List ℕ)
  pub space : SpaceType
  pub start : List ℕ

abbrev pub type_with : Kind → ℕ → CartanType
type_with kind rank = record { kind = kind; rank = rank }

-- the head of a shape with these rows; its first start is the top word
abbrev pub shape_head : List (List ℕ) → CartanType → List ℕ → SampleHead
shape_head lines t rows = record { lines = lines; space = shape_space (tableau_shape t rows); start = top_word (tableau_shape t rows) }

-- the four heads
abbrev pub head_A : SampleHead
head_A = shape_head (codes "type A 4" ∷ codes "shape 4 3 2 1" ∷ codes "cells 4096" ∷ []) (type_with A 4) (4 ∷ 3 ∷ 2 ∷ 1 ∷ [])

-- the digits of `+++ 2 1 1` are 0 1 0 0
abbrev pub head_B : SampleHead
head_B = record {
  lines = codes "type B 3" ∷ codes "space s v v v" ∷ codes "start +++ 2 1 1" ∷ codes "cells 2048" ∷ [];
  space = tensor_space (type_with B 3) (Spin ∷ Vector ∷ Vector ∷ Vector ∷ []);
  start = 0 ∷ 1 ∷ 0 ∷ 0 ∷ [];
}

abbrev pub head_C : SampleHead
head_C = shape_head (codes "type C 4" ∷ codes "shape 4 3 2 1" ∷ codes "cells 200000" ∷ []) (type_with C 4) (4 ∷ 3 ∷ 2 ∷ 1 ∷ [])

abbrev pub head_D : SampleHead
head_D = shape_head (codes "type D 4" ∷ codes "shape 3 2 1" ∷ codes "cells 16384" ∷ []) (type_with D 4) (3 ∷ 2 ∷ 1 ∷ [])

unfoldable pub sample_head : ℕ → SampleHead
sample_head number =
    if number % 4 == 0 then head_A
    else if number % 4 == 1 then head_B
    else if number % 4 == 2 then head_C
    else head_D

-- the number that follows x, and the n-th number behind x
unfoldable pub next_number : ℕ → ℕ
next_number x = (x * 6364136223846793005 + 1442695040888963407) % 2 ^ 64

unfoldable pub number_behind : ℕ → ℕ → ℕ
number_behind zero x = x
number_behind (suc n) x = next_number (number_behind n x)

-- the kind of command, 0 to 4, and the index that a number chooses
unfoldable pub kind_chosen : ℕ → ℕ
kind_chosen x = x / 2 ^ 33 % 5

unfoldable pub index_chosen : CartanType → ℕ → ℕ
index_chosen t x = 1 + x / 2 ^ 40 % t.rank

-- what f_i makes of a word, and the word itself where that is zero
abbrev pub lowered : SpaceType → ℕ → List ℕ → List ℕ
lowered s i w = unwrap_or ((action s i).lower w) w

-- the word of the k-th command, from 0, in a session that begins behind the number x
unfoldable pub word_at : SpaceType → List ℕ → ℕ → ℕ → List ℕ
word_at s start x zero = start
word_at s start x (suc k) = lowered s (index_chosen s.cartan (number_behind (suc k) x)) (word_at s start x k)

-- an index and a blank
abbrev pub index_text : ℕ → List ℕ
index_text i = decimal i ++ 32 ∷ []

-- a command up to its word, from its kind and its index
unfoldable pub before_word : ℕ → ℕ → List ℕ
before_word kind i =
    if kind == 0 then codes "find "
    else if kind == 1 then codes "look f " ++ index_text i
    else if kind == 2 then codes "f " ++ index_text i
    else if kind == 3 then codes "e " ++ index_text i
    else codes "phi " ++ index_text i

-- the line of the command that a number chooses about a word
unfoldable pub command_line : SpaceType → ℕ → List ℕ → List ℕ
command_line s x w = before_word (kind_chosen x) (index_chosen s.cartan x) ++ word_text s w

-- a session that begins with this word, behind the number x: 64 commands
unfoldable pub session_command : SpaceType → List ℕ → ℕ → ℕ → List ℕ
session_command s start x k = command_line s (number_behind (suc k) x) (word_at s start x k)

unfoldable pub session_lines : SpaceType → List ℕ → ℕ → List (List ℕ)
session_lines s start x = codes "session" ∷ map (session_command s start x) (range_with_len 0 64)

-- the j-th session, from 0: the numbers go on from session to session, and each begins with the first start
unfoldable pub sample_session : SampleHead → ℕ → ℕ → List (List ℕ)
sample_session head number j = session_lines head.space head.start (number_behind (64 * j) number)

-- all lines, and the text
unfoldable pub sample_lines : ℕ → List (List ℕ)
sample_lines number =
    codes "crystal-job 1" ∷ ((sample_head number).lines ++ flat_map (sample_session (sample_head number) number) (range_with_len 0 4))

unfoldable pub sample : ℕ → List ℕ
sample number = flat_map ended (sample_lines number)

-- laws

-- the job that a sample is judged to be
pub record IsSampleJob (number : ℕ) (j : Job) : Type 0 where
  pub judged : judge (sample number) ≡ Ok j
  pub space : j.world.space ≡ (sample_head number).space
  pub start : j.starts ≡ code_of (sample_head number).space (sample_head number).start ∷ []
  pub sessions : length j.scripts ≡ 4
  pub commands : All (λ script. length script ≡ 64) j.scripts
  pub asks : j.asks ≡ []

-- every sample is a job
abbrev pub SamplesAreJobs : Type 0
SamplesAreJobs = (number : ℕ) → (j : Job) × IsSampleJob number j

-- no sample has more bytes than a job may have
abbrev pub SamplesAreShort : Type 0
SamplesAreShort = (number : ℕ) → length (sample number) ≤ most_job_bytes
