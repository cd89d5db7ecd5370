-- Jobs, as contracts see them.
use Rattle.std.specs.Prelude.{ℕ, ◌<◌, ◌≤◌, ◌≡◌, ◌==◌, nat_lt, if◌then◌else◌, List, [], ◌∷◌, ◌++◌, length, All}
use Rattle.std.specs.List.{flat_map}
use Rattle.crystal_cartan.specs.Types.{HasIndex}
use Rattle.tensor_words.specs.Spaces.{SpaceType, size}
use Rattle.tensor_words.specs.Operators.{IsArrow}
use Rattle.tensor_words.specs.Worlds.{IsWorld}
use Rattle.tableau_reading.specs.Shapes.{IsShape}
use Rattle.job_text.specs.declared.commands.Command.{Command}
use Rattle.job_text.specs.declared.commands.Command.TheVariants.{Add, Find, Look, Move, Wt, Eps, Phi, Done}
use Rattle.job_text.specs.declared.commands.Ask.{Ask}
use Rattle.job_text.specs.declared.commands.Ask.TheVariants.{Demazure, Tops, Reflect}
use Rattle.job_text.specs.declared.jobs.Job.{Job}

-- the most bytes of a job's text
abbrev pub most_job_bytes : ℕ
most_job_bytes = 1048576

-- the number of cells of a job that gives none
abbrev pub default_cells : ℕ
default_cells = 65536

-- a command speaks of a word of the space, and of an arrow or an index of its type; `done` of the whole graph
abbrev pub IsCommand : SpaceType → Command → Type 0
IsCommand s (Add c) = c < size s
IsCommand s (Find c) = c < size s
IsCommand s (Look a c) = IsArrow s a × (c < size s)
IsCommand s (Move a c) = IsArrow s a × (c < size s)
IsCommand s (Wt c) = c < size s
IsCommand s (Eps i c) = HasIndex s.cartan i × (c < size s)
IsCommand s (Phi i c) = HasIndex s.cartan i × (c < size s)
IsCommand s Done = Unit {0}

-- an ask speaks of indices of the type, and of shapes of the type in the space's tensor order
abbrev pub IsAsk : SpaceType → Ask → Type 0
IsAsk s (Demazure list) = All (HasIndex s.cartan) list × (1 ≤ length list) × (length list ≤ 64)
IsAsk s (Tops shape) = IsShape shape × (shape.cartan ≡ s.cartan) × (shape.order ≡ s.order)
IsAsk s (Reflect i) = HasIndex s.cartan i

-- the codes that the `add` commands of a script put in
abbrev pub added_code : Command → List ℕ
added_code (Add c) = c ∷ []
added_code command = []

abbrev pub added_codes : List Command → List ℕ
added_codes script = flat_map added_code script

-- the codes of a list in ascending order, each once
abbrev pub with_code : ℕ → List ℕ → List ℕ
with_code c [] = c ∷ []
with_code c (d ∷ ds) = if nat_lt c d then c ∷ d ∷ ds else if c == d then d ∷ ds else d ∷ with_code c ds

abbrev pub ascending : List ℕ → List ℕ
ascending [] = []
ascending (c ∷ cs) = with_code c (ascending cs)

-- the roots of a job: its starts, and what its `add` commands put in
abbrev pub roots_of : List ℕ → List (List Command) → List ℕ
roots_of starts scripts = ascending (starts ++ flat_map added_codes scripts)

abbrev pub IsScript : SpaceType → List Command → Type 0
IsScript s script = All (IsCommand s) script × (length script ≤ 4096)

-- what holds of every job that is read
pub record IsJob (j : Job) : Type 0 where
  pub world : IsWorld j.world
  pub roots : j.world.roots ≡ roots_of j.starts j.scripts
  pub starts : All (λ c. c < size j.world.space) j.starts
  pub started : 1 ≤ length j.starts
  pub few_starts : length j.starts ≤ 257
  pub scripts : All (IsScript j.world.space) j.scripts
  pub few_scripts : length j.scripts ≤ 16
  pub asks : All (IsAsk j.world.space) j.asks
  pub few_asks : length j.asks ≤ 8
