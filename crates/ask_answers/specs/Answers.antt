-- The answers to the asks of a job, as values.
use Rattle.std.specs.Prelude.{ℕ, ◌^◌, ◌<◌, ◌≤◌, ◌≡◌, ◌↔◌, List, length, slice_index, Some, All, Contains}
use Rattle.std.specs.List.{AllZip}
use Rattle.std.specs.List.Sorted.{IsStrictlyIncreasing}
use Rattle.crystal_cartan.specs.Types.{HasIndex}
use Rattle.crystal_cartan.specs.Weights.{IsSmall}
use Rattle.tableau_reading.specs.Shapes.{shape_weight}
use Rattle.canonical_graph.specs.Graphs.{FinishedType, code_at}
use Rattle.crystal_subsets.specs.DemazureSubsets.{Demazure as DemazureSubset}
use Rattle.crystal_subsets.specs.ProductTops.{tops_beside}
use Rattle.crystal_characters.specs.Reflections.{reflection_rank}
use Rattle.ask_answers.specs.declared.values.AskAnswer.{AskAnswer}
use Rattle.ask_answers.specs.declared.values.AskAnswer.TheVariants as answer
use Rattle.job_text.specs.declared.commands.Ask.{Ask}
use Rattle.job_text.specs.declared.commands.Ask.TheVariants.{Demazure, Tops, Reflect}

-- the ranks, ascending, of the vertices in the Demazure subset of these indices over the element with the code b
pub record IsSubset (f : FinishedType) (b : ℕ) (indices ranks : List ℕ) : Type 0 where
  pub ascending : IsStrictlyIncreasing ranks
  pub members : (rank : ℕ) → Contains ranks rank ↔ ((rank < length f.codes) × DemazureSubset f.space b indices (code_at f rank))

-- the ranks of the crystal reflections of the vertices at the index i, in ascending rank of the vertices
pub record IsImages (f : FinishedType) (i : ℕ) (images : List ℕ) : Type 0 where
  pub size : length images ≡ length f.codes
  pub each : (rank : ℕ) → rank < length f.codes → reflection_rank f i rank ≡ Some (slice_index images rank)

-- the value answers the ask about the graph, whose job has its first start at the code b
abbrev pub IsAskAnswer : FinishedType → ℕ → Ask → AskAnswer → Type 0
IsAskAnswer f b (Demazure indices) (answer.Demazure said ranks) = (said.items ≡ indices) × IsSubset f b indices ranks.items
IsAskAnswer f b (Tops shape) (answer.Tops said tops) = (said ≡ shape) × (tops.items ≡ tops_beside f (shape_weight shape))
IsAskAnswer f b (Reflect i) (answer.Reflection said images) = (said ≡ i) × IsImages f i images.items
IsAskAnswer f b ask other = ⊥

-- the values answer the asks, one for each, in their order
abbrev pub AreAnswers : FinishedType → ℕ → List Ask → List AskAnswer → Type 0
AreAnswers f b asks answers = AllZip (IsAskAnswer f b) asks answers

-- an answer to an ask can be printed: its indices, ranks and weights are those of the graph
abbrev pub IsPrintableAsk : FinishedType → AskAnswer → Type 0
IsPrintableAsk f (answer.Demazure indices ranks) =
    All (HasIndex f.space.cartan) indices.items × (length indices.items ≤ 64) × All (λ rank. rank < length f.codes) ranks.items
IsPrintableAsk f (answer.Tops shape tops) = All (λ top. top.0 < length f.codes) tops.items × All (λ top. IsSmall top.1) tops.items
IsPrintableAsk f (answer.Reflection index images) = length images.items < 2 ^ 32
