-- Demazure subsets by the code of the vertex below them.
use Rattle.std.proofs.Common.{◌≡◌, subst, ℕ, ◌<◌, List, length, get_or, Some, Contains, ◌↔◌, All}
use Rattle.std.specs.List.Sorted.{IsStrictlyIncreasing}
use Rattle.std.proofs.lemmas.List.Elements.{Contains-get_or}
use Rattle.canonical_graph.specs.Graphs.{FinishedType, code_at, rank_in}
use Rattle.canonical_graph.proofs.Ranks.{place_of_rank}
use Rattle.crystal_subsets.specs.DemazureSubsets.{Demazure as DemazureSubset}
use Rattle.ask_answers.specs.Answers.{IsSubset}

pub subset_of_code : (f : FinishedType) (start rank : ℕ) (indices ranks : List ℕ) → rank_in f.codes start ≡ Some rank → IsStrictlyIncreasing ranks
    → ((r : ℕ) → Contains ranks r ↔ ((r < length f.codes) × DemazureSubset f.space (code_at f rank) indices (code_at f r)))
    → IsSubset f start indices ranks
subset_of_code f start rank indices ranks is ascending members = record {
  ascending = ascending;
  members = subst (λ b. (r : ℕ) → Contains ranks r ↔ ((r < length f.codes) × DemazureSubset f.space b indices (code_at f r)))
      (place_of_rank f.codes start rank is).1 members;
}

pub subset_below : (f : FinishedType) (start : ℕ) (indices ranks : List ℕ) → IsSubset f start indices ranks → All (λ rank. rank < length f.codes) ranks
subset_below f start indices ranks is = λ k d lt. ((is.members (get_or ranks k d)).0 (Contains-get_or ranks k d lt)).0
