-- A finished graph has at most eight f arrows for each vertex.
use Rattle.std.proofs.Common.{ℕ, ◌*◌, ◌^◌, ◌<◌, ◌≤◌, length, slice_index_or, is_some, arith}
use Rattle.std.specs.List.{range_with_len, sum_by}
use Rattle.std.proofs.lemmas.List.Sums.{sum_by-le, count_by-le-length}
use Rattle.std.proofs.lemmas.List.FromFn.{length-range_with_len}
use Rattle.canonical_graph.specs.Graphs.{FinishedType, IsFinished, lowering, target_rank, arrows_from, arrow_count}

few_arrows_from : (f : FinishedType) (rank : ℕ) → f.space.cartan.rank ≤ 8 → arrows_from f rank ≤ 8
few_arrows_from f rank high =
    let indices = range_with_len 1 f.space.cartan.rank in
    omega (arith, count_by-le-length (λ i. is_some (target_rank f rank (lowering i))) indices, length-range_with_len 1 f.space.cartan.rank)

few_arrows : (f : FinishedType) → f.space.cartan.rank ≤ 8 → arrow_count f ≤ length f.codes * 8
unfolding arrow_count
few_arrows f high =
    let ranks = range_with_len 0 (length f.codes) in
    let within : sum_by (λ rank. arrows_from f rank) ranks ≤ length ranks * 8 =
    sum_by-le (λ rank. arrows_from f rank) 8 ranks (λ k d _. few_arrows_from f (slice_index_or ranks k d) high) in
    rw (length-range_with_len 0 (length f.codes)) at within

pub small_arrows : (f : FinishedType) → IsFinished f → arrow_count f < 2 ^ 63
small_arrows f finished =
    let few : length f.codes < 2 ^ 32 = finished.few in
    omega (arith, few_arrows f finished.space.cartan.high, few)
