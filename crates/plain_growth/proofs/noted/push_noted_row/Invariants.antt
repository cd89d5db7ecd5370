use Rattle.std.proofs.Common.{◌≡◌, ◌*◌, ◌+◌, ◌≤◌, ◌++◌, true, is_some}
use Rattle.std.specs.List.{range_with_len, count_by}
use Rattle.canonical_graph.specs.Graphs.{finished_graph, target_rank, lowering}
use Rattle.plain_growth.specs.Growth.{codes_in}
use Rattle.canonical_graph.specs.Tables.{rank_row}
use Rattle.plain_growth.proofs.noted.push_noted_row.Given as goal

abbrev pub invariant-indices : goal.invariant-indices
invariant-indices l = record {
  ranks : l.table.ranks.items ≡ l.fn.table.ranks.items ++ rank_row (finished_graph l.steps (codes_in l.list)) l.rank true l.j;
  arrows : l.table.arrows ≡ l.fn.table.arrows + count_by (λ i. is_some (target_rank (finished_graph l.steps (codes_in l.list)) l.rank (lowering i))) (range_with_len 1 l.j);
  few : l.table.arrows ≤ l.fn.table.arrows + l.j;
  first : l.first ≡ l.place * l.indices;
  last : l.indices ≡ l.steps.cartan.rank;
  small : l.indices ≤ 8;
}
