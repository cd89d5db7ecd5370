use Rattle.std.proofs.Common.{◌≡◌, map, length}
use Rattle.std.specs.List.{filter, range_with_len}
use Rattle.canonical_graph.specs.Graphs.{vertex_word}
use Rattle.crystal_subsets.specs.ProductTops.{is_top_beside, top_entry}
use Rattle.crystal_subsets.proofs.tops.product_tops.Given as goal

abbrev pub invariant-ranks : goal.invariant-ranks
invariant-ranks l = record {
  listed : l.tops.items
      ≡ map (top_entry l.finished l.other_top) (filter (λ rank. is_top_beside l.finished.space l.other_top (vertex_word l.finished rank)) (range_with_len 0 l.rank));
  last : l.rank-end ≡ length l.finished.codes;
}
