use Rattle.std.proofs.Common.{◌≡◌, vec_capacity}
use Rattle.graph_history.specs.History.{state_of}
use Rattle.graph_numbering.proofs.VertexCodes.{IsCollecting}
use Rattle.graph_numbering.proofs.numbering.vertex_codes.Given as goal

abbrev pub invariant-cells : goal.invariant-cells
invariant-cells l = record {
  same : l.seat ≡ l.fn.seat;
  collecting : IsCollecting (state_of l.fn.seat.view.front) l.cell l.codes.items (vec_capacity l.codes) l.cells;
  last : l.cells ≡ l.fn.seat.view.world.cells;
}
