use Rattle.std.proofs.Common.{Ok, length, take}
use Rattle.std.specs.List.{flat_map, range_with_len}
use Rattle.answer_text.specs.Vertices.{vertex_text}
use Rattle.crystal_streams.specs.Lines.{ended}
use Rattle.answer_text.specs.Prints.{Prints}
use Rattle.answer_text.proofs.graphs.print_vertices.Given as goal

abbrev pub invariant-ranks : goal.invariant-ranks
invariant-ranks g l =
    Prints {T = Unit {0}} {E = Unit {0}} (g.W.Sink.taken l.fn.sink) (g.W.Sink.taken l.sink) (g.W.Sink.faults l.fn.sink) (g.W.Sink.faults l.sink) l.fn.page l.page
    (flat_map (λ rank. ended (vertex_text l.finished rank)) (take l.rank (range_with_len 0 (length l.finished.codes)))) (Ok tt)
