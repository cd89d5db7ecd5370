use Rattle.std.proofs.Common.{Ok, take}
use Rattle.std.specs.List.{flat_map}
use Rattle.crystal_streams.specs.Lines.{ended}
use Rattle.answer_text.specs.Asks.{top_line}
use Rattle.answer_text.specs.Prints.{Prints}
use Rattle.answer_text.proofs.asks.print_top_lines.Given as goal

abbrev pub invariant-tops : goal.invariant-tops
invariant-tops g l =
    Prints {T = Unit {0}} {E = Unit {0}} (g.W.Sink.taken l.fn.sink) (g.W.Sink.taken l.sink) (g.W.Sink.faults l.fn.sink) (g.W.Sink.faults l.sink) l.fn.page l.page
    (flat_map (λ top. ended (top_line l.finished l.word top.0 top.1)) (take l.rank-index l.tops)) (Ok tt)
