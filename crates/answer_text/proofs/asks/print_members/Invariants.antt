use Rattle.std.proofs.Common.{Ok, take}
use Rattle.std.specs.List.{flat_map}
use Rattle.crystal_streams.specs.Lines.{ended}
use Rattle.answer_text.specs.Asks.{member_line}
use Rattle.answer_text.specs.Prints.{Prints}
use Rattle.answer_text.proofs.asks.print_members.Given as goal

abbrev pub invariant-members : goal.invariant-members
invariant-members g l =
    Prints {T = Unit {0}} {E = Unit {0}} (g.W.Sink.taken l.fn.sink) (g.W.Sink.taken l.sink) (g.W.Sink.faults l.fn.sink) (g.W.Sink.faults l.sink) l.fn.page l.page
    (flat_map (λ rank. ended (member_line l.finished rank)) (take l.rank-index l.ranks)) (Ok tt)
