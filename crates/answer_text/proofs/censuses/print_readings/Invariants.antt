use Rattle.std.proofs.Common.{Ok, take}
use Rattle.std.specs.List.{flat_map}
use Rattle.tensor_words.specs.Codes.{word_of}
use Rattle.tableau_reading.specs.Texts.{word_text}
use Rattle.crystal_streams.specs.Lines.{ended}
use Rattle.answer_text.specs.Prints.{Prints}
use Rattle.answer_text.proofs.censuses.print_readings.Given as goal

abbrev pub invariant-codes : goal.invariant-codes
invariant-codes g l =
    Prints {T = Unit {0}} {E = Unit {0}} (g.W.Sink.taken l.fn.sink) (g.W.Sink.taken l.sink) (g.W.Sink.faults l.fn.sink) (g.W.Sink.faults l.sink) l.fn.page l.page
    (flat_map (λ code. ended (word_text l.space (word_of l.space code))) (take l.code-index l.codes)) (Ok tt)
