use Rattle.std.proofs.Common.{Ok, take}
use Rattle.crystal_streams.specs.Lines.{ended}
use Rattle.answer_text.specs.Texts.{numbered}
use Rattle.answer_text.specs.Asks.{image_line}
use Rattle.answer_text.specs.Prints.{Prints}
use Rattle.answer_text.proofs.asks.print_images.Given as goal

abbrev pub invariant-images : goal.invariant-images
invariant-images g l =
    Prints {T = Unit {0}} {E = Unit {0}} (g.W.Sink.taken l.fn.sink) (g.W.Sink.taken l.sink) (g.W.Sink.faults l.fn.sink) (g.W.Sink.faults l.sink) l.fn.page l.page
    (numbered (λ rank image. ended (image_line rank image)) 0 (take l.place l.images)) (Ok tt)
