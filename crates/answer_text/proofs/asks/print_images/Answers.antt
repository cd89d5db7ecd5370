use Rattle.std.proofs.Common.{◌<◌, ap, ℕ, length, arith}
use Rattle.crystal_streams.specs.Lines.{ended}
use Rattle.answer_text.specs.Asks.{image_line}
use Rattle.answer_text.proofs.Loops.{next_more, next_stopped, next_all}
use Rattle.answer_text.proofs.Printed.{prints_nothing}
use Rattle.answer_text.proofs.asks.print_images.Goals as goal

pub images-init : goal.images-init
images-init g c = prints_nothing tt _ _ _

pub images-preserved : goal.images-preserved
images-preserved g c =
    let text = λ (rank image : ℕ). ended (image_line rank image) in
    let below : c.images.place < length (c.args.images.now) = omega arith in
    let is = ap ended c.image_line.ensures in
    next_more text 0 c.images.place (c.args.images.now) c.images.place 0 (omega arith) below is c.images.invariant c.in_ok-print_line.ensures

pub returns-in_err-print_line : goal.returns-in_err-print_line
returns-in_err-print_line g c =
    let text = λ (rank image : ℕ). ended (image_line rank image) in
    let below : c.images.place < length (c.args.images.now) = omega arith in
    let is = ap ended c.image_line.ensures in
    next_stopped text 0 c.images.place (c.args.images.now) c.images.place 0 (omega arith) below is _ c.from_residual.ensures.1 c.images.invariant c.in_err-print_line.ensures

pub returns : goal.returns
returns g c = next_all (λ (rank image : ℕ). ended (image_line rank image)) 0 (c.args.images.now) c.images.place (omega arith) c.images.invariant
