use Rattle.std.proofs.Common.{◌<◌, ap, length, arith}
use Rattle.answer_text.specs.Answers.{ask_text}
use Rattle.answer_text.proofs.Loops.{each_more, each_stopped, each_all}
use Rattle.answer_text.proofs.Printed.{prints_nothing}
use Rattle.answer_text.proofs.asks.print_asks.Goals as goal

pub asks-init : goal.asks-init
asks-init g c = prints_nothing tt _ _ _

pub asks-preserved : goal.asks-preserved
asks-preserved g c =
    let text = ask_text c.args.finished.now in
    let below : c.asks.ask-index < length (c.args.asks.now) = omega arith in
    let is = ap text c.ask-item.is in
    each_more text (c.args.asks.now) c.asks.ask-index c.ask-item.result below is c.asks.invariant c.in_ok-print_ask.ensures

pub returns-in_err-print_ask : goal.returns-in_err-print_ask
returns-in_err-print_ask g c =
    let text = ask_text c.args.finished.now in
    let below : c.asks.ask-index < length (c.args.asks.now) = omega arith in
    let is = ap text c.ask-item.is in
    each_stopped text (c.args.asks.now) c.asks.ask-index c.ask-item.result below is _ c.from_residual.ensures.1 c.asks.invariant c.in_err-print_ask.ensures

pub returns : goal.returns
returns g c = each_all (ask_text c.args.finished.now) (c.args.asks.now) c.asks.ask-index (omega arith) c.asks.invariant
