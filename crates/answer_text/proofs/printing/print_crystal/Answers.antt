use Rattle.std.proofs.Common.{ap}
use Rattle.crystal_cartan.specs.Types.{CartanType}
use Rattle.crystal_streams.specs.Lines.{ended}
use Rattle.answer_text.specs.Texts.{head_line}
use Rattle.answer_text.proofs.Wholes.{crystal_is}
use Rattle.answer_text.proofs.Printed.{prints_as, prints_then, prints_short, prints_failed}
use Rattle.answer_text.proofs.printing.print_crystal.Goals as goal

pub returns-in_err-print_head : goal.returns-in_err-print_head
returns-in_err-print_head g c =
    let head = (prints_as (ap (λ (t : CartanType). ended (head_line t)) c.cartan.ensures.cartan) c.in_err-print_head.ensures) in
    prints_failed _ c.from_residual.ensures.1
    (prints_as (crystal_is c.args.space.now c.args.told.now c.args.graph.now c.requires.space) (prints_short _ (prints_short _ (prints_short _ head))))

pub returns-in_err-print_sessions : goal.returns-in_err-print_sessions
returns-in_err-print_sessions g c =
    let head = (prints_as (ap (λ (t : CartanType). ended (head_line t)) c.cartan.ensures.cartan) c.in_ok-print_head.ensures) in
    prints_failed _ c.from_residual-in_err-print_sessions.ensures.1
    (prints_as (crystal_is c.args.space.now c.args.told.now c.args.graph.now c.requires.space) (prints_short _ (prints_short _ (prints_then head c.in_err-print_sessions.ensures))))

pub returns-in_err-print_whole_or_full : goal.returns-in_err-print_whole_or_full
returns-in_err-print_whole_or_full g c =
    let head = (prints_as (ap (λ (t : CartanType). ended (head_line t)) c.cartan.ensures.cartan) c.in_ok-print_head.ensures) in
    prints_failed _ c.from_residual-in_err-print_whole_or_full.ensures.1
    (prints_as (crystal_is c.args.space.now c.args.told.now c.args.graph.now c.requires.space)
    (prints_short _ (prints_then (prints_then head c.in_ok-print_sessions.ensures) c.in_err-print_whole_or_full.ensures)))

pub returns : goal.returns
returns g c =
    let head = (prints_as (ap (λ (t : CartanType). ended (head_line t)) c.cartan.ensures.cartan) c.in_ok-print_head.ensures) in
    prints_as (crystal_is c.args.space.now c.args.told.now c.args.graph.now c.requires.space)
    (prints_then (prints_then (prints_then head c.in_ok-print_sessions.ensures) c.in_ok-print_whole_or_full.ensures) c.print_end.ensures)
