use Rattle.std.proofs.Common.{◌<◌, ap, ℕ, length, arith}
use Rattle.crystal_streams.specs.Lines.{ended}
use Rattle.answer_text.specs.Asks.{member_line}
use Rattle.answer_text.proofs.Loops.{each_more, each_stopped, each_all}
use Rattle.answer_text.proofs.Printed.{prints_nothing}
use Rattle.answer_text.proofs.asks.print_members.Goals as goal

pub members-init : goal.members-init
members-init g c = prints_nothing tt _ _ _

pub members-preserved : goal.members-preserved
members-preserved g c =
    let text = λ (rank : ℕ). ended (member_line c.args.finished.now rank) in
    let below : c.members.rank-index < length (c.args.ranks.now) = omega arith in
    let is = ap ended c.member_line.ensures in
    each_more text (c.args.ranks.now) c.members.rank-index 0 below is c.members.invariant c.in_ok-print_line.ensures

pub returns-in_err-print_line : goal.returns-in_err-print_line
returns-in_err-print_line g c =
    let text = λ (rank : ℕ). ended (member_line c.args.finished.now rank) in
    let below : c.members.rank-index < length (c.args.ranks.now) = omega arith in
    let is = ap ended c.member_line.ensures in
    each_stopped text (c.args.ranks.now) c.members.rank-index 0 below is _ c.from_residual.ensures.1 c.members.invariant c.in_err-print_line.ensures

pub returns : goal.returns
returns g c = each_all (λ (rank : ℕ). ended (member_line c.args.finished.now rank)) (c.args.ranks.now) c.members.rank-index (omega arith) c.members.invariant
