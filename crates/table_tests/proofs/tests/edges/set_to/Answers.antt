use Rattle.std.proofs.Common.{◌≡◌, ◌-◌, Some, rules}
use Rattle.tensor_words.specs.Operators.{op}
use Rattle.table_calls.proofs.Calls.{leads_to}
use Rattle.table_tests.proofs.tests.edges.set_to.Goals as goal

pub set-requires-in-Some-Some-clause-target : goal.set-requires-in-Some-Some-clause-target
set-requires-in-Some-Some-clause-target c =
    let same : c.load_cell-there.result - 1 ≡ c.in-Some-Some.code = search rules in
    let leads : op c.load_cell-there.new.seat.view.world.space c.args.arrow (c.load_cell-word.result - 1) ≡ Some c.in-Some-Some.code = search rules in
    leads_to c.load_cell-word.new.seat.view c.load_cell-there.new.seat.view _ c.args.cell c.in-Some-Some.target c.in-Some-Some.code c.load_cell-word.result c.load_cell-there.result c.args.arrow
    c.load_cell-there.ensures.view c.if-word-eq0.false c.load_cell-word.ensures.word c.if-there-eq0.false c.load_cell-there.ensures.word same leads
