use Rattle.std.proofs.Common.{◌≡◌, rules}
use Rattle.table_calls.proofs.Calls.{at_home}
use Rattle.table_tests.proofs.tests.edges.put.Goals as goal

pub claim-requires-clause-searched : goal.claim-requires-clause-searched
claim-requires-clause-searched c =
    let same : c.cells.result ≡ c.owe.new.seat.view.world.cells = search rules in
    at_home c.owe.new.seat.view.world _ c.home-cell.result c.args.code c.cells.result same c.home-cell.ensures.value c.home-cell.ensures.below
