-- The last cell comes behind the second stretch.
use Rattle.table_calls.proofs.Searching.{stretched}
use Rattle.table_calls.proofs.entries.look_on.Goals as goal

pub look_at_last-requires-clause-origin : goal.look_at_last-requires-clause-origin
look_at_last-requires-clause-origin c =
    (stretched c.args.seat.now c.look_between.new.seat c.args.graph.now c.world.result.now c.args.code c.args.turn c.args.cell c.cells-last.result c.args.origin c.requires.belongs c.requires.origin
    c.world.ensures.value c.cells-last.ensures.cells c.requires.straight c.in_default.ensures.told).origin

pub look_at_last-requires-clause-at : goal.look_at_last-requires-clause-at
look_at_last-requires-clause-at c =
    (stretched c.args.seat.now c.look_between.new.seat c.args.graph.now c.world.result.now c.args.code c.args.turn c.args.cell c.cells-last.result c.args.origin c.requires.belongs c.requires.origin
    c.world.ensures.value c.cells-last.ensures.cells c.requires.straight c.in_default.ensures.told).at
