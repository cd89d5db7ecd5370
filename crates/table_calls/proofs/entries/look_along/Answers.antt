-- The first stretch begins at the home, and the path goes on where it ends.
use Rattle.table_calls.proofs.Searching.{begins_at, turned}
use Rattle.table_calls.proofs.entries.look_along.Goals as goal

pub look_between-requires-clause-at : goal.look_between-requires-clause-at
look_between-requires-clause-at c =
    (begins_at c.args.seat.now c.args.graph.now c.world.result.now c.args.code c.cells-cells.result c.home-start.result c.requires.belongs c.world.ensures.value c.cells-cells.ensures.world c.cells-cells.ensures.cells c.home-start.ensures.is).at

pub look_on-requires-clause-origin : goal.look_on-requires-clause-origin
look_on-requires-clause-origin c =
    (turned c.args.seat.now c.look_between.new.seat c.args.graph.now c.world.result.now c.args.code c.home-start.result c.first_stretch-turn.result c.cells-cells.result c.in_round.result c.args.origin
    c.requires.belongs c.requires.origin c.world.ensures.value c.cells-cells.ensures.cells c.in_round.ensures c.in_default.ensures.told).origin
