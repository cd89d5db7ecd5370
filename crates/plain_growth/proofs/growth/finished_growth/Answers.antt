use Rattle.plain_growth.specs.Growth.{codes_in}
use Rattle.plain_growth.proofs.Growing.{finished_ended}
use Rattle.plain_growth.proofs.growth.finished_growth.Goals as goal

pub lowered_of_growth-requires-clause-finished : goal.lowered_of_growth-requires-clause-finished
lowered_of_growth-requires-clause-finished c =
    rw c.as_slice-3.ensures.value
    (finished_ended c.args.steps c.args.growth.now.found (codes_in c.in_ok-list.list.items) c.args.growth.now.lowered.items c.requires c.in_ok-list.ensures.sorted)

pub of_lowered-requires-clause-finished : goal.of_lowered-requires-clause-finished
of_lowered-requires-clause-finished c =
    rw (c.in_ok-codes.ensures, c.as_slice.ensures.value)
    (finished_ended c.args.steps c.args.growth.now.found (codes_in c.in_ok-list.list.items) c.args.growth.now.lowered.items c.requires c.in_ok-list.ensures.sorted)
