use Rattle.std.proofs.Common.{◌≡◌, ◌∙◌}
use Rattle.plain_growth.proofs.Growing.{ended_whole, grown_whole}
use Rattle.plain_growth.proofs.growth.grown_graph.Goals as goal

pub finished_growth-requires : goal.finished_growth-requires
finished_growth-requires c =
    let whole = rw c.in-Some.is at c.in_ok-growth.ensures in
    let same : c.in_ok-steps.steps ≡ c.args.world.now.space = c.in_ok-steps.ensures ∙ c.space.ensures.space in
    rw same (ended_whole c.args.world.now c.in-Some.growth.found c.in-Some.growth.lowered.items c.space.ensures.world whole)

pub returns-in_ok-finished_growth-in-Some : goal.returns-in_ok-finished_growth-in-Some
returns-in_ok-finished_growth-in-Some c =
    let whole = rw c.in-Some.is at c.in_ok-growth.ensures in (
      grown_whole c.args.world.now c.in-Some.growth.found c.in_ok-finished_growth-in-Some.field-0.codes c.in-Some.growth.lowered.items c.space.ensures.world whole c.in_ok-finished_growth-in-Some.ensures.codes,
      c.in_ok-finished_growth-in-Some.ensures.space ∙ c.in_ok-steps.ensures ∙ c.space.ensures.space,
    )
