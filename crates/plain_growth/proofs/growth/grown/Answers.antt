use Rattle.std.proofs.Common.{◌<◌, refl, subst, length, get_or, arith}
use Rattle.tensor_words.specs.Spaces.{SpaceType}
use Rattle.plain_growth.specs.Growth.{Expands, AddsNotes}
use Rattle.plain_growth.specs.Marks.{AreMarks}
use Rattle.plain_growth.proofs.Growing.{first_frontier, next_frontier, code_below, overfull, whole}
use Rattle.plain_growth.proofs.Noting.{no_nexts, more_nexts}
use Rattle.plain_growth.proofs.growth.grown.Goals as goal

pub expanded-init : goal.expanded-init
expanded-init c = record {
  frontier = first_frontier c.args.world.now c.in_ok-growth.growth.found c.cells-cells.ensures.world c.in_ok-growth.ensures.roots;
  lowered = no_nexts c.args.world.now.space c.in_ok-growth.growth.found c.in_ok-growth.growth.lowered.items c.in_ok-growth.ensures.lowered;
  known = c.in_ok-growth.ensures.known;
}

pub returns-then-len-cells : goal.returns-then-len-cells
returns-then-len-cells c =
    overfull c.args.world.now c.expanded.at c.expanded.growth.found c.expanded.invariant.frontier c.len.ensures.distinct
    (omega (arith, c.len-in-expanded.ensures.len, c.cells-cells.ensures.cells, c.if-len-cells.true))

pub expand-requires-clause-code : goal.expand-requires-clause-code
expand-requires-clause-code c =
    let below = code_below c.args.world.now c.expanded.at _ c.expanded.growth.found c.expanded.invariant.frontier
    (omega (arith, c.len.ensures.len, c.expanded-test.true)) refl in
    rw c.requires below

pub expand-requires-clause-known : goal.expand-requires-clause-known
expand-requires-clause-known c = rw c.requires c.expanded.invariant.known

pub expanded-preserved : goal.expanded-preserved
expanded-preserved c =
    let w = c.args.world.now in
    let n = c.expanded.at in
    let found = c.expanded.growth.found in
    let new = c.expand.new.growth.found in
    let at : n < length found = omega (arith, c.len.ensures.len, c.expanded-test.true) in
    let done = subst (λ (s : SpaceType). Expands s s.cartan.rank (get_or found n 0) found new) c.requires c.in_ok-expand.ensures.expanded in
    let low = subst (λ (s : SpaceType). AddsNotes s s.cartan.rank (get_or found n 0) found c.expanded.growth.lowered.items new c.expand.new.growth.lowered.items) c.requires c.in_ok-expand.ensures.lowered in
    let known = subst (λ (s : SpaceType). AreMarks s new c.expand.new.growth.known.items) c.requires c.in_ok-expand.ensures.known in
    record {
      frontier =
          next_frontier w n (get_or found n 0) found new c.expanded.invariant.frontier at
          (omega (arith, c.len-in-expanded.ensures.len, c.cells-cells.ensures.cells, c.if-len-cells.false)) refl done;
      lowered = more_nexts w.space n (get_or found n 0) found done.more new _ _ at refl done.is c.expanded.invariant.lowered low;
      known = known;
    }

pub returns : goal.returns
returns c =
    whole c.args.world.now c.expanded.at c.expanded.growth.found _ c.expanded.invariant.frontier (omega (arith, c.len.ensures.len, c.expanded-test.false))
    c.len.ensures.distinct c.expanded.invariant.lowered
