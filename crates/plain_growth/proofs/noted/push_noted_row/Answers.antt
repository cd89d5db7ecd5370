use Rattle.std.proofs.Common.{◌≡◌, ◌+◌, ◌*◌, true, is_some, get_or, refl, arith}
use Rattle.std.proofs.lemmas.List.{get_or_read}
use Rattle.canonical_graph.specs.Graphs.{finished_graph}
use Rattle.plain_growth.specs.Growth.{codes_in}
use Rattle.plain_growth.proofs.Noting.{noted_target, row_within}
use Rattle.plain_growth.proofs.Scattering.{no_code, placed_within, placed_code}
use Rattle.canonical_graph.proofs.Rows.{entry_on, arrows_on, one_at_most}
use Rattle.plain_growth.proofs.noted.push_noted_row.Goals as goal

pub indices-preserved : goal.indices-preserved
indices-preserved c =
    let list = c.args.list.now in
    let f = finished_graph c.args.steps.now (codes_in c.args.list.now) in
    let found = c.args.growth.now.found in
    let place = (get_or c.args.list.now c.args.rank no_code).place in
    let n = c.indices.j in
    let done = c.in_ok-push.ensures in
    let kept = c.indices.invariant in
    let within = placed_within found list c.args.rank c.requires.placed c.requires.rank in
    let read : c.index.result.now ≡ get_or c.args.growth.now.lowered.items (place * c.rank-indices.result + n) 0 =
    get_or_read c.args.growth.now.lowered.items _ _ (row_within c.args.steps.now found c.args.growth.now.lowered.items place c.rank-indices.result n c.requires.lowered kept.last within c.indices-test.true) c.index.ensures 0 in
    let low = noted_target f found c.args.growth.now.lowered.items c.args.ranks.now c.args.rank place c.rank-indices.result n c.index.result.now
    c.noted_rank-target.result c.requires.lowered c.requires.ranks kept.last within
    (placed_code found list c.args.rank c.requires.placed c.requires.rank) c.indices-test.true read c.noted_rank-target.ensures in
    let one = one_at_most (is_some c.noted_rank-target.result) in
    record {
      ranks = entry_on f c.args.rank true n c.noted_rank-target.result _ _ _ low kept.ranks done.ranks;
      arrows = arrows_on f c.args.rank n c.noted_rank-target.result _ _ _ low kept.arrows done.arrows;
      few = omega (arith, done.arrows, one, kept.few);
      first = refl;
      last = kept.last;
      small = kept.small;
    }
