use Rattle.std.proofs.Common.{◌∙◌, ◌+◌, true, is_some, arith}
use Rattle.canonical_graph.specs.Graphs.{finished_graph, code_at}
use Rattle.canonical_graph.specs.Tables.{arrow_to}
use Rattle.canonical_graph.proofs.Rows.{op_at, target_is, entry_on, arrows_on, one_at_most}
use Rattle.canonical_graph.proofs.lowering.Lowered.push_row.Goals as goal

pub indices-preserved : goal.indices-preserved
indices-preserved c =
    let f = finished_graph c.args.steps.now c.args.codes.now in
    let n = c.indices.place in
    let done = c.in_ok-push.ensures in
    let kept = c.indices.invariant in
    let to = c.lowered_code-lowered.ensures.value ∙ op_at f.space (arrow_to true (n + 1)) (code_at f c.args.rank) c.word-word.result c.word-word.ensures.value in
    let low = target_is f c.args.rank (arrow_to true (n + 1)) c.lowered_code-lowered.result c.target_of.result to c.target_of.ensures in
    let one = one_at_most (is_some c.target_of.result) in
    record {
      ranks = entry_on f c.args.rank true n c.target_of.result _ _ _ low kept.ranks done.ranks;
      arrows = arrows_on f c.args.rank n c.target_of.result _ _ _ low kept.arrows done.arrows;
      few = omega (arith, done.arrows, one, kept.few);
      last = kept.last;
      small = kept.small;
    }
