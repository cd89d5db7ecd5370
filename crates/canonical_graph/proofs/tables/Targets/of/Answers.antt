use Rattle.std.proofs.Common.{◌∙◌, ap}
use Rattle.crystal_cartan.specs.Types.{CartanType}
use Rattle.canonical_graph.specs.Graphs.{finished_graph}
use Rattle.canonical_graph.proofs.Raising.{arrows_lowered, kept_turned}
use Rattle.canonical_graph.proofs.tables.Targets.of.Goals as goal

pub turned-requires-clause-arrows : goal.turned-requires-clause-arrows
turned-requires-clause-arrows c =
    arrows_lowered (finished_graph c.args.steps.now c.args.codes.now) c.rank-indices.result c.args.lowered.arrows c.args.lowered.ranks.items c.as_slice.result.now
    c.requires.finished c.requires.lowered (c.rank-indices.ensures.rank ∙ ap (λ (t : CartanType). t.rank) c.cartan.ensures.cartan) c.as_slice.ensures.value

pub returns : goal.returns
returns c =
    kept_turned (finished_graph c.args.steps.now c.args.codes.now) c.rank-indices.result c.args.lowered.arrows c.args.lowered.ranks.items c.as_slice.result.now
    c.in_ok-raised.raised.items c.requires.finished c.requires.lowered (c.rank-indices.ensures.rank ∙ ap (λ (t : CartanType). t.rank) c.cartan.ensures.cartan)
    c.as_slice.ensures.value c.in_ok-raised.ensures
