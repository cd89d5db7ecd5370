use Rattle.std.proofs.Common.{◌∙◌, ap, sym, subst}
use Rattle.crystal_cartan.specs.Types.{CartanType}
use Rattle.canonical_graph.specs.Graphs.{IsFinished}
use Rattle.canonical_graph.proofs.Ranks.{target_below}
use Rattle.canonical_graph.proofs.Rows.{entry_seen, no_target, some_target}
use Rattle.canonical_graph.proofs.finished.Finished.arrow_at.Goals as goal

pub returns-then-target-clause-target : goal.returns-then-target-clause-target
returns-then-target-clause-target c =
    let read = entry_seen _ c.args.self.now _ _ _ c.args.rank c.entry-target.result c.rank-indices.result c.args.arrow c.self.invariant c.self.view_is c.requires.rank c.requires.arrow
    (c.rank-indices.ensures.rank ∙ ap (λ (t : CartanType). t.rank) c.cartan.ensures.cartan) c.entry-target.ensures in
    no_target c.args.self.now c.args.rank c.entry-target.result c.args.arrow (subst IsFinished c.self.view_is c.self.invariant.finished) read c.if-target.true

pub returns-else-target-clause-target : goal.returns-else-target-clause-target
returns-else-target-clause-target c =
    let read = entry_seen _ c.args.self.now _ _ _ c.args.rank c.entry-target.result c.rank-indices.result c.args.arrow c.self.invariant c.self.view_is c.requires.rank c.requires.arrow
    (c.rank-indices.ensures.rank ∙ ap (λ (t : CartanType). t.rank) c.cartan.ensures.cartan) c.entry-target.ensures in
    some_target c.args.self.now c.args.rank c.entry-target.result c.args.arrow read c.if-target.false

pub returns-else-target-clause-below : goal.returns-else-target-clause-below
returns-else-target-clause-below c =
    let read = entry_seen _ c.args.self.now _ _ _ c.args.rank c.entry-target.result c.rank-indices.result c.args.arrow c.self.invariant c.self.view_is c.requires.rank c.requires.arrow
    (c.rank-indices.ensures.rank ∙ ap (λ (t : CartanType). t.rank) c.cartan.ensures.cartan) c.entry-target.ensures in
    target_below c.args.self.now c.args.rank c.args.arrow c.entry-target.result
    (sym (some_target c.args.self.now c.args.rank c.entry-target.result c.args.arrow read c.if-target.false))
