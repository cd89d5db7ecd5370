use Rattle.std.proofs.Common.{ap, ◌∙◌}
use Rattle.wide_words.specs.WideHistory.{WideWorldType}
use Rattle.table_tests.proofs.Roots.{root_at}
use Rattle.table_tests.proofs.tests.wide_worlds.root.Goals as goal

pub returns : goal.returns
returns c =
    root_at c.args.graph.now.world c.roots-roots.result.now c.args.place (record { high = 0; low = 0 }) c.world.ensures.world (c.roots-roots.ensures.roots ∙ ap (λ (w : WideWorldType). w.roots) c.world.ensures.value)
    c.if-place-roots.false
