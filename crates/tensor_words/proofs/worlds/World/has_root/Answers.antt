use Rattle.std.proofs.Common.{ap}
use Rattle.tensor_words.specs.Worlds.{WorldType}
use Rattle.tensor_words.proofs.Rising.{root_found}
use Rattle.tensor_words.proofs.worlds.World.has_root.Goals as goal

pub returns : goal.returns
returns c =
    root_found _ c.self.inside.roots c.args.self.now.roots c.args.code c.binary_search.result c.is_ok.result
    c.as_slice.ensures (ap (λ (w : WorldType). w.roots) c.self.view_is) c.self.invariant.ascending c.binary_search.ensures.position c.is_ok.ensures.value
