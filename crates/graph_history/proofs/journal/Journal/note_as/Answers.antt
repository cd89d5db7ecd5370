use Rattle.std.proofs.Common.{refl, [], ◌∷◌, ◌++◌, arith}
use Rattle.atomic_table.specs.Table.{keeps}
use Rattle.graph_history.proofs.journal.Journal.note_as.Goals as goal

pub load-requires : goal.load-requires
load-requires g c = (
  c.self.invariant.1,
  omega arith,
  λ s holds homes view word.
      (record c.self.inside.token.me.0 { front = c.self.inside.token.me.0.front ++ g.N.Noting.event ∷ [] }, keeps, tt, tt, refl),
)
