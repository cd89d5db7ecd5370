use Rattle.std.specs.Prelude.{None}
use Rattle.wide_rule.proofs.edges.load_edge.Given as goal

abbrev pub ghosts-load_edge_as : goal.ghosts-load_edge_as
ghosts-load_edge_as a = record { cell = a.cell; arrow = a.arrow; target = None }
