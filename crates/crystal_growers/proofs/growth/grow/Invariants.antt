-- The graph for which the parcels are named.
use Rattle.crystal_growers.proofs.growth.grow.Given as goal

abbrev pub ghosts-grow_by : goal.ghosts-grow_by
ghosts-grow_by g a = record { graph = a.graph.now }
