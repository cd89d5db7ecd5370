-- The parcels are for the graph of the call.
use Rattle.growth_tests.proofs.tests.gatherings.stolen_parcels_come_home.Given as goal

abbrev pub ghosts-steal_across : goal.ghosts-steal_across
ghosts-steal_across g a = record { graph = a.graph.now }
