-- The parcels are for the graph of the call.
use Rattle.growth_tests.proofs.tests.parcels.parcels_come_in_order.Given as goal

abbrev pub ghosts-go_round : goal.ghosts-go_round
ghosts-go_round g a = record { graph = a.graph.now }
