-- The numbers, the stake and the cells that the table is told.
use Rattle.graph_rule.proofs.seat.Seat.part.Given as goal

abbrev pub ghosts-part_as : goal.ghosts-part_as
ghosts-part_as a = record { numbers = a.numbers; stake = a.stake; cells = a._cells.now }
