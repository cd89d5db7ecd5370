-- The numbers and the stake that the table is told.
use Rattle.wide_rule.proofs.seat.WideSeat.split.Given as goal

abbrev pub ghosts-split_as : goal.ghosts-split_as
ghosts-split_as a = record { numbers = a.numbers; stake = a.stake }
