use Rattle.parcel_deques.proofs.owner.another.Given as goal

abbrev pub ghosts-another_as : goal.ghosts-another_as
ghosts-another_as g a = record { deque = a._deque; taker = a._taker }
