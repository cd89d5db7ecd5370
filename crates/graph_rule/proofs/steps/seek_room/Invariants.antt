use Rattle.graph_rule.proofs.steps.seek_room.Given as goal

abbrev pub ghosts-seek_room_as : goal.ghosts-seek_room_as
ghosts-seek_room_as a = record { cell = a.cell; code = a.code; origin = a._origin }
