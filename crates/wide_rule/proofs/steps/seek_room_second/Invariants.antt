use Rattle.wide_rule.proofs.steps.seek_room_second.Given as goal

abbrev pub ghosts-seek_room_second_as : goal.ghosts-seek_room_second_as
ghosts-seek_room_second_as a = record { cell = a.cell; code = a.code; origin = a._origin }
