use Rattle.wide_rule.proofs.steps.seek_room_first.Given as goal

abbrev pub ghosts-seek_room_first_as : goal.ghosts-seek_room_first_as
ghosts-seek_room_first_as a = record { cell = a.cell; code = a.code; origin = a._origin }
