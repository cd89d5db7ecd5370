use Rattle.wide_rule.proofs.steps.claim_second.Given as goal

abbrev pub ghosts-claim_second_as : goal.ghosts-claim_second_as
ghosts-claim_second_as a = record { cell = a.cell; code = a.code; origin = a._origin }
