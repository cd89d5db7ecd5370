use Rattle.wide_rule.proofs.steps.claim_first.Given as goal

abbrev pub ghosts-claim_first_as : goal.ghosts-claim_first_as
ghosts-claim_first_as a = record { cell = a.cell; code = a.code; origin = a._origin }
