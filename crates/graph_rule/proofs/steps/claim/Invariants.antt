use Rattle.graph_rule.proofs.steps.claim.Given as goal

abbrev pub ghosts-claim_as : goal.ghosts-claim_as
ghosts-claim_as a = record { cell = a.cell; code = a.code; origin = a._origin }
