use Rattle.wide_rule.proofs.edges.claim_edge.Given as goal

abbrev pub ghosts-claim_edge_as : goal.ghosts-claim_edge_as
ghosts-claim_edge_as a = record { cell = a.cell; arrow = a.arrow; target = a.to }
