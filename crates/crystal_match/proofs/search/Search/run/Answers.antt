use Rattle.std.proofs.Common.{sym, subst, arith}
use Rattle.crystal_match.specs.declared.search.Search.{Search}
use Rattle.crystal_match.specs.Search.{IsSearching}
use Rattle.crystal_match.proofs.Stepping.{next_level}
use Rattle.crystal_match.proofs.search.Search.run.Goals as goal
use Rattle.crystal_match.proofs.search.Search.run.Goals.{then-self+else-len-limit, else-self}

pub expand-requires-clause-searching : goal.expand-requires-clause-searching
expand-requires-clause-searching c =
    let inv = c.levels.invariant in
    elim c.if-self.branch [
      | then-self+else-len-limit w ↦
          subst (λ (s : Search). IsSearching c.levels.both 0 s) (sym w.self-is)
          (rw w.len-self.ensures.len (next_level c.levels.both c.levels.self.at c.levels.self.end c.levels.self.found c.levels.self.origins.items inv.searching w.if-self.true
          (omega (arith, c.levels-test.true, c.len.ensures.len))))
      | else-self w ↦ subst (λ (s : Search). IsSearching c.levels.both 0 s) (sym w.self-is) inv.searching
    ]
