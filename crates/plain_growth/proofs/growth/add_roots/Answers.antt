use Rattle.std.proofs.Common.{◌∙◌, ap, ℕ, List, get_or, arith}
use Rattle.plain_growth.proofs.Expanding.{more_roots}
use Rattle.plain_growth.proofs.growth.add_roots.Goals as goal

pub roots-preserved : goal.roots-preserved
roots-preserved c = record {
  have =
      more_roots c.args.world.now.roots c.roots.found c.add.new.self c.roots.k c.at.result.now
      (omega (arith, c.roots-test.true, c.roots.invariant.last))
      (c.at.ensures.value 0 ∙ ap (λ (xs : List ℕ). get_or xs c.roots.k 0) c.roots.invariant.same) c.roots.invariant.have c.in_ok-add.ensures.added;
  same = c.roots.invariant.same;
  last = c.roots.invariant.last;
}
