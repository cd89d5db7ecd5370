use Rattle.std.proofs.Common.{◌≡◌, get_or, subst, arith}
use Rattle.std.proofs.lemmas.Grind.{common_steps}
use Rattle.tensor_words.specs.declared.spaces.Factor.TheVariants.{Vector}
use Rattle.tensor_words.specs.Spaces.{IsSpace, has_factor, factor_at}
use Rattle.tensor_words.proofs.Sizes.{all_at}
use Rattle.tensor_words.proofs.spaces.Space.factor.Goals as goal

pub returns-clause-had : goal.returns-clause-had
returns-clause-had c =
    let space : IsSpace c.args.self.now = subst IsSpace c.self.view_is c.self.invariant.0 in
    let same : get_or c.self.inside.factors c.args.place Vector ≡ factor_at c.args.self.now c.args.place = grind (arith, common_steps) in
    rw same (all_at (has_factor c.args.self.now.cartan.kind) c.args.self.now.factors c.args.place Vector c.requires space.had)
