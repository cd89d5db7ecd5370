use Rattle.std.proofs.Common.{ℕ, List, subst}
use Rattle.plain_growth.specs.Growth.{AddsCode}
use Rattle.plain_growth.proofs.Adding.{adds_code}
use Rattle.plain_growth.proofs.found.FoundCodes.add.Goals as goal

pub returns-clause-added : goal.returns-clause-added
returns-clause-added c =
    subst (λ (old : List ℕ). AddsCode old c.args.code c.insert_full.new.self.keys) c.self.view_is
    (adds_code c.self.inside.codes.keys c.insert_full.new.self.keys c.args.code c.in_ok-place.ensures.keys)
