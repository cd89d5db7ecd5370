-- No cells are handed over.
use Rattle.std.proofs.Common.{◌∙◌, sym, subst, ℕ, nat_eq, List, [], Contains, arith}
use Rattle.std.specs.List.{IsDistinct}
use Rattle.list_facts.proofs.Lists.{none_twice}
use Rattle.growth_tests.proofs.tests.parcels.load.Goals as goal

pub hand-parcel-requires-clause-once : goal.hand-parcel-requires-clause-once
hand-parcel-requires-clause-once g c = subst (λ (l : List ℕ). IsDistinct nat_eq l) (sym (c.of.ensures ∙ c.new.ensures.items)) (none_twice nat_eq)

pub hand-parcel-requires-clause-unpaid : goal.hand-parcel-requires-clause-unpaid
hand-parcel-requires-clause-unpaid g c x there =
    let nothing : Contains [] x = subst (λ (l : List ℕ). Contains l x) (c.of.ensures ∙ c.new.ensures.items) there in
    let within = nothing.1 in
    absurd (omega arith)
