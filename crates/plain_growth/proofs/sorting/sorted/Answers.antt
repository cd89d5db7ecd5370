use Rattle.std.proofs.Common.{rules}
use Rattle.std.proofs.lemmas.List.Sorted.{IsNonDecreasingBy-from_sort_by_key, All-permutation}
use Rattle.plain_growth.specs.Growth.{IsPlacedCode}
use Rattle.plain_growth.proofs.Scattering.{sorted_codes}
use Rattle.plain_growth.proofs.sorting.sorted.Goals as goal

pub returns-clause-sorted : goal.returns-clause-sorted
returns-clause-sorted c =
    sorted_codes c.args.found.now c.in_ok-list.list.items c.sort_unstable_by_key.new.self.items c.in_ok-list.ensures.codes c.in_ok-list.ensures.distinct
    c.sort_unstable_by_key.ensures.permutation
    (IsNonDecreasingBy-from_sort_by_key (λ x. x.code) _ c.sort_unstable_by_key.ensures.sorted (λ a r q k. search rules))

pub returns-clause-placed : goal.returns-clause-placed
returns-clause-placed c =
    All-permutation (IsPlacedCode c.args.found.now) c.in_ok-list.list.items c.sort_unstable_by_key.new.self.items c.sort_unstable_by_key.ensures.permutation
    c.in_ok-list.ensures.placed
