use Rattle.std.proofs.Common.{◌≡◌, sym, ◌+◌, ◌-◌, get_or, arith}
use Rattle.std.proofs.lemmas.Int.{ints}
use Rattle.tensor_words.specs.TensorRule.{action}
use Rattle.crystal_subsets.proofs.BesideTests.{not_beside, test_by_beside}
use Rattle.crystal_subsets.proofs.tops.is_top.Goals as goal

pub pairing-requires-clause-whole : goal.pairing-requires-clause-whole
pairing-requires-clause-whole c =
    rw c.cartan-cartan.ensures.cartan (c.requires.whole (c.indices.place + 1) (record { low = omega arith; high = omega (arith, c.indices.invariant.last) }))

pub returns-then-from-pairing : goal.returns-then-from-pairing
returns-then-from-pairing c =
    let entry : c.indices.place + 1 - 1 ≡ c.indices.place = omega arith in
    let own = c.indices.invariant.strings.eps (c.indices.place + 1) (record { low = omega arith; high = omega (arith, c.indices.invariant.last) }) in
    let eps : get_or c.strings_of-strings.result.eps c.indices.place 0 ≡ (action c.args.steps.now (c.indices.place + 1)).eps c.args.word.now = rw entry at own in
    not_beside c.args.steps.now c.args.weight.now c.args.word.now (c.indices.place + 1)
    (record { low = omega arith; high = omega (arith, c.indices.invariant.last) })
    (λ within. omega (arith, ints, within, eps, c.from.ensures, rw c.cartan-cartan.ensures.cartan at c.pairing.ensures, c.if-from-pairing.true))

pub returns : goal.returns
returns c =
    sym (test_by_beside c.args.steps.now c.args.weight.now c.args.word.now
    (λ i index. c.indices.invariant.beside i index.low (omega (arith, index.high, c.indices.invariant.last))))
