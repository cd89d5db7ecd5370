use Rattle.std.proofs.Common.{arith, ◌+◌, ◌≡◌, ◌≤◌, nat_lt, length, true}
use Rattle.std.proofs.lemmas.Bool.{lt-ltb}
use Rattle.std.proofs.lemmas.Int.{ints}
use Rattle.crystal_cartan.specs.Weights.{twice_pairing}
use Rattle.crystal_cartan.proofs.Coordinates.{small_at, rank_within}
use Rattle.crystal_cartan.proofs.types.Cartan.twice_pairing.Goals as goal

pub returns-then-i-last-clause-value : goal.returns-then-i-last-clause-value
unfolding twice_pairing
returns-then-i-last-clause-value c =
    let w = c.args.weight.now in
    let i = c.args.i in
    let enough : c.args.self.now.rank ≤ length w = omega (arith, rank_within c.args.self.now, c.requires.size) in
    let left = small_at w i (omega arith) (omega arith) c.requires.small in
    let right = small_at w (i + 1) (omega arith) (omega arith) c.requires.small in
    let test : nat_lt i c.args.self.now.rank ≡ true = lt-ltb i c.args.self.now.rank (omega arith) in
    rw test (omega (arith, ints, c.doubled_at.ensures, c.doubled_at-then-i-last.ensures, left, right))

pub returns-then-i-last-clause-small : goal.returns-then-i-last-clause-small
returns-then-i-last-clause-small c =
    let w = c.args.weight.now in
    let i = c.args.i in
    let enough : c.args.self.now.rank ≤ length w = omega (arith, rank_within c.args.self.now, c.requires.size) in
    let left = small_at w i (omega arith) (omega arith) c.requires.small in
    let right = small_at w (i + 1) (omega arith) (omega arith) c.requires.small in
    (omega (arith, ints, c.doubled_at.ensures, c.doubled_at-then-i-last.ensures, left, right), omega (arith, ints, c.doubled_at.ensures, c.doubled_at-then-i-last.ensures, left, right))
