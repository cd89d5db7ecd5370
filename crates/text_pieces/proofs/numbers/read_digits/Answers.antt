use Rattle.std.proofs.Common.{arith, ◌≤◌, ◌^◌, lit<}
use Rattle.std.proofs.Math.Nat.{pow-le-pow_right}
use Rattle.text_pieces.proofs.numbers.read_digits.Goals as goal

pub returns-clause-below : goal.returns-clause-below
returns-clause-below c =
    let early : c.loop-byte.byte-index ≤ c.args.most = omega arith in
    let most : 10 ^ c.loop-byte.byte-index ≤ 10 ^ c.args.most = pow-le-pow_right (lit< tt) early in
    omega arith
