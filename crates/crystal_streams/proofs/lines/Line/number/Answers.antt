use Rattle.std.proofs.Common.{◌≡◌, ℕ, ℤ, pos, negsuc, ◌+◌, true, List, [], ◌∷◌, ◌++◌, arith, to_z, of_z, w64}
use Rattle.std.specs.Int.Signed.{le_z, lt_z}
use Rattle.std.proofs.Math.IntN.{nat_abs}
use Rattle.std.proofs.lemmas.Bool.Decides.{nat_tests}
use Rattle.std.proofs.lemmas.Int.{to_z-of_z}
use Rattle.std.proofs.lemmas.Fmt.{decimal_digit}
use Rattle.std.specs.Fmt.{signed_decimal, decimal}
use Rattle.crystal_streams.proofs.lines.Line.number.Goals as goal

digit_written :
    (z : ℤ) (xs ys : List ℕ) → le_z (pos 0) z ≡ true → lt_z z (pos 10) ≡ true → ys ≡ xs ++ (48 + nat_abs z) ∷ [] → ys ≡ xs ++ signed_decimal z
digit_written (pos n) xs ys low high is =
    let digit : decimal n ≡ (48 + n) ∷ [] = decimal_digit n (grind (arith, nat_tests)) in
    rw digit is
digit_written (negsuc n) xs ys low high is = cc

pub returns-then-value-lt10-clause-appends : goal.returns-then-value-lt10-clause-appends
returns-then-value-lt10-clause-appends c =
    let same : to_z w64 (of_z w64 c.args.value) ≡ c.args.value = to_z-of_z w64 c.args.value c.ranges.value in
    digit_written c.args.value c.args.self.now c.text.new.self (rw same at c.if-value-ge0.true) (rw same at c.if-value-lt10.true) (rw same at c.text.ensures)
