use Rattle.std.proofs.Common.{◌≡◌, ◌≤◌, ◌++◌, ◌∷◌, length, decimal, length-append, ap, arith}
use Rattle.std.proofs.lemmas.Fmt.{length-decimal-le}
use Rattle.std.proofs.lemmas.Grind.{common_steps}
use Rattle.answer_text.proofs.lines.print_behind_blank.Goals as goal

pub returns-clause-digit : goal.returns-clause-digit
returns-clause-digit c = λ low.
    let one : length (decimal c.args.number) ≤ 1 = length-decimal-le 1 c.args.number (omega arith) low (omega arith) in
    let text : c.number.new.self ≡ c.args.line.now ++ 32 ∷ decimal c.args.number = grind (arith, common_steps) in
    omega (arith, one, ap length text, length-append c.args.line.now (32 ∷ decimal c.args.number))
