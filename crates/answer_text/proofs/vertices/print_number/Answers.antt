use Rattle.std.proofs.Common.{◌≡◌, ◌≤◌, ◌++◌, length, decimal, length-append, ap, rules, arith}
use Rattle.std.proofs.lemmas.Fmt.{length-decimal-le}
use Rattle.answer_text.proofs.vertices.print_number.Goals as goal

pub returns-clause-fits : goal.returns-clause-fits
returns-clause-fits c =
    let digits : length (decimal c.args.value) ≤ 10 = length-decimal-le 10 c.args.value (omega arith) (omega (arith, c.ranges.value)) (omega (arith, c.ranges.value)) in
    let text : c.number.new.self ≡ c.args.out.now ++ decimal c.args.value = search rules in
    omega (arith, digits, ap length text, length-append c.args.out.now (decimal c.args.value))
