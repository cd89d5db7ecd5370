use Rattle.std.proofs.Common.{◌≡◌, ◌++◌, ap, length, length-append, rules, arith}
use Rattle.std.proofs.lemmas.Grind.{common_steps}
use Rattle.tableau_reading.specs.Texts.{half_text}
use Rattle.tableau_reading.proofs.Coordinates.{half_short}
use Rattle.tableau_reading.proofs.printing.print_half.Goals as goal

pub returns-then-doubled-eq0-clause-fits : goal.returns-then-doubled-eq0-clause-fits
returns-then-doubled-eq0-clause-fits c =
    let text : c.number.new.self ≡ c.args.out.now ++ half_text c.args.doubled = search rules in
    omega (arith, ap length text, length-append c.args.out.now (half_text c.args.doubled), half_short c.args.doubled c.requires.small)

pub returns-else-doubled-eq0-clause-fits : goal.returns-else-doubled-eq0-clause-fits
returns-else-doubled-eq0-clause-fits c =
    let text : c.text.new.self ≡ c.args.out.now ++ half_text c.args.doubled = grind (arith, common_steps) in
    omega (arith, ap length text, length-append c.args.out.now (half_text c.args.doubled), half_short c.args.doubled c.requires.small)
