use Rattle.std.proofs.Common.{◌≡◌, ◌+◌, ◌-◌, get_or, ap, ◌∙◌, arith}
use Rattle.signature_rule.proofs.Vectors.{differences, length-differences, entry-differences, length-sums, entry-sums}
use Rattle.signature_rule.proofs.places.open_behind.Goals as goal

pub returns-clause-size : goal.returns-clause-size
returns-clause-size c =
    length-sums (differences c.args.unclosed c.args.closing) c.args.opening
    (length-differences c.args.unclosed c.args.closing c.fits-unclosed.0 c.fits-closing.0) c.fits-opening.0

pub returns-clause-entries : goal.returns-clause-entries
returns-clause-entries c j lt =
    let still : get_or (differences c.args.unclosed c.args.closing) j 0 ≡ get_or c.args.unclosed j 0 - get_or c.args.closing j 0 =
    entry-differences c.args.unclosed c.args.closing j c.fits-unclosed c.fits-closing lt in
    entry-sums (differences c.args.unclosed c.args.closing) c.args.opening j
    (length-differences c.args.unclosed c.args.closing c.fits-unclosed.0 c.fits-closing.0) c.fits-opening.0 lt
    (omega (arith, still, c.requires.few j, c.requires.few_opening j))
    ∙ ap (λ m. m + get_or c.args.opening j 0) still
