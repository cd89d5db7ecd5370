use Rattle.std.proofs.Common.{◌≡◌, ◌+◌, ◌-◌, get_or, ap, ◌∙◌, arith}
use Rattle.signature_rule.proofs.Vectors.{differences, length-differences, entry-differences, length-sums, entry-sums}
use Rattle.signature_rule.proofs.places.left_behind.Goals as goal

pub returns-clause-size : goal.returns-clause-size
returns-clause-size c =
    length-sums c.args.before (differences c.args.closing c.args.unclosed) c.fits-before.0
    (length-differences c.args.closing c.args.unclosed c.fits-closing.0 c.fits-unclosed.0)

pub returns-clause-entries : goal.returns-clause-entries
returns-clause-entries c j lt =
    let new : get_or (differences c.args.closing c.args.unclosed) j 0 ≡ get_or c.args.closing j 0 - get_or c.args.unclosed j 0 =
    entry-differences c.args.closing c.args.unclosed j c.fits-closing c.fits-unclosed lt in
    entry-sums c.args.before (differences c.args.closing c.args.unclosed) j c.fits-before.0
    (length-differences c.args.closing c.args.unclosed c.fits-closing.0 c.fits-unclosed.0) lt
    (omega (arith, new, c.requires.few j, c.requires.few_closing j))
    ∙ ap (λ m. get_or c.args.before j 0 + m) new
