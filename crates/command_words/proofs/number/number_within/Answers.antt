-- A numeral at which the parse fails is above the range of its type.
use Rattle.std.proofs.Common.{rules}
use Rattle.command_words.proofs.NumberLemmas.{none_parsed}
use Rattle.command_words.proofs.number.number_within.Goals as goal

pub returns-in_default-3 : goal.returns-in_default-3
returns-in_default-3 c = none_parsed c.args.most c.args.low c.args.high c.args.text.now c.parse.result c.in_default.field-0 c.ranges.high.fits c.parse.ensures.value.0 (search rules) (search rules)
