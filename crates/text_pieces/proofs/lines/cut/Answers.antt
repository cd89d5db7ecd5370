use Rattle.std.proofs.Common.{rules, ◌+◌}
use Rattle.text_pieces.proofs.Cuts.{split_some, split_none, before_some, none_at_all}
use Rattle.std.proofs.lemmas.List.{take_rest}
use Rattle.text_pieces.proofs.lines.cut.Goals as goal

pub returns-in-Some-clause-pieces : goal.returns-in-Some-clause-pieces
returns-in-Some-clause-pieces c = rw (take_rest c.args.text.now (c.in-Some.place + 1)) (split_some c.args.separator c.args.text.now c.in-Some.place (search rules))

pub returns-in-Some-clause-whole : goal.returns-in-Some-clause-whole
returns-in-Some-clause-whole c = before_some c.args.separator c.args.text.now c.in-Some.place (search rules)

pub returns-in-None-clause-pieces : goal.returns-in-None-clause-pieces
returns-in-None-clause-pieces c = split_none c.args.separator c.args.text.now (search rules)

pub returns-in-None-clause-whole : goal.returns-in-None-clause-whole
returns-in-None-clause-whole c = none_at_all c.args.separator c.args.text.now (search rules)
