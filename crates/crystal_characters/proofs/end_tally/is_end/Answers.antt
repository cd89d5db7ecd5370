use Rattle.std.proofs.Common.{◌+◌, arith, rules}
use Rattle.crystal_characters.specs.Reports.{is_end_at}
use Rattle.crystal_characters.proofs.Ends.{all_more, one_fails}
use Rattle.crystal_characters.proofs.end_tally.is_end.Goals as goal

pub returns-then-not-is_end_at : goal.returns-then-not-is_end_at
returns-then-not-is_end_at c =
    one_fails (is_end_at c.args.item.now) 1 c.args.item.now.cartan.rank c.indices.place (c.indices.place + 1)
    (omega (arith, c.rank-place-end.ensures.rank)) (omega arith) (search rules)

pub indices-preserved : goal.indices-preserved
indices-preserved c =
    all_more (is_end_at c.args.item.now) 1 c.indices.place (c.indices.place + 1) (omega arith) c.indices.invariant (search rules)
