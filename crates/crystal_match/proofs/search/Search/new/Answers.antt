use Rattle.crystal_match.proofs.Stepping.{begun, entered_first}
use Rattle.crystal_match.proofs.search.Search.new.Goals as goal

pub returns-clause-begun : goal.returns-clause-begun
returns-clause-begun c =
    let one = entered_first c.marks.result c.new-found.result c.add.new.self c.in_ok-add.field-0 c.new-found.ensures c.in_ok-add.ensures in
    rw (one, c.marks.ensures.marks, c.new.ensures.items) (begun c.args.both.now c.marks.ensures.pointed)
