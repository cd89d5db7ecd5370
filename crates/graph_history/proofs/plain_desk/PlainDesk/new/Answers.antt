use Rattle.std.proofs.Common.{rules}
use Rattle.graph_history.proofs.Keeping.{desk_first}
use Rattle.graph_history.proofs.plain_desk.PlainDesk.new.Goals as goal

pub invariant_of-result : goal.invariant_of-result
invariant_of-result c = (desk_first _ _ _ _ _ _ _ (search rules) (search rules) (search rules) (search rules) (search rules) (search rules) (search rules), search rules)
