use Rattle.std.proofs.Common.{sym, subst, rules}
use Rattle.graph_history.specs.History.{state_of, MayDraw}
use Rattle.graph_history.specs.Plain.{PlainValue}
use Rattle.graph_history.proofs.Keeping.{desk_mark}
use Rattle.graph_history.proofs.plain_desk.PlainDesk.mark.Goals as goal

pub invariant_of-self : goal.invariant_of-self
invariant_of-self c = (
  desk_mark _ _ _ _ _ _ _ c.self.invariant.0 c.self.inside.caller c.args.cell c.args.arrow c.args.to _ _ _ c.note.ensures (search rules) c.word_of.ensures
      (subst (λ (v : PlainValue). MayDraw v.world (state_of v.front) c.args.cell c.args.arrow c.args.to) (sym c.self.view_is) c.requires),
  search rules,
)
