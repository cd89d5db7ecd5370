use Rattle.std.proofs.Common.{sym, subst, rules}
use Rattle.graph_history.specs.History.{state_of, IsLegalAct}
use Rattle.graph_history.specs.Plain.{PlainValue}
use Rattle.graph_history.proofs.Drawing.{did_one}
use Rattle.graph_history.proofs.Keeping.{desk_note}
use Rattle.graph_history.proofs.plain_desk.PlainDesk.note.Goals as goal

pub invariant_of-self : goal.invariant_of-self
invariant_of-self c = (
  desk_note _ _ _ _ _ _ _ c.self.invariant.0 _ _ _ c.note.ensures
      (subst (λ (v : PlainValue). IsLegalAct v.world (state_of v.front) c.args.act) (sym c.self.view_is) c.requires.legal)
      c.requires.quiet,
  search rules,
)

pub returns-clause-does : goal.returns-clause-does
returns-clause-does c = did_one c.args.self.now _ c.args.act (search rules) c.known.ensures.legal
