use Rattle.std.proofs.Common.{Contains, sym, subst, rules, arith}
use Rattle.graph_history.specs.History.{state_of, IsWhole}
use Rattle.graph_history.specs.Plain.{PlainValue, unpaid_of}
use Rattle.graph_history.proofs.Drawing.{did_one}
use Rattle.graph_history.proofs.Keeping.{desk_settle, debts_some}
use Rattle.graph_history.proofs.plain_desk.PlainDesk.pay_debt.Goals as goal

pub overflow_sub-self : goal.overflow_sub-self
overflow_sub-self c = debts_some _ _ _ _ _ _ _ c.self.invariant.0 c.args.cell
    (subst (λ (v : PlainValue). Contains (unpaid_of v.front) c.args.cell) (sym c.self.view_is) c.requires.unpaid)

pub invariant_of-self : goal.invariant_of-self
invariant_of-self c = let unpaid = subst (λ (v : PlainValue). Contains (unpaid_of v.front) c.args.cell) (sym c.self.view_is) c.requires.unpaid in
    let some = debts_some _ _ _ _ _ _ _ c.self.invariant.0 c.args.cell unpaid in (
      desk_settle _ _ _ _ _ _ _ c.self.invariant.0 _ _ _ _ c.note.ensures (omega arith) unpaid
          (subst (λ (v : PlainValue). IsWhole v.world (state_of v.front) c.args.cell) (sym c.self.view_is) c.requires.whole),
      search rules,
    )

pub returns : goal.returns
returns c = did_one c.args.self.now _ _ (search rules) c.known.ensures.legal
