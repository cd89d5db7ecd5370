use Rattle.std.proofs.Common.{sym, subst}
use Rattle.graph_history.specs.History.{state_of, HasVertex, IsNew}
use Rattle.graph_history.specs.Plain.{PlainValue}
use Rattle.graph_history.proofs.Keeping.{kept_new, kept_found}
use Rattle.graph_history.proofs.plain_desk.PlainDesk.seek.Goals as goal

pub returns-in_err-place : goal.returns-in_err-place
returns-in_err-place c = rw c.from_residual.ensures (subst (λ (v : PlainValue). IsNew (state_of v.front) c.args.code) c.self.view_is
    (kept_new _ _ _ _ c.self.invariant.0.kept c.args.code (sym c.in_err-place.ensures.found)))

pub returns : goal.returns
returns c = subst (λ (v : PlainValue). HasVertex (state_of v.front) c.in_ok-place.place c.args.code) c.self.view_is
    (kept_found _ _ _ _ c.self.invariant.0.kept c.args.code c.in_ok-place.place (sym c.in_ok-place.ensures.index))
