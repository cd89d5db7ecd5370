use Rattle.std.proofs.Common.{◌<◌, sym, subst, vec_capacity}
use Rattle.graph_history.specs.declared.answer.Added.TheVariants.{New}
use Rattle.shared_desk.specs.SharedDesks.{DeskValue}
use Rattle.shared_desk.proofs.SharedSteps.{shared_entered, unpaid_not_new, told_entry, spare_more, spare_less}
use Rattle.shared_desk.proofs.desk.SharedDesk.enter.Goals as goal

pub invariant_of-self : goal.invariant_of-self
invariant_of-self c =
    let some = subst (λ (v : DeskValue). 0 < v.room) (sym c.self.view_is) c.requires.room in
    shared_entered _ _ c.self.inside.seat c.add_near-answer.new.seat c.self.inside.room _ c.self.inside.added.items _ (vec_capacity c.self.inside.added) _ _ c.self.invariant c.in-New.ensures.table _ _ (New c.in-New.cell) c.in-New.ensures.entry
    c.push_reserved.ensures.items (spare_more _ _ _ _ _ _ c.push_reserved.ensures.items c.self.invariant.0.spare some c.push_reserved.ensures.capacity)

pub invariant_of-self-in_default : goal.invariant_of-self-in_default
invariant_of-self-in_default c =
    let some = subst (λ (v : DeskValue). 0 < v.room) (sym c.self.view_is) c.requires.room in
    shared_entered _ _ c.self.inside.seat c.add_near-answer.new.seat c.self.inside.room _ c.self.inside.added.items _ _ _ _ c.self.invariant c.add_near-answer.ensures.table _ _ c.add_near-answer.result c.add_near-answer.ensures.entry
    (unpaid_not_new c.add_near-answer.result c.self.inside.added.items c.in_default.not-New) (spare_less _ _ _ c.self.invariant.0.spare some)

pub returns-in-New : goal.returns-in-New
returns-in-New c =
    told_entry _ _ c.self.inside.seat c.add_near-answer.new.seat _ _ c.self.view_is c.in-New.ensures.table c.self.invariant.0.worked.pledge _ _ _ _ c.in-New.ensures.entry c.requires.room c.in-New.ensures.exact

pub returns-in_default : goal.returns-in_default
returns-in_default c =
    told_entry _ _ c.self.inside.seat c.add_near-answer.new.seat _ _ c.self.view_is c.add_near-answer.ensures.table c.self.invariant.0.worked.pledge _ _ _ _ c.add_near-answer.ensures.entry c.requires.room c.add_near-answer.ensures.exact
