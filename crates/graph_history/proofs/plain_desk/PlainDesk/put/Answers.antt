use Rattle.std.proofs.Common.{◌≢◌, ◌<◌, sym, subst, length, rules, arith}
use Rattle.tensor_words.specs.Spaces.{size}
use Rattle.graph_history.specs.History.{state_of, IsNew, IsOrigin}
use Rattle.graph_history.specs.Plain.{PlainValue}
use Rattle.graph_history.proofs.Keeping.{debts_few, desk_put}
use Rattle.graph_history.proofs.plain_desk.PlainDesk.put.Goals as goal

pub overflow_add-self : goal.overflow_add-self
overflow_add-self c = let few = debts_few _ _ _ _ _ _ _ c.self.invariant.0 in let cells = c.self.invariant.0.world.few in omega arith

pub invariant_of-self : goal.invariant_of-self
invariant_of-self c = (
  desk_put _ _ _ _ _ _ _ c.self.invariant.0 c.self.inside.caller c.args.code c.args.origin _ _ _ _ _ _ c.note-2.new.self c.note.ensures (search rules) (search rules) c.insert.ensures.spare (search rules) (search rules) (search rules)
      (subst (λ (v : PlainValue). c.args.code < size v.world.space) (sym c.self.view_is) c.requires.word)
      (subst (λ (v : PlainValue). IsNew (state_of v.front) c.args.code) (sym c.self.view_is) c.requires.fresh)
      (subst (λ (v : PlainValue). length (state_of v.front).vertices ≢ v.world.cells) (sym c.self.view_is) c.requires.free)
      (subst (λ (v : PlainValue). IsOrigin v.world (state_of v.front) c.args.code c.args.origin) (sym c.self.view_is) c.requires.origin),
  search rules,
)
