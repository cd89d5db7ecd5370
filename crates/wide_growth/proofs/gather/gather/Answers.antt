-- The first of the growers that are left is taken in.
use Rattle.std.proofs.Common.{◌≡◌, ◌∙◌, ◌+◌, ◌<◌, ◌≤◌, ℕ, sym, ap, subst, List, ◌∷◌, ◌++◌, [], length, Result, Ok, Err, arith, rules}
use Rattle.std.proofs.lemmas.List.{nil_from_length}
use Rattle.wide_growth.specs.declared.drawing.OpenVertex.{OpenVertex}
use Rattle.wide_growth.specs.declared.drawing.Stop.{Stop}
use Rattle.wide_growth.specs.declared.work.Share.{Share}
use Rattle.wide_growth.proofs.Gathering.{IsGathering, first_of, few_more, gathering_next, gathered_all}
use Rattle.wide_growth.proofs.gather.gather.Goals as goal

pub overflow_add-arrows : goal.overflow_add-arrows
overflow_add-arrows c =
    let some : 0 < length c.shares.shares.items = search rules in
    let is : c.shares.shares.items ≡ Ok c.in-Ok.share ∷ c.remove.new.self.items =
    first_of c.shares.shares.items c.remove.new.self.items c.remove.result some c.remove.ensures.value c.remove.ensures.items ∙ ap (λ (r : Result Share Stop). r ∷ c.remove.new.self.items) c.in-Ok.is in
    let few = few_more c.args.graph.now c.args.seat.now c.shares.seat c.shares.seat c.args._waiting.now (length c.args.shares.items) c.shares.shares.items c.remove.new.self.items c.shares.added.items c.shares.arrows c.shares.invariant.gathering c.in-Ok.share is
    c.world-world.ensures.world c.requires.few in
    omega arith

pub shares-preserved : goal.shares-preserved
shares-preserved c =
    let some : 0 < length c.shares.shares.items = search rules in
    let is : c.shares.shares.items ≡ Ok c.in-Ok.share ∷ c.remove.new.self.items =
    first_of c.shares.shares.items c.remove.new.self.items c.remove.result some c.remove.ensures.value c.remove.ensures.items ∙ ap (λ (r : Result Share Stop). r ∷ c.remove.new.self.items) c.in-Ok.is in
    let more : c.extend_from_slice.new.self.items ≡ c.shares.added.items ++ c.in-Ok.share.added.items = search rules in
    record {
      gathering = subst (λ (l : List OpenVertex). IsGathering c.args.graph.now c.args.seat.now c.join.new.self c.args._waiting.now (length c.args.shares.items) c.remove.new.self.items l (c.shares.arrows + c.in-Ok.share.arrows)) (sym more)
          (gathering_next c.args.graph.now c.args.seat.now c.shares.seat c.join.new.self c.args._waiting.now (length c.args.shares.items) c.shares.shares.items c.remove.new.self.items c.shares.added.items c.shares.arrows
          c.shares.invariant.gathering c.in-Ok.share is c.join.ensures.table c.join.ensures.view c.join.ensures.front.0 c.join.ensures.front.1);
    }

pub returns-clause-gathered : goal.returns-clause-gathered
returns-clause-gathered c =
    let none : c.shares.shares.items ≡ [] = nil_from_length c.shares.shares.items (search rules) in
    gathered_all c.args.graph.now c.args.seat.now c.shares.seat c.args._waiting.now (length c.args.shares.items) c.shares.shares.items c.shares.added.items c.shares.arrows none c.shares.invariant.gathering
