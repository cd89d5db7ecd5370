use Rattle.parcel_deques.proofs.StealSteps.{steal_bench, steal_same, steal_some, steal_none}
use Rattle.parcel_deques.proofs.bench.Bench.steal.Goals as goal

pub invariant_of-self : goal.invariant_of-self
invariant_of-self g c = steal_bench c.self.inside.own c.self.inside.ends.items c.steal_around.new.ends.items c.self.invariant c.args.self.now c.self.view_is c.number-number.result c.number-number.ensures.number c.steal_around.result c.steal_around.ensures.none c.steal_around.ensures.some

pub returns-clause-same : goal.returns-clause-same
returns-clause-same g c = steal_same c.self.inside.own c.self.inside.ends.items c.steal_around.new.ends.items c.self.invariant c.args.self.now c.self.view_is c.number-number.result c.number-number.ensures.number c.steal_around.result c.steal_around.ensures.none c.steal_around.ensures.some

pub returns-clause-some : goal.returns-clause-some
returns-clause-some g c = steal_some c.self.inside.own c.self.inside.ends.items c.steal_around.new.ends.items c.self.invariant c.args.self.now c.self.view_is c.number-number.result c.number-number.ensures.number c.steal_around.result c.steal_around.ensures.some

pub returns-clause-none : goal.returns-clause-none
returns-clause-none g c = steal_none c.self.inside.own c.self.inside.ends.items c.steal_around.new.ends.items c.self.invariant c.args.self.now c.self.view_is c.number-number.result c.number-number.ensures.number c.steal_around.result c.requires c.steal_around.ensures.none
