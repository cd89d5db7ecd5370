use Rattle.parcel_deques.proofs.BenchSteps.{drain_bench, drain_some, drain_few, drain_none, drain_all}
use Rattle.parcel_deques.proofs.bench.Bench.drain.Goals as goal

pub invariant_of-self : goal.invariant_of-self
invariant_of-self g c = drain_bench c.self.inside.own c.pop.new.self c.self.inside.ends.items c.self.invariant c.args.self.now c.self.view_is c.pop.ensures.same c.pop.result c.pop.ensures.rule

pub returns-clause-some : goal.returns-clause-some
returns-clause-some g c = drain_some c.self.inside.own c.pop.new.self c.self.inside.ends.items c.self.invariant c.args.self.now c.self.view_is c.pop.ensures.same c.pop.result c.pop.ensures.rule

pub returns-clause-few : goal.returns-clause-few
returns-clause-few g c = drain_few c.self.inside.own c.pop.new.self c.self.inside.ends.items c.self.invariant c.args.self.now c.self.view_is c.pop.ensures.same c.pop.result c.pop.ensures.rule

pub returns-clause-none : goal.returns-clause-none
returns-clause-none g c = drain_none c.self.inside.own c.pop.new.self c.self.inside.ends.items c.self.invariant c.args.self.now c.self.view_is c.pop.ensures.same c.pop.result c.pop.ensures.rule

pub returns-clause-all : goal.returns-clause-all
returns-clause-all g c = drain_all c.self.inside.own c.pop.new.self c.self.inside.ends.items c.self.invariant c.args.self.now c.self.view_is c.pop.ensures.same c.pop.result c.pop.ensures.rule
