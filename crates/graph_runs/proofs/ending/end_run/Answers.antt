use Rattle.std.proofs.Common.{◌≡◌, subst, false, Bool, rules}
use Rattle.crystal_growers.specs.declared.growth.Grown.{Grown}
use Rattle.graph_runs.specs.Ending.{IsLeft, AllThere}
use Rattle.graph_runs.proofs.Endings.{over_spent, over_left, over_ok}
use Rattle.graph_runs.proofs.ending.end_run.Goals as goal

pub returns-then-not-all : goal.returns-then-not-all
returns-then-not-all g c =
    let e = c.in_ok-all.ensures in
    let no : c.in_ok-all.all ≡ false = search rules in
    over_spent c.args.graph.now c.args.seat.now c.enter_roots.new.seat c.args.growers c.requires.can e.acts e.worked
    (subst (λ (all : Bool). AllThere c.args.graph.now.world c.enter_roots.new.seat all) no e.there)

pub returns-in-Full : goal.returns-in-Full
returns-in-Full g c =
    let e = c.in_ok-all.ensures in
    over_left c.args.graph.now c.args.seat.now c.enter_roots.new.seat c.args.growers c.requires.can e.acts e.worked
    (subst (λ (grown : Grown). IsLeft c.args.seat.now c.args.cells.items grown) c.in-Full.is c.requires.left)

pub returns-in-Closed : goal.returns-in-Closed
returns-in-Closed g c =
    let e = c.in_ok-all.ensures in
    over_ok c.args.graph.now c.args.seat.now c.enter_roots.new.seat c.args.growers c.requires.can e.acts e.worked c.grow_rest.new.seat c.grow_rest.result c.grow_rest.ensures
