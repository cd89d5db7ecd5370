use Rattle.std.proofs.Common.{◌≡◌, ◌+◌, length, ℕ, subst, rules}
use Rattle.std.proofs.lemmas.Option.{IfSome_then}
use Rattle.parcel_deques.specs.Ends.{Each, IsBetween, StoleBetween}
use Rattle.parcel_deques.proofs.EndSteps.{tried_around, stole_first, stole_second, of_none, none_then}
use Rattle.parcel_deques.proofs.ends.steal_around.Goals as goal

pub returns-in-Some-clause-some : goal.returns-in-Some-clause-some
returns-in-Some-clause-some g c = let many : c.len-count.result ≡ length c.args.ends.now.items = search rules in
    stole_first c.args.number c.args.ends.now.items c.steal_between.new.ends.items c.in-Some.parcel
    (subst (λ (m : ℕ). StoleBetween (c.args.number + 1) m c.args.ends.now.items c.steal_between.new.ends.items c.in-Some.parcel) many c.in-Some.ensures.some)

pub returns-clause-none : goal.returns-clause-none
returns-clause-none g c = let many : c.len-count.result ≡ length c.args.ends.now.items = search rules in
    let after : Each (IsBetween (c.args.number + 1) c.len-count.result) c.args.ends.now.items c.steal_between.new.ends.items = of_none c.steal_between.result c.in_default.not-Some c.steal_between.ensures.none in
    none_then c.steal_between-2.result c.steal_between-2.ensures.none
    (tried_around c.args.number c.args.ends.now.items c.steal_between.new.ends.items c.steal_between-2.new.ends.items c.requires
    (subst (λ (m : ℕ). Each (IsBetween (c.args.number + 1) m) c.args.ends.now.items c.steal_between.new.ends.items) many after))

pub returns-clause-some : goal.returns-clause-some
returns-clause-some g c = let many : c.len-count.result ≡ length c.args.ends.now.items = search rules in
    let after : Each (IsBetween (c.args.number + 1) c.len-count.result) c.args.ends.now.items c.steal_between.new.ends.items = of_none c.steal_between.result c.in_default.not-Some c.steal_between.ensures.none in
    IfSome_then c.steal_between-2.result c.steal_between-2.ensures.some
    (stole_second c.args.number c.args.ends.now.items c.steal_between.new.ends.items c.steal_between-2.new.ends.items c.requires
    (subst (λ (m : ℕ). Each (IsBetween (c.args.number + 1) m) c.args.ends.now.items c.steal_between.new.ends.items) many after))
