-- What comes back of the offer waits.
use Rattle.std.proofs.Common.{◌≡◌, subst, ℕ, Option, None, rules}
use Rattle.crystal_growers.specs.Drawing.{IsEnded}
use Rattle.crystal_growers.proofs.Acting.{offers_none}
use Rattle.crystal_growers.proofs.Running.{shared_of}
use Rattle.crystal_growers.proofs.grower.share.Goals as goal

pub returns-in-Some : goal.returns-in-Some
returns-in-Some g c =
    let d = c.args.drawn in (
      offers_none c.args.graph.now d.seat c.args.bench.now d.added.items c.requires.belongs c.reveal.ensures.known c.requires.pledge,
      subst (λ (f : Option ℕ). IsEnded c.args.graph.now d.added.items d.seat f) c.in-Some.is c.requires.ended,
    )

pub offer-requires-clause-waiting : goal.offer-requires-clause-waiting
offer-requires-clause-waiting g c =
    let d = c.args.drawn in
    let none : d.full ≡ None = search rules in
    subst (λ (f : Option ℕ). IsEnded c.args.graph.now d.added.items d.seat f) none c.requires.ended

pub returns-in-Ok : goal.returns-in-Ok
returns-in-Ok g c =
    let d = c.args.drawn in
    shared_of c.args.graph.now d.seat c.offer.new.seat c.args.bench.now c.offer.new.bench d.added.items c.draw_back.result c.offer.ensures.offered c.draw_back.ensures

pub returns-in-Err : goal.returns-in-Err
returns-in-Err g c = (c.offer.ensures.offered, tt)
