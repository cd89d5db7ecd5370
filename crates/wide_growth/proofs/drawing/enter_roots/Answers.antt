-- A further root is put in.
use Rattle.std.proofs.Common.{◌≡◌, sym, subst, List, get_or, take, All}
use Rattle.std.proofs.lemmas.List.{take_all}
use Rattle.std.proofs.lemmas.List.Elements.{All-more}
use Rattle.wide_words.specs.declared.spaces.WideCode.{WideCode}
use Rattle.wide_growth.proofs.Going.{goes_then}
use Rattle.wide_growth.proofs.Drawn.{IsIn, in_later}
use Rattle.wide_growth.proofs.drawing.enter_roots.Goals as goal

pub roots-preserved : goal.roots-preserved
roots-preserved c =
    let i = c.roots.invariant in
    let none : WideCode = record { high = 0; low = 0 } in
    record {
      goes = goes_then c.args.seat.now c.roots.seat c.enter.new.seat c.args.added.now.items c.roots.added.items c.enter.new.added.items i.goes c.in-Ok.ensures.goes;
      entered = All-more (IsIn c.args.graph.now.world.space c.enter.new.seat.view.front) c.roots-roots.result.now c.roots.root-index none c.roots-test.true
          (in_later c.args.graph.now.world.space c.roots.seat.view.front c.enter.new.seat.view.front (take c.roots.root-index c.roots-roots.result.now) c.in-Ok.ensures.goes.front i.entered)
          (c.in-Ok.field-0, c.in-Ok.ensures.there);
      are = i.are;
    }

pub returns-clause-there : goal.returns-clause-there
returns-clause-there c =
    let i = c.roots.invariant in
    subst (λ (l : List WideCode). All (IsIn c.args.graph.now.world.space c.roots.seat.view.front) l) i.are
    (subst (λ (l : List WideCode). All (IsIn c.args.graph.now.world.space c.roots.seat.view.front) l) (take_all c.roots.root-index c.roots-roots.result.now c.roots-test.false) i.entered)
