-- One part more is loaded, or comes back.
use Rattle.std.proofs.Common.{◌≡◌, ◌∙◌, ◌<◌, sym, subst, ℕ, List, ◌++◌, Contains, arith}
use Rattle.std.proofs.lemmas.List.Elements.{Contains-append_left, Contains-append_right}
use Rattle.crystal_growers.specs.Drawing.{IsWaiting}
use Rattle.crystal_growers.proofs.Acting.{offers_none, offers_then}
use Rattle.crystal_growers.proofs.Waiting.{split_at, can_hand, waits_handed}
use Rattle.crystal_growers.proofs.Running.{offer_loaded, offer_refused}
use Rattle.crystal_growers.proofs.grower.offering.offer.Goals as goal

pub parts-init : goal.parts-init
parts-init g c = record {
  offered = offers_none c.args.graph.now c.args.seat.now c.args.bench.now c.args.cells.items c.requires.waiting.can.belongs c.reveal.ensures.known c.requires.waiting.can.pledge;
  waits = c.requires.waiting;
  among = λ x h. h;
}

pub load_cells-requires-clause-can : goal.load_cells-requires-clause-can
load_cells-requires-clause-can g c =
    can_hand c.args.graph.now c.parts.seat c.parts.seat c.split_off.new.self.items c.in_ok-part.part.items
    (subst (λ (l : List ℕ). IsWaiting c.args.graph.now l c.parts.seat) (split_at _ _ _ _ c.in_ok-part.ensures.items c.in_ok-part.ensures.tail) c.parts.invariant.waits)

pub returns-in-Some-clause-offered : goal.returns-in-Some-clause-offered
returns-in-Some-clause-offered g c =
    let i = c.parts.invariant in
    let l = c.in-Some.ensures in
    let split : c.parts.rest.items ≡ c.split_off.new.self.items ++ c.in_ok-part.part.items = split_at _ _ _ _ c.in_ok-part.ensures.items c.in_ok-part.ensures.tail in
    let some : 1 < c.parts.seat.view.stake = omega arith in
    offers_then c.args.graph.now c.args.seat.now c.parts.seat c.take_in-cells.new.seat c.args.bench.now c.parts.bench c.load_cells.new.bench c.args.cells.items i.offered
    (offer_refused c.args.graph.now c.parts.seat c.load_cells.new.seat c.take_in-cells.new.seat c.parts.bench c.load_cells.new.bench c.args.cells.items c.in_ok-part.part.items c.in-Some.parcel
    i.waits.can.belongs i.waits.can.pledge l.table l.view l.known some l.loaded.0 l.loaded.2
    (λ x h. i.among x (subst (λ (k : List ℕ). Contains k x) (sym split) (Contains-append_right c.split_off.new.self.items c.in_ok-part.part.items x h))) c.take_in-cells.ensures.works)

pub returns-in-Some-clause-waiting : goal.returns-in-Some-clause-waiting
returns-in-Some-clause-waiting g c =
    let l = c.in-Some.ensures in
    let rest : List ℕ = c.split_off.new.self.items in
    let waits = subst (λ (k : List ℕ). IsWaiting c.args.graph.now k c.parts.seat) (split_at _ _ _ _ c.in_ok-part.ensures.items c.in_ok-part.ensures.tail) c.parts.invariant.waits in
    let items : c.extend_from_slice.new.self.items ≡ rest ++ c.as_slice.result.now = c.in_ok-extend_from_slice.ensures.items in
    let cells : c.as_slice.result.now ≡ c.in-Some.parcel.cells = c.as_slice.ensures ∙ c.take_in-cells.ensures.cells in
    subst (λ (k : List ℕ). IsWaiting c.args.graph.now k c.take_in-cells.new.seat) (sym items)
    (subst (λ (k : List ℕ). IsWaiting c.args.graph.now (rest ++ k) c.take_in-cells.new.seat) (sym cells)
    (c.take_in-cells.ensures.waits rest (waits_handed c.args.graph.now c.parts.seat c.load_cells.new.seat rest c.in_ok-part.part.items waits l.table l.view l.known)))

pub parts-preserved : goal.parts-preserved
parts-preserved g c =
    let i = c.parts.invariant in
    let l = c.in_default.ensures in
    let rest : List ℕ = c.split_off.new.self.items in
    let part : List ℕ = c.in_ok-part.part.items in
    let split : c.parts.rest.items ≡ rest ++ part = split_at _ _ _ _ c.in_ok-part.ensures.items c.in_ok-part.ensures.tail in
    let waits = subst (λ (k : List ℕ). IsWaiting c.args.graph.now k c.parts.seat) split i.waits in
    let some : 1 < c.parts.seat.view.stake = omega arith in
    record {
      offered = offers_then c.args.graph.now c.args.seat.now c.parts.seat c.load_cells.new.seat c.args.bench.now c.parts.bench c.load_cells.new.bench c.args.cells.items i.offered
          (offer_loaded c.args.graph.now c.parts.seat c.load_cells.new.seat c.parts.bench c.load_cells.new.bench c.args.cells.items part l.loaded.0 i.waits.can.belongs i.waits.can.pledge l.table l.view l.known some l.loaded.1 l.loaded.3
          (λ x h. i.among x (subst (λ (k : List ℕ). Contains k x) (sym split) (Contains-append_right rest part x h))));
      waits = waits_handed c.args.graph.now c.parts.seat c.load_cells.new.seat rest part waits l.table l.view l.known;
      among = λ x h. i.among x (subst (λ (k : List ℕ). Contains k x) (sym split) (Contains-append_left rest part x h));
    }
