-- The parcel that was handed over is loaded, or comes back.
use Rattle.std.proofs.Common.{◌∙◌, ◌≤◌, ap, sym, subst, nat_eq, ℕ, List, length, Contains}
use Rattle.std.specs.List.{IsDistinct}
use Rattle.graph_rule.specs.Parting.{hand_left}
use Rattle.parcel_deques.specs.declared.parcel.Slip.{Slip}
use Rattle.parcel_deques.specs.Parcels.{tag_of, tagged}
use Rattle.crystal_growers.proofs.grower.offering.load_cells.Goals as goal

pub hand-parcel-requires-clause-few : goal.hand-parcel-requires-clause-few
hand-parcel-requires-clause-few g c = subst (λ (l : List ℕ). length l ≤ 64) (sym c.of.ensures) c.requires.few

pub hand-parcel-requires-clause-once : goal.hand-parcel-requires-clause-once
hand-parcel-requires-clause-once g c = subst (λ (l : List ℕ). IsDistinct nat_eq l) (sym c.of.ensures) c.requires.can.once

pub hand-parcel-requires-clause-unpaid : goal.hand-parcel-requires-clause-unpaid
hand-parcel-requires-clause-unpaid g c = subst (λ (l : List ℕ). (x : ℕ) → Contains l x → Contains c.args.seat.now.view.dues.unpaid x) (sym c.of.ensures) c.requires.can.unpaid

pub returns-in-Ok-clause-view : goal.returns-in-Ok-clause-view
returns-in-Ok-clause-view g c = c.hand-parcel.ensures.seat ∙ ap (λ (l : List ℕ). hand_left 1 1 l c.args.seat.now.view) c.of.ensures

pub returns-in-Ok-clause-loaded : goal.returns-in-Ok-clause-loaded
returns-in-Ok-clause-loaded g c =
    let b = c.args.bench.now in
    (tagged (tag_of b.number (length b.pushed)) c.hand-parcel.result, c.in-Ok.ensures.ok, ap (λ (x : Slip). x.cells) c.hand-parcel.ensures.parcel ∙ c.of.ensures, ap (λ (x : Slip). x.stake) c.hand-parcel.ensures.parcel)

pub returns-in-Err-clause-view : goal.returns-in-Err-clause-view
returns-in-Err-clause-view g c = c.hand-parcel.ensures.seat ∙ ap (λ (l : List ℕ). hand_left 1 1 l c.args.seat.now.view) c.of.ensures

pub returns-in-Err-clause-loaded : goal.returns-in-Err-clause-loaded
returns-in-Err-clause-loaded g c =
    let full = c.in-Err.ensures.full in
    (full.1, ap (λ (x : Slip). x.cells) (full.0 ∙ c.hand-parcel.ensures.parcel) ∙ c.of.ensures, ap (λ (x : Slip). x.stake) (full.0 ∙ c.hand-parcel.ensures.parcel), full.2)
