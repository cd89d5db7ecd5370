-- The desk begins with the seat, and what it drew its seat drew.
use Rattle.std.proofs.Common.{ℕ, ◌*◌, sym, subst, length, All, Contains}
use Rattle.graph_history.specs.History.{state_of, HasSome}
use Rattle.shared_desk.specs.SharedDesks.{DeskValue, standing_of}
use Rattle.crystal_growers.specs.Expansion.{Expansions}
use Rattle.crystal_growers.proofs.DrawnCells.{drawn_by}
use Rattle.crystal_growers.proofs.expansion.drawing.draw_few.Goals as goal

pub expand_all-full-requires-clause-there : goal.expand_all-full-requires-clause-there
expand_all-full-requires-clause-there c = subst (λ (d : DeskValue). All (HasSome (state_of d.seat.view.front)) c.args.cells.now) (sym c.in-Ok.ensures) c.requires.can.there

pub expand_all-full-requires-clause-unpaid : goal.expand_all-full-requires-clause-unpaid
expand_all-full-requires-clause-unpaid c = subst (λ (d : DeskValue). (x : ℕ) → Contains c.args.cells.now x → Contains d.seat.view.dues.unpaid x) (sym c.in-Ok.ensures) c.requires.can.unpaid

pub returns : goal.returns
returns c =
    drawn_by c.args.seat c.into_parts_with_hints-seat.result.0 c.expand_all-full.new.desk (length c.args.cells.now * (2 * c.rank-rank.result)) c.args.cells.now c.into_parts_with_hints-seat.result.1.items c.expand_all-full.result
    (subst (λ (d : DeskValue). Expansions (standing_of d) (standing_of c.expand_all-full.new.desk) c.args.cells.now c.expand_all-full.result) c.in-Ok.ensures c.expand_all-full.ensures)
    c.into_parts_with_hints-seat.ensures.seat c.into_parts_with_hints-seat.ensures.worked
