-- The rule holds of the view of both; the load that follows takes in the whole history, of which both fronts are prefixes.
use Rattle.std.proofs.Common.{◌≡◌, sym, ap, subst, ◌<◌, [], rules, arith}
use Rattle.atomic_table.specs.Table.{Me}
use Rattle.graph_history.specs.Views.{View}
use Rattle.graph_rule.specs.Values.{SeatValue}
use Rattle.graph_rule.specs.Told.{Advances}
use Rattle.graph_rule.specs.Parting.{both_dues, joined}
use Rattle.shared_seats.proofs.Joining.{joined_fronts, joined_calls}
use Rattle.graph_rule.proofs.Joining.{join_allowed, meet_allowed}
use Rattle.graph_rule.proofs.seat.Seat.join.Goals as goal

pub join_seat-requires : goal.join_seat-requires
join_seat-requires c =
    let v : View = c.self.inside.token.me.0 in
    let w : View = c.other.inside.token.me.0 in
    let is : c.args.other.view ≡ w = ap (λ (q : SeatValue). q.view) (sym c.other.view_is) in
    let none = subst (λ (u : View). u.dues.pledge ≡ 0) is c.requires.other_pledge in (
      search rules,
      search rules,
      search rules,
      search rules,
      join_allowed c.graph.inside.board.shared.key c.self.inside.token.id v c.other.inside.token.id w c.self.invariant.5.sound.live c.other.invariant.5.sound.live none,
    )

pub load-found-requires : goal.load-found-requires
load-found-requires c =
    let live : 0 < c.join_seat.new.seat.me.0.stake =
    subst (λ (p : Me Unit View). 0 < p.0.stake) (sym c.join_seat.ensures.2) (let some = c.self.invariant.5.sound.live in omega arith) in
    (search rules, search rules, meet_allowed c.graph.inside.board.shared.key c.graph.inside.board.shared.table_id.slots c.join_seat.new.seat.id c.join_seat.new.seat.me 0 live)

told : (c : goal.After-self-1) → Advances (joined c.args.self.now.view c.args.other.view) c.load-found.new.seat.me.0 [] (joined c.args.self.now.view c.args.other.view).dues
told c =
    let now : View = c.load-found.new.seat.me.0 in
    let mine : c.self.inside.token.me.0 ≡ c.args.self.now.view = ap (λ (q : SeatValue). q.view) c.self.view_is in
    let theirs : c.other.inside.token.me.0 ≡ c.args.other.view = ap (λ (q : SeatValue). q.view) c.other.view_is in
    let first = subst (λ (p : Me Unit View). Advances p.0 now [] p.0.dues) c.join_seat.ensures.2 c.load-found.ensures.2.1 in
    let second = subst (λ (v : View). Advances (joined v c.other.inside.token.me.0) now [] (joined v c.other.inside.token.me.0).dues) mine first in
    subst (λ (w : View). Advances (joined c.args.self.now.view w) now [] (joined c.args.self.now.view w).dues) theirs second

pub returns-clause-front : goal.returns-clause-front
returns-clause-front c = let t = told c in joined_fronts both_dues c.args.self.now.view c.args.other.view c.load-found.new.seat.me.0 _ _ t.is t.known.sound

pub returns-clause-calls : goal.returns-clause-calls
returns-clause-calls c = let t = told c in joined_calls both_dues c.args.self.now.view c.args.other.view c.load-found.new.seat.me.0 _ _ t.is t.known.sound
