-- The rule holds of the view of both; the load that follows takes in the whole history, of which both fronts are prefixes.
use Rattle.std.proofs.Common.{◌≡◌, sym, ap, subst, ◌<◌, [], None, rules, arith}
use Rattle.atomic_table.specs.Table.{Me}
use Rattle.wide_rule.specs.Rule.{WideView}
use Rattle.wide_rule.specs.Values.{WideSeatValue}
use Rattle.wide_rule.specs.Told.{Advances}
use Rattle.wide_rule.specs.Parting.{both_dues, joined}
use Rattle.wide_rule.proofs.CellSteps.{meet_allowed}
use Rattle.shared_seats.proofs.Joining.{joined_fronts, joined_calls}
use Rattle.wide_rule.proofs.Joining.{join_allowed}
use Rattle.wide_rule.proofs.seat.WideSeat.join.Goals as goal

pub join_seat-requires : goal.join_seat-requires
join_seat-requires c =
    let v : WideView = c.self.inside.token.me.0 in
    let w : WideView = c.other.inside.token.me.0 in
    let is : c.args.other.view ≡ w = ap (λ (q : WideSeatValue). q.view) (sym c.other.view_is) in
    let none = subst (λ (u : WideView). u.dues.pending ≡ None) is c.requires.other_idle in (
      search rules,
      search rules,
      search rules,
      search rules,
      join_allowed c.graph.inside.board.shared.key c.self.inside.token.id v c.other.inside.token.id w c.self.invariant.5.sound.live c.other.invariant.5.sound.live none,
    )

pub load-found-requires : goal.load-found-requires
load-found-requires c =
    let live : 0 < c.join_seat.new.seat.me.0.stake =
    subst (λ (p : Me Unit WideView). 0 < p.0.stake) (sym c.join_seat.ensures.2) (let some = c.self.invariant.5.sound.live in omega arith) in
    (search rules, search rules, meet_allowed c.graph.inside.board.shared.key c.graph.inside.board.shared.table_id.slots c.join_seat.new.seat.id c.join_seat.new.seat.me live 0)

told : (c : goal.After-self-1) → Advances (joined c.args.self.now.view c.args.other.view) c.load-found.new.seat.me.0 [] (both_dues c.args.self.now.view.dues c.args.other.view.dues)
told c =
    let now : WideView = c.load-found.new.seat.me.0 in
    let mine : c.self.inside.token.me.0 ≡ c.args.self.now.view = ap (λ (q : WideSeatValue). q.view) c.self.view_is in
    let theirs : c.other.inside.token.me.0 ≡ c.args.other.view = ap (λ (q : WideSeatValue). q.view) c.other.view_is in
    let first = subst (λ (p : Me Unit WideView). Advances p.0 now [] p.0.dues) c.join_seat.ensures.2 c.load-found.ensures.2.1 in
    let second = subst (λ (v : WideView). Advances (joined v c.other.inside.token.me.0) now [] (joined v c.other.inside.token.me.0).dues) mine first in
    subst (λ (w : WideView). Advances (joined c.args.self.now.view w) now [] (joined c.args.self.now.view w).dues) theirs second

pub returns-clause-front : goal.returns-clause-front
returns-clause-front c = let t = told c in joined_fronts both_dues c.args.self.now.view c.args.other.view c.load-found.new.seat.me.0 _ _ t.is t.known.sound

pub returns-clause-calls : goal.returns-clause-calls
returns-clause-calls c = let t = told c in joined_calls both_dues c.args.self.now.view c.args.other.view c.load-found.new.seat.me.0 _ _ t.is t.known.sound
