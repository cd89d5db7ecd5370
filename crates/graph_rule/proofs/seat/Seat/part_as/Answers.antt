-- The two views are those of the split, and both seats keep what a seat knows.
use Rattle.std.proofs.Common.{◌≡◌, refl, sym, ap, subst, ◌+◌, ◌-◌, ◌<◌, ◌≤◌, [], rules, arith}
use Rattle.atomic_table.specs.Table.{Me}
use Rattle.graph_history.specs.Views.{View}
use Rattle.graph_rule.specs.Rule.{IsKnown, IsComplete}
use Rattle.graph_rule.specs.Values.{SeatValue}
use Rattle.graph_rule.specs.Parting.{hand_left, hand_right}
use Rattle.graph_rule.proofs.Splitting.{parts, left_view, right_view, left_complete, right_complete}
use Rattle.graph_rule.proofs.seat.Seat.part_as.Goals as goal

pub split_seat-token-requires : goal.split_seat-token-requires
split_seat-token-requires g c =
    let v : View = c.self.inside.token.me.0 in
    let e : c.args.self.now.view ≡ v = ap (λ (q : SeatValue). q.view) (sym c.self.view_is) in
    let numbers = subst (λ (u : View). c.args.numbers ≤ u.left) e c.requires.numbers.1 in
    let stake = subst (λ (u : View). c.args.stake < u.stake) e c.requires.stake.1 in (
      search rules,
      search rules,
      rw (c.requires.asked.0, c.requires.asked.1, c.requires.asked.2)
          (parts c.graph.inside.board.shared.key c.self.inside.token.id v c.args.numbers c.args.stake c.args._cells.now c.requires.numbers.0 numbers c.requires.stake.0 stake),
    )

pub invariant_of-self : goal.invariant_of-self
invariant_of-self g c =
    let v : View = c.self.inside.token.me.0 in
    let known : IsKnown v = c.self.invariant.5 in
    let is : c.args.self.now.view ≡ v = ap (λ (q : SeatValue). q.view) (sym c.self.view_is) in
    let numbers = subst (λ (u : View). c.args.numbers ≤ u.left) is c.requires.numbers.1 in
    let stake = subst (λ (u : View). c.args.stake < u.stake) is c.requires.stake.1 in
    let e : c.split_seat-token.new.seat.me ≡ (hand_left c.args.numbers c.args.stake c.args._cells.now v, c.self.inside.token.me.1) =
    rw (c.requires.asked.0, c.requires.asked.1, c.requires.asked.2) at c.split_seat-token.ensures.2 in
    subst (λ (p : Me Unit View).
    (p.1 ≡ []) × (p.0.number ≡ c.self.inside.number) × (p.0.next ≡ c.self.inside.next + c.args.numbers) × (p.0.left ≡ c.self.inside.left - c.args.numbers)
    × (p.0.stake ≡ c.self.inside.stake - c.from-stake.result) × IsKnown p.0 × IsComplete p.0) (sym e) (
      c.self.invariant.0,
      c.self.invariant.1,
      omega arith,
      omega arith,
      omega arith,
      left_view c.args.numbers c.args.stake c.args._cells.now v known numbers stake,
      left_complete c.args.numbers c.args.stake c.args._cells.now v known c.requires.stake.0 stake,
    )

pub invariant_of-result : goal.invariant_of-result
invariant_of-result g c =
    let v : View = c.self.inside.token.me.0 in
    let known : IsKnown v = c.self.invariant.5 in
    let is : c.args.self.now.view ≡ v = ap (λ (q : SeatValue). q.view) (sym c.self.view_is) in
    let numbers = subst (λ (u : View). c.args.numbers ≤ u.left) is c.requires.numbers.1 in
    let stake = subst (λ (u : View). c.args.stake < u.stake) is c.requires.stake.1 in
    let e : c.split_seat-token.result.me ≡ (hand_right c.args.numbers c.args.stake c.args._cells.now v, []) =
    rw (c.requires.asked.0, c.requires.asked.1, c.requires.asked.2) at c.split_seat-token.ensures.4 in
    subst (λ (p : Me Unit View).
    (p.1 ≡ []) × (p.0.number ≡ c.self.inside.next) × (p.0.next ≡ c.self.inside.next + 1) × (p.0.left ≡ c.args.numbers - 1)
    × (p.0.stake ≡ c.from-stake.result) × IsKnown p.0 × IsComplete p.0) (sym e) (
      refl,
      omega arith,
      omega arith,
      refl,
      omega arith,
      right_view c.args.numbers c.args.stake c.args._cells.now v known c.requires.numbers.0 numbers c.requires.stake.0 stake,
      right_complete c.args.numbers c.args.stake c.args._cells.now v known stake,
    )

pub returns-clause-known : goal.returns-clause-known
returns-clause-known g c = ((invariant_of-self g c).5, (invariant_of-result g c).5)
