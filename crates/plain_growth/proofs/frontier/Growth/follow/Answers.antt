use Rattle.std.proofs.Common.{ap, ℕ, if◌then◌else◌, arith}
use Rattle.plain_growth.proofs.Expanding.{follows_some}
use Rattle.plain_growth.proofs.Marking.{grows_none, grows_one, unmarked_row}
use Rattle.plain_growth.proofs.frontier.Growth.follow.Goals as goal
use Rattle.plain_growth.proofs.frontier.Growth.follow.Goals.{then-entry+in_ok-push, else-entry}

pub returns-clause-follows : goal.returns-clause-follows
returns-clause-follows c =
    elim c.if-entry.branch [
      | then-entry+in_ok-push w ↦ rw w.self-is (follows_some c.args.next c.in-Some.code _ _ c.in-Some.is c.in_ok-entry.ensures.added)
      | else-entry w ↦ rw w.self-is (follows_some c.args.next c.in-Some.code _ _ c.in-Some.is c.in_ok-entry.ensures.added)
    ]

pub returns-clause-known : goal.returns-clause-known
returns-clause-known c =
    elim c.if-entry.branch [
      | then-entry+in_ok-push w ↦
          rw w.self-is (grows_one _ _ _ _ w.in_ok-push.ensures.items (omega (arith, c.requires.known, c.in_ok-entry.ensures.len, ap {B = ℕ} (λ b. if b then 1 else 0) w.if-entry.true)) unmarked_row)
      | else-entry w ↦
          rw w.self-is (grows_none _ _ (omega (arith, c.requires.known, c.in_ok-entry.ensures.len, ap {B = ℕ} (λ b. if b then 1 else 0) w.if-entry.false)))
    ]
