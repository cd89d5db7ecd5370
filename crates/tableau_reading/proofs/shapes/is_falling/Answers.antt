use Rattle.std.proofs.Common.{◌≡◌, ◌+◌, ◌-◌, arith}
use Rattle.tableau_reading.proofs.Rows.{falls_on, falls_not, falls_all}
use Rattle.tableau_reading.proofs.shapes.is_falling.Goals as goal

pub returns-then-rows-place : goal.returns-then-rows-place
returns-then-rows-place c = falls_not c.args.rows.now (c.rows.place - 1) c.rows.place (omega arith) (omega arith) (omega arith) c.rows.invariant

pub rows-preserved : goal.rows-preserved
rows-preserved c =
    let next : c.rows.place + 1 - 1 ≡ c.rows.place = omega arith in
    rw next (falls_on c.args.rows.now (c.rows.place - 1) c.rows.place (omega arith) (omega arith) (omega arith) c.rows.invariant)

pub returns : goal.returns
returns c = falls_all c.args.rows.now (c.rows.place - 1) c.rows.place (omega arith) (omega arith) c.rows.invariant
