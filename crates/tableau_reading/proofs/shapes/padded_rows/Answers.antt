use Rattle.std.proofs.Common.{refl, arith}
use Rattle.tableau_reading.proofs.Rows.{padded_more, padded_all}
use Rattle.tableau_reading.proofs.shapes.padded_rows.Goals as goal

pub rows-preserved : goal.rows-preserved
rows-preserved c = padded_more c.args.rows.now c.rows.padded _ c.rows.place _ c.rows-test.true c.requires.few refl c.rows.invariant refl

pub returns : goal.returns
returns c = padded_all c.args.rows.now c.rows.padded c.rows.place (omega arith) c.rows.invariant
