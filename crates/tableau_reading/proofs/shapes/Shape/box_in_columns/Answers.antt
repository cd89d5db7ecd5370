use Rattle.std.proofs.Common.{◌≡◌, ◌+◌, ◌-◌, ◌<◌, ◌≤◌, ◌∙◌, suc, arith}
use Rattle.tableau_reading.specs.Readings.{height, width}
use Rattle.tableau_reading.proofs.Boxes.{box_here, in_row, length-before, before_le, length-boxes, width-first}
use Rattle.tableau_reading.proofs.shapes.Shape.box_in_columns.Goals as goal

pub columns-init : goal.columns-init
columns-init c = record {
  before = omega arith;
  last = c.row-column-end.ensures.row ∙ width-first c.args.self.now.rows;
  shape = c.row-column-end.ensures.shape;
}

pub returns-then-left-height-clause-there : goal.returns-then-left-height-clause-there
returns-then-left-height-clause-there c =
    let h = c.height-height.ensures.height in
    let column : c.columns.column < width c.args.self.now.rows = omega (arith, c.columns.invariant.last) in
    let left : c.columns.left < height c.args.self.now.rows c.columns.column = omega (arith, h) in
    rw h (box_here c.args.self.now.rows c.columns.column c.columns.left c.args.place column left c.columns.invariant.before)

pub returns-then-left-height-clause-column : goal.returns-then-left-height-clause-column
returns-then-left-height-clause-column c =
    let h = c.height-height.ensures.height in
    rw h (in_row c.args.self.now.rows (height c.args.self.now.rows c.columns.column - 1 - c.columns.left) c.columns.column c.columns.invariant.shape.falling (omega (arith, h)))

pub columns-preserved : goal.columns-preserved
columns-preserved c =
    let next : c.columns.column + 1 ≡ suc c.columns.column = omega arith in
    record {
      before = rw next (omega (arith, length-before c.args.self.now.rows c.columns.column, c.height-height.ensures.height, c.columns.invariant.before));
      last = c.columns.invariant.last;
      shape = c.columns.invariant.shape;
    }

pub unreachable-requires : goal.unreachable-requires
unreachable-requires c =
    let rows = c.args.self.now.rows in
    let past : width c.args.self.now.rows ≤ c.columns.column = omega (arith, c.columns.invariant.last) in
    omega (arith, before_le rows (width rows) c.columns.column past, length-boxes rows c.columns.invariant.shape.falling, c.columns.invariant.before)
