use Rattle.std.proofs.Common.{◌≡◌, ◌+◌, ◌<◌, suc, refl, arith}
use Rattle.tableau_reading.specs.Readings.{width}
use Rattle.tableau_reading.proofs.Rows.{few_boxes}
use Rattle.tableau_reading.proofs.Boxes.{in_column, column_there, length-before, before_le, length-boxes}
use Rattle.tableau_reading.proofs.Orders.{column_below}
use Rattle.tableau_reading.proofs.shapes.Shape.place_in_columns.Goals as goal

pub overflow_add-before : goal.overflow_add-before
overflow_add-before c =
    let rows = c.args.self.now.rows in
    let shape = c.height-before.ensures.shape in
    let column : c.args.column < width c.args.self.now.rows = column_there c.args.self.now.rows c.args.row c.args.column shape.falling c.requires in
    let most = before_le rows (suc c.columns.earlier) (width rows) (omega arith) in
    omega (arith, most, length-before rows c.columns.earlier, length-boxes rows shape.falling, few_boxes c.args.self.now.cartan _ shape.small, c.height-before.ensures.height, c.columns.invariant)

pub columns-preserved : goal.columns-preserved
columns-preserved c =
    let next : c.columns.earlier + 1 ≡ suc c.columns.earlier = omega arith in
    rw next (omega (arith, length-before c.args.self.now.rows c.columns.earlier, c.height-before.ensures.height, c.columns.invariant))

pub overflow_sub-result : goal.overflow_sub-result
overflow_sub-result c =
    omega (arith, c.height.ensures.height, in_column c.args.self.now.rows c.args.row c.args.column c.height.ensures.shape.falling c.requires)

pub overflow_sub-result-2 : goal.overflow_sub-result-2
overflow_sub-result-2 c =
    omega (arith, c.height.ensures.height, in_column c.args.self.now.rows c.args.row c.args.column c.height.ensures.shape.falling c.requires)

pub overflow_add-result : goal.overflow_add-result
overflow_add-result c =
    let s = c.args.self.now in
    let shape = c.height.ensures.shape in
    let end : c.columns.earlier ≡ c.args.column = omega arith in
    let before = rw end at c.columns.invariant in
    omega (arith, before, c.height.ensures.height, column_below s c.args.row c.args.column shape c.requires, few_boxes s.cartan _ shape.small)

pub returns-clause-place : goal.returns-clause-place
returns-clause-place c =
    let end : c.columns.earlier ≡ c.args.column = omega arith in
    let before = rw end at c.columns.invariant in
    rw (before, c.height.ensures.height) refl

pub returns-clause-below : goal.returns-clause-below
returns-clause-below c =
    let s = c.args.self.now in
    let shape = c.height.ensures.shape in
    let end : c.columns.earlier ≡ c.args.column = omega arith in
    let before = rw end at c.columns.invariant in
    omega (arith, before, c.height.ensures.height, column_below s c.args.row c.args.column shape c.requires)
