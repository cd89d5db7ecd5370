use Rattle.std.proofs.Common.{◌≡◌, ◌+◌, ◌-◌, ◌<◌, get_or, length, arith}
use Rattle.tableau_reading.proofs.Rows.{sum_more, sum_within, few_boxes}
use Rattle.tableau_reading.proofs.shapes.Shape.boxes.Goals as goal

pub overflow_add-boxes : goal.overflow_add-boxes
overflow_add-boxes c =
    let s = c.args.self.now in
    let place : c.rows.place + 1 - 1 ≡ c.rows.place = omega arith in
    let row : c.row-boxes.result ≡ get_or s.rows c.rows.place 0 = rw place at c.row-boxes.ensures.row in
    let lt : c.rows.place < length s.rows = omega (arith, c.rows.invariant.last) in
    let few = few_boxes s.cartan _ c.rows.invariant.shape.small in
    omega (arith, row, sum_more s.rows c.rows.place lt, sum_within s.rows (c.rows.place + 1), few, c.rows.invariant.boxes)

pub rows-preserved : goal.rows-preserved
rows-preserved c =
    let s = c.args.self.now in
    let place : c.rows.place + 1 - 1 ≡ c.rows.place = omega arith in
    let row : c.row-boxes.result ≡ get_or s.rows c.rows.place 0 = rw place at c.row-boxes.ensures.row in
    let lt : c.rows.place < length s.rows = omega (arith, c.rows.invariant.last) in
    record {
      boxes = omega (arith, row, sum_more s.rows c.rows.place lt, c.rows.invariant.boxes);
      last = c.rows.invariant.last;
      shape = c.rows.invariant.shape;
    }
