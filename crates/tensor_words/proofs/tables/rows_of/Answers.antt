use Rattle.std.proofs.Common.{◌∷◌, [], length, ap, arith, length-append}
use Rattle.tensor_words.proofs.PlaceValues.{row_more}
use Rattle.tensor_words.proofs.tables.rows_of.Goals as goal

pub rows-preserved : goal.rows-preserved
rows-preserved c = record {
  count = omega (arith, ap length c.in_ok-push.ensures.items, length-append c.rows.rows.items (c.row_at.result ∷ []), c.rows.invariant.count);
  each =
      row_more c.args.space.now c.args.width c.rows.at c.rows.rows.items c.push.new.self.items c.row_at.result c.rows.invariant.count c.in_ok-push.ensures.items
      c.rows.invariant.each c.row_at.ensures;
}
