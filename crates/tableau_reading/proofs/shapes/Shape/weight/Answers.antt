use Rattle.std.proofs.Common.{◌≡◌, ◌∙◌, ◌+◌, ◌*◌, ◌-◌, sym, ap, subst, refl, pos, w32, to_z, of_z, arith, rules}
use Rattle.std.proofs.lemmas.Int.{to_z-of_z}
use Rattle.crystal_cartan.specs.Weights.{IsSmall}
use Rattle.tableau_reading.specs.Shapes.{shape_weight}
use Rattle.std.specs.Prelude.{slice_index}
use Rattle.crystal_cartan.specs.Types.{coordinates}
use Rattle.crystal_cartan.proofs.Coordinates.{filled_none, filled_more, filled_all, coordinates_few}
use Rattle.tableau_reading.proofs.Tops.{small_shape_weight}
use Rattle.tableau_reading.proofs.shapes.Shape.weight.Goals as goal

pub rows-init : goal.rows-init
rows-init c = record {
  filled = filled_none _ _ c.zero-weight.result (c.zero-weight.ensures.size ∙ ap coordinates c.cartan-cartan.ensures.cartan);
  last = c.size-place-end.ensures.size ∙ ap coordinates c.cartan-cartan.ensures.cartan;
  few = omega (arith, coordinates_few c.cartan-cartan.result c.size-place-end.ensures.classical, c.size-place-end.ensures.size);
  shape = c.cartan-cartan.ensures.shape;
}

pub rows-preserved : goal.rows-preserved
rows-preserved c =
    let whole : to_z w32 (of_z w32 c.doubled_length.result) ≡ c.doubled_length.result = to_z-of_z w32 c.doubled_length.result (search rules) in
    let place : c.rows.place + 1 - 1 ≡ c.rows.place = omega arith in
    let at : pos (2 * slice_index c.args.self.now.rows c.rows.place) ≡ pos (2 * slice_index c.args.self.now.rows (c.rows.place + 1 - 1)) = rw place refl in
    record {
      filled = filled_more _ _ c.rows.place c.rows.weight c.put-weight.result _ c.rows.invariant.filled (omega (arith, c.rows.invariant.last)) c.put-weight.ensures.value (whole ∙ c.doubled_length.ensures.length ∙ at);
      last = c.rows.invariant.last;
      few = c.rows.invariant.few;
      shape = c.rows.invariant.shape;
    }

pub returns : goal.returns
returns c =
    let weight : c.rows.weight ≡ shape_weight c.args.self.now = filled_all _ _ c.rows.place c.rows.weight c.rows.invariant.filled (omega (arith, c.rows.invariant.last)) in
    record {
      weight = weight;
      size = c.rows.invariant.filled.size;
      small = subst IsSmall (sym weight) (small_shape_weight c.args.self.now c.rows.invariant.shape);
      shape = c.rows.invariant.shape;
    }
