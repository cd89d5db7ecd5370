use Rattle.std.proofs.Common.{◌≡◌, ◌<◌, ◌∙◌, ap, length, map, w32, to_z, of_z, rules, arith}
use Rattle.std.proofs.lemmas.Int.{to_z-of_z}
use Rattle.std.proofs.lemmas.List.{length-map}
use Rattle.tableau_reading.specs.Texts.{coordinate_text, weight_text}
use Rattle.tableau_reading.proofs.Spacing.{print_begins, word_printed, print_ends, blank_length}
use Rattle.tableau_reading.proofs.Coordinates.{text_at}
use Rattle.tableau_reading.proofs.printing.print_weight.Goals as goal

pub places-init : goal.places-init
places-init c = record {
  printed = print_begins c.args.out.now (map coordinate_text c.args.weight.now);
  fits = omega arith;
  last = c.coordinates-place-end.ensures.size;
  few = c.coordinates-place-end.ensures.few;
}

pub places-preserved : goal.places-preserved
places-preserved c =
    let texts = map coordinate_text c.args.weight.now in
    let size = length-map c.args.weight.now coordinate_text in
    let here : c.places.place < length c.args.weight.now = omega (arith, c.places.invariant.last) in
    let whole : to_z w32 (of_z w32 c.doubled_at.result) ≡ c.doubled_at.result = to_z-of_z w32 c.doubled_at.result (search rules) in
    let text = ap coordinate_text (whole ∙ c.doubled_at.ensures) ∙ text_at c.args.weight.now c.places.place here in
    let blank = blank_length c.places.out c.print_blank.new.out c.places.place c.print_blank.ensures in
    record {
      printed = word_printed c.args.out.now c.places.out c.print_blank.new.out c.print_coordinate.new.out _ c.places.place texts
          (omega (arith, size, here)) text c.print_blank.ensures c.print_coordinate.ensures.text c.places.invariant.printed;
      fits = omega (arith, blank, c.print_coordinate.ensures.fits, c.places.invariant.fits);
      last = c.places.invariant.last;
      few = c.places.invariant.few;
    }

pub returns-clause-text : goal.returns-clause-text
unfolding weight_text
returns-clause-text c =
    let texts = map coordinate_text c.args.weight.now in
    let size = length-map c.args.weight.now coordinate_text in
    print_ends c.args.out.now c.places.out c.places.place texts (omega (arith, size, c.places.invariant.last)) c.places.invariant.printed
