use Rattle.std.proofs.Common.{◌≡◌, ◌-◌, ◌<◌, ◌≤◌, ◌∙◌, sym, ap, subst, length, get_or, w8, to_z, of_z, arith, rules}
use Rattle.std.proofs.lemmas.Int.{to_z-of_z}
use Rattle.vector_crystals.specs.Letters.{IsLetter}
use Rattle.tableau_reading.specs.Shapes.{ShapeType, box_count}
use Rattle.tableau_reading.specs.Fillings.{FillingType, with_letter}
use Rattle.tableau_reading.proofs.Rows.{few_boxes}
use Rattle.tableau_reading.proofs.FilledRows.{letters_set, listed_put}
use Rattle.tableau_reading.proofs.fillings.Filling.put.Goals as goal

pub invariant_of-self : goal.invariant_of-self
invariant_of-self c =
    let s = c.self.inside.shape in
    let size : length c.self.inside.letters ≡ 40 = search rules in
    let few = few_boxes c.self.inside.shape.cartan _ c.place_of-place.ensures.shape.small in
    let plain : to_z w8 (of_z w8 c.args.letter.0) ≡ c.args.letter.0 = to_z-of_z w8 c.args.letter.0 (search rules) in
    let same : c.args.self.now.shape ≡ c.self.inside.shape = sym (ap (λ (f : FillingType). f.shape) c.self.view_is) in
    let good = subst (λ (t : ShapeType). IsLetter t.cartan c.args.letter.0) same c.requires.letter in
    letters_set s.cartan (box_count s) c.self.inside.letters c.place_of-place.result (to_z w8 (of_z w8 c.args.letter.0))
    (omega (arith, size, few, c.place_of-place.ensures.below)) (subst (IsLetter c.self.inside.shape.cartan) (sym plain) good) c.self.invariant

pub returns : goal.returns
returns c =
    let s = c.self.inside.shape in
    let size : length c.self.inside.letters ≡ 40 = search rules in
    let plain : to_z w8 (of_z w8 c.args.letter.0) ≡ c.args.letter.0 = to_z-of_z w8 c.args.letter.0 (search rules) in
    let same : c.args.self.now.shape ≡ c.self.inside.shape = sym (ap (λ (f : FillingType). f.shape) c.self.view_is) in
    let high = subst (λ (t : ShapeType). c.args.column ≤ get_or t.rows (c.args.row - 1) 0) same c.requires.there.column_high in
    let lt : c.args.column - 1 < get_or c.self.inside.shape.rows (c.args.row - 1) 0 = omega (arith, c.requires.there.column_low, high) in
    let put = listed_put s c.self.inside.letters (c.args.row - 1) (c.args.column - 1) c.args.letter.0 c.place_of-place.ensures.shape lt size in
    rw (plain, c.place_of-place.ensures.place) (put ∙ ap (λ (f : FillingType). with_letter f (c.args.row - 1) (c.args.column - 1) c.args.letter.0) c.self.view_is)
