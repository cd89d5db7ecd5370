use Rattle.std.proofs.Common.{◌≡◌, ◌-◌, ◌<◌, ◌≤◌, ◌∙◌, sym, ap, subst, get_or, pos, w8, to_z, of_z, arith, rules}
use Rattle.std.proofs.lemmas.Int.{to_z-of_z}
use Rattle.vector_crystals.specs.Letters.{IsLetter}
use Rattle.tableau_reading.specs.Shapes.{ShapeType}
use Rattle.tableau_reading.specs.Fillings.{FillingType, letter_in, IsFilling}
use Rattle.tableau_reading.proofs.FilledRows.{listed_letter, listed_is_filling}
use Rattle.tableau_reading.proofs.fillings.Filling.at.Goals as goal

pub returns-clause-letter : goal.returns-clause-letter
returns-clause-letter c =
    let s = c.self.inside.shape in
    let letters = c.self.inside.letters in
    let k = c.place_of-place.result in
    let plain : to_z w8 (of_z w8 (get_or c.self.inside.letters c.place_of-place.result (pos 0))) ≡ get_or c.self.inside.letters c.place_of-place.result (pos 0) =
    to_z-of_z w8 (get_or c.self.inside.letters c.place_of-place.result (pos 0)) (search rules) in
    let same : c.args.self.now.shape ≡ c.self.inside.shape = sym (ap (λ (f : FillingType). f.shape) c.self.view_is) in
    let high = subst (λ (t : ShapeType). c.args.column ≤ get_or t.rows (c.args.row - 1) 0) same c.requires.column_high in
    let lt : c.args.column - 1 < get_or c.self.inside.shape.rows (c.args.row - 1) 0 = omega (arith, c.requires.column_low, high) in
    plain ∙ (ap (λ i. get_or letters i (pos 0)) c.place_of-place.ensures.place
    ∙ (sym (listed_letter s letters (c.args.row - 1) (c.args.column - 1) lt) ∙ ap (λ (f : FillingType). letter_in f (c.args.row - 1) (c.args.column - 1)) c.self.view_is))

pub returns-clause-of_type : goal.returns-clause-of_type
returns-clause-of_type c =
    let plain : to_z w8 (of_z w8 (get_or c.self.inside.letters c.place_of-place.result (pos 0))) ≡ get_or c.self.inside.letters c.place_of-place.result (pos 0) =
    to_z-of_z w8 (get_or c.self.inside.letters c.place_of-place.result (pos 0)) (search rules) in
    let same : c.args.self.now.shape ≡ c.self.inside.shape = sym (ap (λ (f : FillingType). f.shape) c.self.view_is) in
    let good = subst (IsLetter c.self.inside.shape.cartan) (sym plain) (c.self.invariant.at c.place_of-place.result c.place_of-place.ensures.below) in
    subst (λ (t : ShapeType). IsLetter t.cartan (to_z w8 (of_z w8 (get_or c.self.inside.letters c.place_of-place.result (pos 0))))) (sym same) good

pub returns-clause-filling : goal.returns-clause-filling
returns-clause-filling c = subst IsFilling c.self.view_is (listed_is_filling c.self.inside.shape c.self.inside.letters c.place_of-place.ensures.shape c.self.invariant)
