use Rattle.std.proofs.Common.{◌≡◌, ◌<◌, ◌∙◌, sym, ap, subst, get_or, pos, w8, to_z, of_z, rules}
use Rattle.std.proofs.lemmas.Int.{to_z-of_z}
use Rattle.vector_crystals.specs.Letters.{IsLetter}
use Rattle.tableau_reading.specs.Shapes.{ShapeType, box_count}
use Rattle.tableau_reading.specs.Readings.{box, boxes_read}
use Rattle.tableau_reading.specs.Fillings.{FillingType, letter_in, IsFilling}
use Rattle.tableau_reading.proofs.FilledRows.{listed_at, listed_is_filling}
use Rattle.tableau_reading.proofs.fillings.Filling.letter_at.Goals as goal

pub returns-clause-letter : goal.returns-clause-letter
returns-clause-letter c =
    let letters = c.self.inside.letters in
    let place = c.args.place in
    let plain : to_z w8 (of_z w8 (get_or c.self.inside.letters c.args.place (pos 0))) ≡ get_or c.self.inside.letters c.args.place (pos 0) =
    to_z-of_z w8 (get_or c.self.inside.letters c.args.place (pos 0)) (search rules) in
    let same : c.args.self.now.shape ≡ c.self.inside.shape = sym (ap (λ (f : FillingType). f.shape) c.self.view_is) in
    let lt = subst (λ (s : ShapeType). c.args.place < box_count s) same c.requires in
    let P : FillingType → Type 0 = λ f. get_or letters place (pos 0) ≡ letter_in f (get_or (boxes_read f.shape) place (box 0 0)).row (get_or (boxes_read f.shape) place (box 0 0)).column in
    plain ∙ subst P c.self.view_is (listed_at c.self.inside.shape letters place c.boxes-boxes.ensures.shape lt)

pub returns-clause-of_type : goal.returns-clause-of_type
returns-clause-of_type c =
    let plain : to_z w8 (of_z w8 (get_or c.self.inside.letters c.args.place (pos 0))) ≡ get_or c.self.inside.letters c.args.place (pos 0) =
    to_z-of_z w8 (get_or c.self.inside.letters c.args.place (pos 0)) (search rules) in
    let same : c.args.self.now.shape ≡ c.self.inside.shape = sym (ap (λ (f : FillingType). f.shape) c.self.view_is) in
    let lt = subst (λ (s : ShapeType). c.args.place < box_count s) same c.requires in
    let good = subst (IsLetter c.self.inside.shape.cartan) (sym plain) (c.self.invariant.at c.args.place lt) in
    subst (λ (s : ShapeType). IsLetter s.cartan (to_z w8 (of_z w8 (get_or c.self.inside.letters c.args.place (pos 0))))) (sym same) good

pub returns-clause-filling : goal.returns-clause-filling
returns-clause-filling c = subst IsFilling c.self.view_is (listed_is_filling c.self.inside.shape c.self.inside.letters c.boxes-boxes.ensures.shape c.self.invariant)
