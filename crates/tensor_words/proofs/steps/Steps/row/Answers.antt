use Rattle.std.proofs.Common.{◌+◌, ◌*◌, ◌<◌, length, subst, arith}
use Rattle.std.proofs.lemmas.Nat.{mul-add-lt}
use Rattle.std.proofs.lemmas.List.{get_or_read}
use Rattle.tensor_words.specs.Spaces.{SpaceType}
use Rattle.tensor_words.specs.Tables.{no_row, AreRows}
use Rattle.tensor_words.proofs.PlaceValues.{row_there}
use Rattle.tensor_words.proofs.steps.Steps.row.Goals as goal

pub returns : goal.returns
returns c =
    let table : AreRows c.args.self.now c.self.inside.width c.self.inside.rows.items =
    subst (λ (s : SpaceType). AreRows s c.self.inside.width c.self.inside.rows.items) c.self.view_is c.self.invariant.0 in
    let narrow : c.args.digit < c.self.inside.width = omega (arith, table.wide c.args.place c.requires.place) in
    let inside : c.args.place * c.self.inside.width + c.args.digit < length c.self.inside.rows.items =
    omega (arith, table.count, mul-add-lt c.args.place c.self.inside.width c.args.digit (length c.args.self.now.factors) c.requires.place narrow) in
    row_there c.args.self.now c.self.inside.width c.self.inside.rows.items c.args.place c.args.digit c.index.result.now table c.requires.place c.requires.digit
    (get_or_read c.self.inside.rows.items _ _ inside c.index.ensures no_row)
