use Rattle.std.proofs.Common.{◌<◌, ◌∷◌, length, arith}
use Rattle.crystal_cartan.specs.declared.types.Arrow.{Arrow}
use Rattle.answer_text.specs.Modes.{arrow_token}
use Rattle.answer_text.proofs.Loops.{each_more, each_stopped, each_all}
use Rattle.answer_text.proofs.Printed.{prints_nothing}
use Rattle.answer_text.proofs.matches.print_arrows.Goals as goal

pub arrows-init : goal.arrows-init
arrows-init g c = prints_nothing tt _ _ _

pub arrows-preserved : goal.arrows-preserved
arrows-preserved g c =
    let text = λ (arrow : Arrow). 32 ∷ arrow_token arrow in
    let below : c.arrows.arrow-index < length (c.args.walk.now) = omega arith in
    let is = c.token.ensures in
    each_more text (c.args.walk.now) c.arrows.arrow-index _ below is c.arrows.invariant c.in_ok-print_piece.ensures

pub returns-in_err-print_piece : goal.returns-in_err-print_piece
returns-in_err-print_piece g c =
    let text = λ (arrow : Arrow). 32 ∷ arrow_token arrow in
    let below : c.arrows.arrow-index < length (c.args.walk.now) = omega arith in
    let is = c.token.ensures in
    each_stopped text (c.args.walk.now) c.arrows.arrow-index _ below is _ c.from_residual.ensures.1 c.arrows.invariant c.in_err-print_piece.ensures

pub returns : goal.returns
returns g c = each_all (λ (arrow : Arrow). 32 ∷ arrow_token arrow) (c.args.walk.now) c.arrows.arrow-index (omega arith) c.arrows.invariant
