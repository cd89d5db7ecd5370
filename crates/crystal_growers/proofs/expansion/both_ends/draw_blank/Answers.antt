-- The operator gives zero, or a word.
use Rattle.std.proofs.Common.{[], sym, subst}
use Rattle.graph_history.specs.declared.answer.Draw.TheVariants.{Zero}
use Rattle.graph_history.specs.Desks.{Goes}
use Rattle.graph_history.proofs.DeskSteps.{goes_still}
use Rattle.shared_desk.specs.SharedDesks.{DeskValue, standing_of}
use Rattle.shared_desk.proofs.Drawings.{word_fits, drawing_zero}
use Rattle.crystal_growers.proofs.ExpandSteps.{arrow_drawn}
use Rattle.crystal_growers.proofs.expansion.both_ends.draw_blank.Goals as goal

pub next-requires-clause-code : goal.next-requires-clause-code
next-requires-clause-code c = let v = c.args.desk.now.seat.view in word_fits v.world v.front c.args.cell c.args.code c.world-world.ensures.known.legal c.requires.there

pub returns-in-None : goal.returns-in-None
returns-in-None c =
    let goes = subst (λ (d : DeskValue). Goes (standing_of c.args.desk.now) (standing_of d) 0 []) (sym c.in-None.ensures.same) (goes_still (standing_of c.args.desk.now) c.world-world.ensures.known.legal) in
    arrow_drawn (standing_of c.args.desk.now) (standing_of c.mark.new.self) c.args.cell c.args.code c.args.arrow Zero c.requires.there c.requires.arrow
    (drawing_zero (standing_of c.args.desk.now) (standing_of c.next.new.self) (standing_of c.mark.new.self) c.args.cell c.args.code c.args.arrow c.mark.result goes c.requires.there (sym c.in-None.ensures.value) c.mark.ensures)
    (λ full. cc)
