use Rattle.std.proofs.Common.{[], ◌∷◌}
use Rattle.graph_history.specs.declared.event.Act.TheVariants.{Met, Missed}
use Rattle.wide_words.specs.WideSpaces.{number}
use Rattle.wide_graph.proofs.Trying.{second_passed}
use Rattle.wide_graph.proofs.look_ups.seek_half.Goals as goal

pub returns-else-last-clause-told : goal.returns-else-last-clause-told
returns-else-last-clause-told c =
    second_passed c.args.seat.now.view c.seek_second-word.new.seat.view c.args.cell c.seek_second-word.result c.args.code c.args.last c.requires.probing.ends
    (Missed (number c.args.seat.now.view.world.space c.args.code) ∷ []) (Met c.args.cell (number c.args.seat.now.view.world.space c.args.code) ∷ []) (Missed (number c.args.seat.now.view.world.space c.args.code) ∷ []) c.seek_second-word.ensures.view c.requires.probing.code c.seek_second-word.ensures.word c.if-word-eq0.false c.if-word-code.false c.if-last.false c.requires.idle
