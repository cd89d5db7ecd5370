use Rattle.graph_history.specs.declared.answer.Added.TheVariants.{New, Old, Full}
use Rattle.table_calls.proofs.Entering.{exact_in, met_entry, spent_entry, origin_owed, at_owed, new_entry, old_entry, full_entry, word_of_origin}
use Rattle.table_calls.proofs.entries.add.Goals as goal

pub look_along-requires-clause-word : goal.look_along-requires-clause-word
look_along-requires-clause-word c = word_of_origin c.args.seat.now c.args.graph.now c.args.code c.args.origin c.requires.belongs c.reveal.ensures.known c.requires.origin

pub enter-requires-clause-word : goal.enter-requires-clause-word
enter-requires-clause-word c = word_of_origin c.args.seat.now c.args.graph.now c.args.code c.args.origin c.requires.belongs c.reveal.ensures.known c.requires.origin

pub enter-requires-clause-origin : goal.enter-requires-clause-origin
enter-requires-clause-origin c = origin_owed c.args.seat.now.view c.look_along.new.seat.view c.owe.new.seat.view c.args.code c.args.origin c.in-Empty.ensures.told.0 c.owe.ensures.view c.requires.origin

pub enter-requires-clause-at : goal.enter-requires-clause-at
enter-requires-clause-at c =
    at_owed c.args.seat.now.view c.look_along.new.seat.view c.owe.new.seat.view c.args.code c.args.origin c.in-Empty.ensures.told.0 c.owe.ensures.view c.in-Empty.step c.in-Empty.cell c.in-Empty.ensures.told.1

pub returns-in-Found-clause-entry : goal.returns-in-Found-clause-entry
returns-in-Found-clause-entry c =
    met_entry c.args.seat.now.view c.look_along.new.seat.view c.args.code c.args.origin c.in-Found.cell c.in-Found.ensures.told

pub returns-in-Found-clause-exact : goal.returns-in-Found-clause-exact
returns-in-Found-clause-exact c =
    exact_in c.args.seat.now.view c.look_along.new.seat.view c.args.code c.args.origin (Old c.in-Found.cell)
    (met_entry c.args.seat.now.view c.look_along.new.seat.view c.args.code c.args.origin c.in-Found.cell c.in-Found.ensures.told)

pub returns-in-AllTaken-clause-entry : goal.returns-in-AllTaken-clause-entry
returns-in-AllTaken-clause-entry c =
    spent_entry c.args.seat.now.view c.look_along.new.seat.view c.args.code c.args.origin c.in-AllTaken.ensures.told

pub returns-in-AllTaken-clause-exact : goal.returns-in-AllTaken-clause-exact
returns-in-AllTaken-clause-exact c =
    exact_in c.args.seat.now.view c.look_along.new.seat.view c.args.code c.args.origin Full
    (spent_entry c.args.seat.now.view c.look_along.new.seat.view c.args.code c.args.origin c.in-AllTaken.ensures.told)

pub returns-in-New-clause-entry : goal.returns-in-New-clause-entry
returns-in-New-clause-entry c =
    new_entry c.args.seat.now.view c.look_along.new.seat.view c.owe.new.seat.view c.args.code c.args.origin c.in-Empty.ensures.told.0 c.owe.ensures.view c.enter.new.seat.view c.in-New.cell c.in-New.ensures.told

pub returns-in-New-clause-exact : goal.returns-in-New-clause-exact
returns-in-New-clause-exact c =
    exact_in c.args.seat.now.view c.enter.new.seat.view c.args.code c.args.origin (New c.in-New.cell)
    (new_entry c.args.seat.now.view c.look_along.new.seat.view c.owe.new.seat.view c.args.code c.args.origin c.in-Empty.ensures.told.0 c.owe.ensures.view c.enter.new.seat.view c.in-New.cell c.in-New.ensures.told)

pub returns-in-Old-clause-entry : goal.returns-in-Old-clause-entry
returns-in-Old-clause-entry c =
    old_entry c.args.seat.now.view c.look_along.new.seat.view c.owe.new.seat.view c.args.code c.args.origin c.in-Empty.ensures.told.0 c.owe.ensures.view c.requires.pledge c.enter.new.seat.view c.release.new.seat.view c.in-Old.cell c.in-Old.ensures.told c.release.ensures.view

pub returns-in-Old-clause-exact : goal.returns-in-Old-clause-exact
returns-in-Old-clause-exact c =
    exact_in c.args.seat.now.view c.release.new.seat.view c.args.code c.args.origin (Old c.in-Old.cell)
    (old_entry c.args.seat.now.view c.look_along.new.seat.view c.owe.new.seat.view c.args.code c.args.origin c.in-Empty.ensures.told.0 c.owe.ensures.view c.requires.pledge c.enter.new.seat.view c.release.new.seat.view c.in-Old.cell c.in-Old.ensures.told c.release.ensures.view)

pub returns-in-Full-clause-entry : goal.returns-in-Full-clause-entry
returns-in-Full-clause-entry c =
    full_entry c.args.seat.now.view c.look_along.new.seat.view c.owe.new.seat.view c.args.code c.args.origin c.in-Empty.ensures.told.0 c.owe.ensures.view c.requires.pledge c.enter.new.seat.view c.release-in-Full.new.seat.view c.in-Full.ensures.told c.release-in-Full.ensures.view

pub returns-in-Full-clause-exact : goal.returns-in-Full-clause-exact
returns-in-Full-clause-exact c =
    exact_in c.args.seat.now.view c.release-in-Full.new.seat.view c.args.code c.args.origin Full
    (full_entry c.args.seat.now.view c.look_along.new.seat.view c.owe.new.seat.view c.args.code c.args.origin c.in-Empty.ensures.told.0 c.owe.ensures.view c.requires.pledge c.enter.new.seat.view c.release-in-Full.new.seat.view c.in-Full.ensures.told c.release-in-Full.ensures.view)
