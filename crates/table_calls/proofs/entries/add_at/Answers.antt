use Rattle.std.proofs.Common.{Bool, subst}
use Rattle.graph_history.specs.declared.answer.Added.TheVariants.{Old}
use Rattle.table_calls.specs.Search.{Confirmed}
use Rattle.table_calls.proofs.Entering.{exact_in, met_entry, belongs_watched, pledge_watched, origin_watched, watched_entry, word_of_origin}
use Rattle.table_calls.proofs.entries.add_at.Goals as goal

pub stands_at-requires-clause-word : goal.stands_at-requires-clause-word
stands_at-requires-clause-word c = word_of_origin c.args.seat.now c.args.graph.now c.args.code c.args.origin c.requires.belongs c.reveal.ensures.known c.requires.origin

pub returns-then-stands_at-clause-entry : goal.returns-then-stands_at-clause-entry
returns-then-stands_at-clause-entry c =
    let met = subst (λ (b : Bool). Confirmed c.args.seat.now.view c.stands_at.new.seat.view c.args.near c.args.code b) c.if-stands_at.true c.stands_at.ensures.told in
    met_entry c.args.seat.now.view c.stands_at.new.seat.view c.args.code c.args.origin c.args.near met

pub returns-then-stands_at-clause-exact : goal.returns-then-stands_at-clause-exact
returns-then-stands_at-clause-exact c =
    let met = subst (λ (b : Bool). Confirmed c.args.seat.now.view c.stands_at.new.seat.view c.args.near c.args.code b) c.if-stands_at.true c.stands_at.ensures.told in
    exact_in c.args.seat.now.view c.stands_at.new.seat.view c.args.code c.args.origin (Old c.args.near) (met_entry c.args.seat.now.view c.stands_at.new.seat.view c.args.code c.args.origin c.args.near met)

pub add-requires-clause-belongs : goal.add-requires-clause-belongs
add-requires-clause-belongs c =
    let watched = subst (λ (b : Bool). Confirmed c.args.seat.now.view c.stands_at.new.seat.view c.args.near c.args.code b) c.if-stands_at.false c.stands_at.ensures.told in
    belongs_watched c.args.seat.now c.stands_at.new.seat c.args.graph.now c.stands_at.ensures.table watched c.requires.belongs

pub add-requires-clause-origin : goal.add-requires-clause-origin
add-requires-clause-origin c =
    let watched = subst (λ (b : Bool). Confirmed c.args.seat.now.view c.stands_at.new.seat.view c.args.near c.args.code b) c.if-stands_at.false c.stands_at.ensures.told in
    origin_watched c.args.seat.now.view c.stands_at.new.seat.view watched c.args.code c.args.origin c.requires.origin

pub add-requires-clause-pledge : goal.add-requires-clause-pledge
add-requires-clause-pledge c =
    let watched = subst (λ (b : Bool). Confirmed c.args.seat.now.view c.stands_at.new.seat.view c.args.near c.args.code b) c.if-stands_at.false c.stands_at.ensures.told in
    pledge_watched c.args.seat.now.view c.stands_at.new.seat.view watched c.requires.pledge

pub returns-clause-entry : goal.returns-clause-entry
returns-clause-entry c =
    let watched = subst (λ (b : Bool). Confirmed c.args.seat.now.view c.stands_at.new.seat.view c.args.near c.args.code b) c.if-stands_at.false c.stands_at.ensures.told in
    watched_entry c.args.seat.now.view c.stands_at.new.seat.view watched c.add.new.seat.view c.args.code c.args.origin c.add.result c.add.ensures.entry
