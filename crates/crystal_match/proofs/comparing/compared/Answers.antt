use Rattle.std.proofs.Common.{subst}
use Rattle.crystal_match.specs.declared.search.SearchEnd.{SearchEnd}
use Rattle.crystal_match.specs.Telling.{pointed}
use Rattle.crystal_match.specs.Search.{IsSearchEnded}
use Rattle.crystal_match.proofs.Bijecting.{closed_answer, telling_answer, many_answer}
use Rattle.crystal_match.proofs.comparing.compared.Goals as goal

pub returns-in-Closed : goal.returns-in-Closed
returns-in-Closed c =
    closed_answer (pointed c.args.space.now c.args.marks.0 c.args.marks.1 c.args.relabel) c.in_ok-both.both c.args.limit c.run.new.self c.in_ok-pairs-in-Closed.field-0
    c.in_ok-both.ensures c.in_ok-search.ensures.pointed
    (subst (λ (e : SearchEnd). IsSearchEnded c.in_ok-both.both c.args.limit e c.run.new.self) c.in-Closed.is c.in_ok-run.ensures)
    c.in_ok-pairs-in-Closed.ensures.all c.in_ok-pairs-in-Closed.ensures.ascending

pub returns-in-Telling : goal.returns-in-Telling
returns-in-Telling c =
    telling_answer (pointed c.args.space.now c.args.marks.0 c.args.marks.1 c.args.relabel) c.in_ok-both.both c.args.limit c.in-Telling.arrow c.run.new.self c.in_ok-walk-in-Telling.field-0
    c.in_ok-both.ensures c.in_ok-search.ensures.pointed
    (subst (λ (e : SearchEnd). IsSearchEnded c.in_ok-both.both c.args.limit e c.run.new.self) c.in-Telling.is c.in_ok-run.ensures)
    c.in_ok-walk-in-Telling.ensures

pub returns : goal.returns
returns c =
    many_answer (pointed c.args.space.now c.args.marks.0 c.args.marks.1 c.args.relabel) c.in_ok-both.both c.args.limit c.run.new.self
    c.in_ok-both.ensures c.in_ok-search.ensures.pointed
    (subst (λ (e : SearchEnd). IsSearchEnded c.in_ok-both.both c.args.limit e c.run.new.self) c.in-TooMany.is c.in_ok-run.ensures)
