use Rattle.table_calls.proofs.Stretches.{turn_within, next_straight}
use Rattle.table_calls.proofs.path.first_stretch.Goals as goal

pub returns-clause-within : goal.returns-clause-within
returns-clause-within c = turn_within c.args.start c.args.cells c.min.result c.requires c.min.ensures

pub returns-clause-straight : goal.returns-clause-straight
returns-clause-straight c = next_straight c.args.start c.args.cells c.min.result c.requires c.min.ensures
