use Rattle.job_text.proofs.WorldsMade.{world_made}
use Rattle.job_text.proofs.roots.world_of.Goals as goal

pub unreachable-requires : goal.unreachable-requires
unreachable-requires c =
    let made = world_made c.args.space c.args.cells c.args.roots.items c.requires.cells.0 c.requires.cells.1 c.requires.rooted c.requires.ascending c.requires.words in
    cc

pub returns-clause-same : goal.returns-clause-same
returns-clause-same c =
    let made = world_made c.args.space c.args.cells c.args.roots.items c.requires.cells.0 c.requires.cells.1 c.requires.rooted c.requires.ascending c.requires.words in
    cc
