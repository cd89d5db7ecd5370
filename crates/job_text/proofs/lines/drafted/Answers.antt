use Rattle.job_text.specs.Judge.{drafted}
use Rattle.job_text.proofs.lines.drafted.Goals as goal

pub returns-in-Look : goal.returns-in-Look
unfolding drafted
returns-in-Look c =
    rw (c.in-Look.is, ← c.first-in-Look.ensures, ← c.is_down.ensures, ← c.behind-in-Look.ensures.words) c.looked.ensures
