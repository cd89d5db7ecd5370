use Rattle.std.proofs.Common.{rules, ◌≡◌, subst, sym, ◌==◌, ◌||◌, not, true, length, is_some, All, ◌<◌, arith}
use Rattle.std.specs.List.Sorted.{IsStrictlyIncreasing}
use Rattle.tensor_words.specs.Spaces.{size}
use Rattle.job_text.specs.Jobs.{roots_of}
use Rattle.job_text.specs.Drafts.{starts_of}
use Rattle.job_text.specs.DraftFields.{draft_seen}
use Rattle.job_text.proofs.JobRoots.{roots_some, roots_few, roots_rise, roots_words}
use Rattle.job_text.proofs.drafts.Draft.job.Goals as goal

pub world_of-requires-clause-rooted : goal.world_of-requires-clause-rooted
world_of-requires-clause-rooted c =
    let d = draft_seen c.self.inside in
    let is : c.in_ok-roots.roots.items ≡ roots_of (starts_of d) d.scripts = search rules in
    let some : (is_some d.top || not (length d.starts == 0)) ≡ true = subst (λ e. (is_some e.top || not (length e.starts == 0)) ≡ true) (sym c.self.view_is) c.requires in
    rw is (roots_some d some)

pub world_of-requires-clause-few : goal.world_of-requires-clause-few
world_of-requires-clause-few c =
    let d = draft_seen c.self.inside in
    let is : c.in_ok-roots.roots.items ≡ roots_of (starts_of d) d.scripts = search rules in
    rw is (omega (arith, roots_few d c.self.invariant))

pub world_of-requires-clause-ascending : goal.world_of-requires-clause-ascending
world_of-requires-clause-ascending c =
    let d = draft_seen c.self.inside in
    let is : c.in_ok-roots.roots.items ≡ roots_of (starts_of d) d.scripts = search rules in
    subst IsStrictlyIncreasing (sym is) (roots_rise d)

pub world_of-requires-clause-words : goal.world_of-requires-clause-words
world_of-requires-clause-words c =
    let d = draft_seen c.self.inside in
    let is : c.in_ok-roots.roots.items ≡ roots_of (starts_of d) d.scripts = search rules in
    subst (All (λ n. n < size c.self.inside.space)) (sym is) (roots_words d c.self.invariant)
