-- The starts of a job are among its roots.
use Rattle.std.proofs.Common.{sym, subst, ◌++◌, get_or, All, Contains}
use Rattle.std.specs.List.{flat_map}
use Rattle.std.proofs.lemmas.List.Elements.{Contains-append_left, Contains-get_or}
use Rattle.job_text.specs.declared.jobs.Job.{Job}
use Rattle.job_text.specs.Jobs.{IsJob, added_codes}
use Rattle.job_text.proofs.Ascending.{ascending_has}

pub starts_are_roots : (j : Job) → IsJob j → All (Contains j.world.roots) j.starts
starts_are_roots j is k d below =
    subst (λ roots. Contains roots (get_or j.starts k d)) (sym is.roots)
    (ascending_has (j.starts ++ flat_map added_codes j.scripts) (get_or j.starts k d)
    (Contains-append_left j.starts (flat_map added_codes j.scripts) (get_or j.starts k d) (Contains-get_or j.starts k d below)))
