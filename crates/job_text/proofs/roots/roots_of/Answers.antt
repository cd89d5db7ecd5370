use Rattle.std.proofs.Common.{◌≡◌, ◌∙◌, ap, ◌≤◌, ◌++◌, length, arith}
use Rattle.std.proofs.lemmas.List.{take_all}
use Rattle.std.specs.List.{flat_map}
use Rattle.job_text.specs.Jobs.{added_codes, ascending}
use Rattle.job_text.proofs.Ascending.{sorted_once}
use Rattle.job_text.proofs.roots.roots_of.Goals as goal

pub returns : goal.returns
returns c =
    let gathered : c.scripts.roots.items ≡ c.args.starts.now ++ flat_map added_codes c.args.scripts.now =
    let whole : length c.args.scripts.now ≤ c.scripts.script-index = omega arith in
    rw (take_all c.scripts.script-index c.args.scripts.now whole) at c.scripts.invariant in
    sorted_once c.scripts.roots.items c.sort_unstable.new.self.items c.dedup.new.self.items
    c.sort_unstable.ensures.permutation c.sort_unstable.ensures.sorted c.dedup.ensures.filtered
    ∙ ap ascending gathered
