use Rattle.std.proofs.Common.{◌≡◌, ◌<◌, ◌-◌, ◌≤◌, length}
use Rattle.crystal_characters.specs.Reflections.{repeated_rank}
use Rattle.crystal_characters.proofs.reflections.repeat.Given as goal

abbrev pub invariant-steps : goal.invariant-steps
invariant-steps l =
    (l.at < length l.finished.codes) × (l.counter ≤ l.times)
    × (repeated_rank l.finished l.arrow l.times l.rank ≡ repeated_rank l.finished l.arrow (l.times - l.counter) l.at)
