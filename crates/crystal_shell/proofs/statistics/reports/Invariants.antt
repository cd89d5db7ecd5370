use Rattle.std.proofs.Common.{◌≡◌, ◌≤◌, length, map, take, vec_len, vec_capacity}
use Rattle.answer_text.specs.Answers.{AreShort}
use Rattle.crystal_characters.specs.Items.{items_of}
use Rattle.crystal_shell.specs.Statistics.{AreReports}
use Rattle.crystal_shell.proofs.statistics.reports.Given as goal

abbrev pub invariant-places : goal.invariant-places
invariant-places g l = record {
  count : vec_len l.reports ≡ l.k;
  capacity : length l.places ≤ vec_capacity l.reports;
  made : AreReports (map (λ b. record { name = (goal.Statistic-dyn g (b.vtable, b.value)).named b.value; reports = (goal.Statistic-dyn g (b.vtable, b.value)).reported b.value }) l.fn.stats.items) (take l.k l.places) (items_of l.finished) l.reports.items;
  short : AreShort l.reports.items;
}
