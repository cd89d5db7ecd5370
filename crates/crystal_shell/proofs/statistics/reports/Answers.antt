use Rattle.std.proofs.Common.{rules, ◌<◌, ◌≤◌, ℕ, length, get_or, string_bytes, subst, sym}
use Rattle.std.proofs.lemmas.List.Elements.{All-push}
use Rattle.std.proofs.lemmas.Option.{slice_get-get_or}
use Rattle.crystal_characters.specs.Items.{items_of}
use Rattle.crystal_shell.proofs.Parts.{report_more, fed_report}
use Rattle.crystal_shell.proofs.statistics.reports.Goals as goal

pub places-preserved : goal.places-preserved
places-preserved g c =
    let items = items_of c.args.finished.now in
    let olds = c.args.stats.now.items in
    let p = c.at-place.result.now in
    let chosen = c.at-place.ensures.value 0 in
    let b = c.index.result.now in
    let r = c.in_ok-report.report in
    let below : c.places.k < length c.args.places.now = search rules in
    let there : p < length c.args.stats.now.items = subst (λ (q : ℕ). q < length c.args.stats.now.items) (sym chosen) (c.requires.chosen.below c.places.k below) in
    let done = c.in_ok-feed_chosen.ensures in
    let own = fed_report (λ b. (goal.Statistic-dyn g (b.vtable, b.value)).named b.value) (λ b. (goal.Statistic-dyn g (b.vtable, b.value)).reported b.value)
    (λ b. (goal.Statistic-dyn g (b.vtable, b.value)).fed b.value) olds c.feed_chosen.new.statistics.items c.args.places.now c.places.k p items b r below chosen
    c.index.ensures (done.named p b there) (done.reported p b items there) (rw c.as_slice.ensures at (done.all p b there)) (c.requires.fresh.unfed p b there)
    c.in_ok-report.ensures.name c.in_ok-report.ensures.bytes in
    record {
      count = search rules;
      capacity = search rules;
      made = report_more (λ b. (goal.Statistic-dyn g (b.vtable, b.value)).named b.value) (λ b. (goal.Statistic-dyn g (b.vtable, b.value)).reported b.value) olds
          c.args.places.now c.places.k items c.places.reports.items c.push_reserved.new.self.items p (get_or olds p b) r below chosen (slice_get-get_or olds p b there)
          c.places.invariant.made c.push_reserved.ensures.items own;
      short = rw c.push_reserved.ensures.items (All-push (λ report. length (string_bytes report.name) ≤ 64) c.places.reports.items r c.places.invariant.short
          (rw own.0 (c.requires.fresh.short p b there)));
    }
