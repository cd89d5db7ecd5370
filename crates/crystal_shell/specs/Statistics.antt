-- Statistics, as the answer sees them.
use Rattle.std.specs.Prelude.{ℕ, ◌<◌, ◌≤◌, ◌≡◌, List, [], length, map, slice_get, slice_index_or, string_bytes, Option, Some, None}
use Rattle.std.specs.List.{AllZip, flat_map}
use Rattle.answer_text.specs.Texts.{statistic_text}
use Rattle.answer_text.specs.declared.answers.Report.{Report}
use Rattle.crystal_characters.specs.declared.items.Item.{Item}

-- a statistic: its name, and what it reports of each list of items
pub record Reporter : Type 0 where
  pub name : List ℕ
  pub reports : List Item → List ℕ

abbrev pub names_of : List Reporter → List (List ℕ)
names_of reporters = map (λ reporter. reporter.name) reporters

-- the part of the answer that a statistic makes of these items
abbrev pub part_of : Option Reporter → List Item → List ℕ
part_of None items = []
part_of (Some reporter) items = statistic_text reporter.name (reporter.reports items)

-- the parts of the statistics that stand at these places, one after another
abbrev pub statistics_text : List Reporter → List ℕ → List Item → List ℕ
statistics_text reporters places items = flat_map (λ place. part_of (slice_get reporters place) items) places

-- what a statistic reports of these items, under its name
abbrev pub IsReport : Option Reporter → List Item → Report → Type 0
IsReport None items report = ⊥
IsReport (Some reporter) items report = (string_bytes report.name ≡ reporter.name) × (report.bytes.items ≡ reporter.reports items)

-- the reports of the statistics that stand at these places, in their order
abbrev pub AreReports : List Reporter → List ℕ → List Item → List Report → Type 0
AreReports reporters places items reports = AllZip (λ place report. IsReport (slice_get reporters place) items report) places reports

-- the statistics of a fresh list were fed nothing, and have names of at most 64 bytes
pub record AreFresh {S : Type 0} (name : S → List ℕ) (fed : S → List Item) (stats : List S) : Type 0 where
  pub unfed : (k : ℕ) (d : S) → k < length stats → fed (slice_index_or stats k d) ≡ []
  pub short : (k : ℕ) (d : S) → k < length stats → length (name (slice_index_or stats k d)) ≤ 64
