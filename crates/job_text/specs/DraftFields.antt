-- A draft, seen from its fields.
use Rattle.job_text.specs.declared.drafts.Draft.TheInside.{Inside}
use Rattle.job_text.specs.Drafts.{Drafted, IsDraft}

abbrev pub draft_seen : Inside → Drafted
draft_seen d = record {
  space = d.space;
  top = d.top;
  starts = d.starts.items;
  cells = d.cells;
  scripts = d.scripts.items;
  asks = d.asks.items;
}

abbrev pub KeepsDraft : Inside → Type 0
KeepsDraft d = IsDraft (draft_seen d)
