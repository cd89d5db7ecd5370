-- The one seat that a list of events is noted with.
use Rattle.std.specs.Prelude.{ℕ, ◌≡◌, [], ◌∷◌, ◌++◌}
use Rattle.atomic_table.specs.Table.{Me, Step}
use Rattle.tensor_words.specs.Worlds.{WorldType}
use Rattle.graph_history.specs.declared.event.Event.{Event}
use Rattle.graph_history.specs.declared.view.Dues.{Dues}
use Rattle.graph_history.specs.Views.{View}

-- nothing is owed
abbrev pub no_dues : Dues
no_dues = record { owed = []; unpaid = []; pledge = 0 }

-- no event yet
abbrev pub noting_view : WorldType → View
noting_view w = record { world = w; number = 0; calls = []; kept = []; next = 0; left = 0; stake = 0; front = []; olds = []; dues = no_dues }

-- the front has the event last, and nothing else changed
abbrev pub noted : Event → Step Unit → Me Unit View → ℕ → Me Unit View → Type 0
noted e step me found now = now ≡ (record me.0 { front = me.0.front ++ e ∷ [] }, me.1)
