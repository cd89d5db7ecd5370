use Rattle.std.proofs.Common.{◌≡◌, ◌<◌, ◌≤◌, ℕ, length, get_or}
use Rattle.crystal_characters.proofs.items.first_entries.Given as goal

abbrev pub invariant-entries : goal.invariant-entries
invariant-entries l =
    (length l.list ≡ 8) × ((k : ℕ) → k < l.k → get_or l.list k 0 ≡ get_or l.entries k 0) × ((k : ℕ) → l.k ≤ k → get_or l.list k 0 ≡ 0)
