-- Debts of all live views: a seat's debt that no open vertex needs is spare, and the debts are few.
use Rattle.std.proofs.Common.{◌≡◌, ℕ, ◌+◌, ◌<◌, ◌≤◌, ◌⊎◌, inl, inr, nat_eq, List, length, set, Contains, arith}
use Rattle.std.specs.List.{IsDistinct}
use mathlib.Core.Option.{some}
use lib.ListN.{get_elem?}
use Rattle.tensor_words.specs.Worlds.{WorldType}
use Rattle.graph_history.specs.declared.view.Dues.{Dues}
use Rattle.graph_history.specs.Views.{View}
use Rattle.graph_history.specs.History.{state_of, HasVertex, IsWhole, HasSpareDebt}
use Rattle.graph_history.proofs.SoundStates.{sound}
use Rattle.graph_rule.specs.Rule.{whole, debts_of, due, IsUnpaid, IsRunning}
use Rattle.graph_rule.proofs.Views.{some_prefix}
use Rattle.graph_rule.proofs.Sums.{due_live, debts-set, unfinished_debts, debts_within}
use Rattle.graph_rule.proofs.Advance.{Elsewhere}
use Rattle.shared_seats.proofs.Steps.{live_then}

module _ {key : WorldType} {words : List ℕ} {views : List View} (r : IsRunning key words views) where
  -- no more debts than cells and stakes
  pub debts_few : debts_of views ≤ key.cells + whole
  debts_few =
      let most = debts_within key.cells r.payer views each cell in omega (arith, r.seated.staked)
    where
      each : (id : ℕ) (v : View) → get_elem? views id ≡ some v → 0 < v.stake → (v.dues.pledge ≤ 1) × IsDistinct nat_eq v.dues.unpaid
      each id v at live = let d = (r.owing id v at live).dues in (d.pledge, d.once)

      cell : (id : ℕ) (v : View) (c : ℕ) → get_elem? views id ≡ some v → 0 < v.stake → Contains v.dues.unpaid c → (r.payer c ≡ id) × (c < key.cells)
      cell id v c at live has =
          let o = r.owing id v at live in
          let there = some_prefix v.front r.history c (r.seated.fits id v at live).front (o.dues.owed c (o.dues.among c has)) in
          (o.pays c has, (sound key r.history r.legal).below c there.0 there.1)

  -- a debt that no open vertex needs
  pub spare : (id : ℕ) (v : View) (at : get_elem? views id ≡ some v) (live : 0 < v.stake) (d : Dues) → length d.unpaid + d.pledge + 1 ≡ length v.dues.unpaid + v.dues.pledge
      → ((c x : ℕ) → HasVertex (state_of r.history) c x → IsWhole key (state_of r.history) c ⊎ (Elsewhere r id v at live c ⊎ Contains d.unpaid c)) → HasSpareDebt key (state_of r.history)
  spare id v at live d less open_ =
      let enough = unfinished_debts key (state_of r.history) (set views id without_it) (sound key r.history r.legal) covered in
      let sums = debts-set views id v without_it at in
      let before = due_live v live in let after : due without_it ≡ length d.unpaid + d.pledge = due_live without_it live in
      omega (arith, r.counted)
    where
      without_it : View
      without_it = record v { dues = d }

      covered : (c x : ℕ) → HasVertex (state_of r.history) c x → IsWhole key (state_of r.history) c ⊎ IsUnpaid (set views id without_it) c
      covered c x there =
          elim (open_ c x there) [
            | inl done ↦ inl done
            | inr owed ↦ inr (live_then views id v at (λ u. Contains u.dues.unpaid c) without_it live owed)
          ]
