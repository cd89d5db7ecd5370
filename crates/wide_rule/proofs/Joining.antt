-- A seat takes in another: the rule holds of the view of both.
use Rattle.std.proofs.Common.{◌≡◌, ◌≢◌, refl, sym, ◌∙◌, ℕ, ◌<◌, ◌⊎◌, inl, inr, List, ◌++◌, set, sum_by, Some, None, Contains, arith}
use Rattle.std.proofs.lemmas.List.Elements.{Contains-append_left, Contains-append_right, Contains-append_cases}
use Rattle.std.proofs.lemmas.List.Sums.{sum_by-append}
use mathlib.Core.Option.{some}
use lib.ListN.{get_elem?}
use Rattle.atomic_table.specs.Table.{State as TableState, Joins}
use Rattle.atomic_table.proofs.Lists.{set_else}
use Rattle.graph_history.specs.History.{state_of, HasSome, IsWhole, caller_of}
use Rattle.graph_rule.proofs.Views.{some_prefix}
use Rattle.shared_seats.specs.Seats.{IsPrefix, HasLive}
use Rattle.shared_seats.proofs.Joining.{from_v, from_w, first_at, each, still, joins_up}
use Rattle.wide_words.specs.WideHistory.{WideWorldType, flat}
use Rattle.wide_rule.specs.Layout.{HasSeen}
use Rattle.wide_rule.specs.Rule.{WideView, whole, IsPending, IsOwed, IsTrue, IsRunning, due, dues_of}
use Rattle.wide_rule.specs.Parting.{both_dues, joined, nobody}
use Rattle.wide_rule.proofs.Sums.{due_live, due_spent, dues-set}

module _ (key : WideWorldType) (id : ℕ) (v : WideView) (other : ℕ) (w : WideView) (live : 0 < v.stake) (live_other : 0 < w.stake) (idle : w.dues.pending ≡ None) where
  abbrev both : WideView
  both = joined v w

  module _ {words : List ℕ} {views : List WideView} (r : IsRunning key words views) (at : get_elem? views id ≡ some v) (apart : other ≢ id) (at_other : get_elem? views other ≡ some w) where
    abbrev views' : List WideView
    views' = set (set views id both) other nobody

    live_both : 0 < both.stake
    live_both = omega arith

    -- a view that was so is so yet, or the joined one is
    keeps : (P : WideView → Type 0) → (P v → P both) → (P w → P both) → HasLive views P → HasLive views' P
    keeps P keep take = still whole caller_of key views r.history r.seated id v at live other w at_other live_other apart both_dues nobody refl P keep take

    front_v : IsPrefix v.front both.front
    front_v = from_v whole caller_of key views r.history r.seated id v at live other w at_other live_other apart both_dues nobody refl

    front_w : IsPrefix w.front both.front
    front_w = from_w whole caller_of key views r.history r.seated id v at live other w at_other live_other apart both_dues nobody refl

    both_owing : (c : ℕ) → Contains both.dues.owed c → HasSome (state_of both.front) c
    both_owing c has =
        elim (Contains-append_cases v.dues.owed w.dues.owed c has) [
          | inl mine ↦ some_prefix v.front both.front c front_v (r.owing id v at live c mine)
          | inr theirs ↦ some_prefix w.front both.front c front_w (r.owing other w at_other live_other c theirs)
        ]

    both_saw : (c n : ℕ) → HasSeen both.dues.seen c n → IsTrue key words c n
    both_saw c n has =
        elim (Contains-append_cases v.dues.seen w.dues.seen (record { cell = c; word = n }) has) [
          | inl mine ↦ r.saw id v at live c n mine
          | inr theirs ↦ r.saw other w at_other live_other c n theirs
        ]

    counted_then : (weigh : ℕ → ℕ) → dues_of weigh views' ≡ dues_of weigh views
    counted_then weigh =
        let a = dues-set weigh (set views id both) other w nobody (first_at whole caller_of key views r.history r.seated id v at live other w at_other live_other apart both_dues nobody refl) in
        let b = dues-set weigh views id v both at in
        let x = due_live weigh v live in let y = due_live weigh w live_other in let z : due weigh both ≡ sum_by weigh (v.dues.owed ++ w.dues.owed) = due_live weigh both live_both in
        let none = due_spent weigh nobody refl in let sums = sum_by-append weigh v.dues.owed w.dues.owed in omega arith

    none_waits : (c : ℕ) → w.dues.pending ≡ Some c → both.dues.pending ≡ Some c
    none_waits c waits = absurd (let e : None ≡ Some c = sym idle ∙ waits in cc)

    still_alone : (c : ℕ) → HasSome (state_of r.history) c ⊎ IsPending views c → HasSome (state_of r.history) c ⊎ IsPending views' c
    still_alone c (inl there) = inl there
    still_alone c (inr waits) = inr (keeps (λ u. u.dues.pending ≡ Some c) (λ h. h) (none_waits c) waits)

    still_covered : (c : ℕ) → IsWhole (flat key) (state_of r.history) c ⊎ IsOwed views c → IsWhole (flat key) (state_of r.history) c ⊎ IsOwed views' c
    still_covered c (inl done) = inl done
    still_covered c (inr owes) = inr (keeps (λ u. Contains u.dues.owed c) (Contains-append_left v.dues.owed w.dues.owed c) (Contains-append_right v.dues.owed w.dues.owed c) owes)

    runs : IsRunning key words views'
    runs = record {
      history = r.history;
      seated = joins_up whole caller_of key views r.history r.seated id v at live other w at_other live_other apart both_dues nobody refl;
      world = r.world;
      legal = r.legal;
      laid = r.laid;
      placed = r.placed;
      alone = λ c below some_word. still_alone c (r.alone c below some_word);
      saw = each whole caller_of key views r.history r.seated id v at live other w at_other live_other apart both_dues nobody refl
          (λ j u. (c n : ℕ) → HasSeen u.dues.seen c n → IsTrue key words c n) both_saw (λ j u there away alive. r.saw j u there alive);
      owing = each whole caller_of key views r.history r.seated id v at live other w at_other live_other apart both_dues nobody refl
          (λ j u. (c : ℕ) → Contains u.dues.owed c → HasSome (state_of u.front) c) both_owing (λ j u there away alive. r.owing j u there alive);
      covered = λ c x there. still_covered c (r.covered c x there);
      counted = λ weigh. counted_then weigh ∙ r.counted weigh;
    }

  pub join_allowed : Joins (λ (s : TableState Unit WideView). IsRunning key s.words s.views) id v other w both nobody
  join_allowed s r at apart there = runs r at apart (sym (set_else s.views id other both apart) ∙ there)
