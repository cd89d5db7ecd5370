-- A seat is split in two: the rule holds again, and both know what a seat knows.
use Rattle.std.proofs.Common.{◌≡◌, ◌∙◌, ℕ, ◌<◌, ◌≤◌, ◌⊎◌, inl, inr, List, [], ◌∷◌, ◌++◌, set, sum_by, Some, Contains, arith}
use mathlib.Core.Option.{some}
use lib.ListN.{get_elem?}
use Rattle.atomic_table.specs.Table.{State as TableState, Splits}
use Rattle.list_facts.proofs.Lists.{nothing_in}
use Rattle.graph_history.specs.History.{state_of, HasSome, IsWhole, caller_of}
use Rattle.shared_seats.specs.Seats.{HasLive}
use Rattle.shared_seats.proofs.Splitting.{sound_left, sound_right, each, still, cuts}
use Rattle.wide_words.specs.WideHistory.{WideWorldType, flat}
use Rattle.wide_rule.specs.Layout.{HasSeen}
use Rattle.wide_rule.specs.Rule.{WideView, whole, IsKnown, IsComplete, IsPending, IsOwed, IsTrue, IsRunning, due, dues_of}
use Rattle.wide_rule.specs.Parting.{nothing, cut_left, cut_right}
use Rattle.wide_rule.proofs.Sums.{due_live, dues-set, dues-push}

-- the two seats by themselves
module _ (numbers stake : ℕ) (v : WideView) (known : IsKnown v) where
  pub left_known : numbers ≤ v.left → stake < v.stake → IsKnown (cut_left numbers stake v)
  left_known enough less = record { sound = sound_left whole caller_of v.dues numbers stake v known.sound enough less; world = known.world; legal = known.legal; owed = known.owed }

  pub right_known : 1 ≤ numbers → numbers ≤ v.left → 1 ≤ stake → stake < v.stake → IsKnown (cut_right numbers stake v)
  right_known some_numbers enough some_stake less = record {
    sound = sound_right whole caller_of nothing numbers stake v known.sound some_numbers enough some_stake less;
    world = known.world;
    legal = known.legal;
    owed = λ c has. absurd (nothing_in c has);
  }

  -- neither has the whole stake
  pub left_complete : 1 ≤ stake → stake < v.stake → IsComplete (cut_left numbers stake v)
  left_complete some_stake less all = let most = known.sound.staked in absurd (omega arith)

  pub right_complete : stake < v.stake → IsComplete (cut_right numbers stake v)
  right_complete less all = let most = known.sound.staked in absurd (omega arith)

module _ (key : WideWorldType) (id : ℕ) (v : WideView) (numbers stake : ℕ) (some_numbers : 1 ≤ numbers) (enough : numbers ≤ v.left) (some_stake : 1 ≤ stake) (less : stake < v.stake) where
  abbrev left : WideView
  left = cut_left numbers stake v

  abbrev right : WideView
  right = cut_right numbers stake v

  module _ {words : List ℕ} {views : List WideView} (r : IsRunning key words views) (at : get_elem? views id ≡ some v) where
    live : 0 < v.stake
    live = omega arith

    live_left : 0 < left.stake
    live_left = omega arith

    abbrev views' : List WideView
    views' = set views id left ++ right ∷ []

    -- a view that was so is so yet, or the left one is
    keeps : (P : WideView → Type 0) → (P v → P left) → HasLive views P → HasLive views' P
    keeps P keep = still whole caller_of key views r.history r.seated id v at v.dues nothing numbers stake some_numbers enough some_stake less P (λ has. inl (keep has))

    counted_then : (weigh : ℕ → ℕ) → dues_of weigh views' ≡ dues_of weigh views
    counted_then weigh =
        let a = dues-push weigh (set views id left) right in let b = dues-set weigh views id v left at in
        let x = due_live weigh v live in let y : due weigh left ≡ sum_by weigh v.dues.owed = due_live weigh left live_left in
        let z : due weigh right ≡ 0 = due_live weigh right some_stake in omega arith

    still_alone : (c : ℕ) → HasSome (state_of r.history) c ⊎ IsPending views c → HasSome (state_of r.history) c ⊎ IsPending views' c
    still_alone c (inl there) = inl there
    still_alone c (inr waits) = inr (keeps (λ u. u.dues.pending ≡ Some c) (λ h. h) waits)

    still_covered : (c : ℕ) → IsWhole (flat key) (state_of r.history) c ⊎ IsOwed views c → IsWhole (flat key) (state_of r.history) c ⊎ IsOwed views' c
    still_covered c (inl done) = inl done
    still_covered c (inr owes) = inr (keeps (λ u. Contains u.dues.owed c) (λ h. h) owes)

    runs : IsRunning key words views'
    runs = record {
      history = r.history;
      seated = cuts whole caller_of key views r.history r.seated id v at v.dues nothing numbers stake some_numbers enough some_stake less;
      world = r.world;
      legal = r.legal;
      laid = r.laid;
      placed = r.placed;
      alone = λ c below some_word. still_alone c (r.alone c below some_word);
      saw = each whole caller_of key views r.history r.seated id v at v.dues nothing numbers stake some_numbers enough some_stake less
          (λ j u. (c n : ℕ) → HasSeen u.dues.seen c n → IsTrue key words c n) (r.saw id v at live) (λ c n has. absurd (nothing_in _ has)) (λ j u there other alive. r.saw j u there alive);
      owing = each whole caller_of key views r.history r.seated id v at v.dues nothing numbers stake some_numbers enough some_stake less
          (λ j u. (c : ℕ) → Contains u.dues.owed c → HasSome (state_of u.front) c) (r.owing id v at live) (λ c has. absurd (nothing_in c has)) (λ j u there other alive. r.owing j u there alive);
      covered = λ c x there. still_covered c (r.covered c x there);
      counted = λ weigh. counted_then weigh ∙ r.counted weigh;
    }

  pub parts : Splits (λ (s : TableState Unit WideView). IsRunning key s.words s.views) id v left right
  parts s r at = runs r at
