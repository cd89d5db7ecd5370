-- A seat is split: the rule holds of the two views.
use Rattle.std.proofs.Common.{◌≡◌, ◌≢◌, refl, sym, ap, ◌∙◌, ℕ, ◌+◌, ◌<◌, ◌≤◌, ◌&&◌, ◌⊎◌, inl, inr, ⊎_elim, Bool, true, false, not, nat_eq, if◌then◌else◌, List, [], ◌∷◌, ◌++◌, length, set, Contains, arith}
use Rattle.std.specs.Set.{is_member}
use Rattle.std.proofs.lemmas.Grind.{common_steps}
use Rattle.std.proofs.lemmas.List.Filters.{length-filter_both}
use mathlib.Core.Option.{some}
use lib.ListN.{get_elem?}
use Rattle.atomic_table.specs.Table.{Splits}
use Rattle.list_facts.proofs.Lists.{filter_keeps}
use Rattle.tensor_words.specs.Worlds.{WorldType}
use Rattle.graph_history.specs.declared.view.Dues.{Dues}
use Rattle.graph_history.specs.Views.{View}
use Rattle.graph_history.specs.History.{State, state_of, caller_of}
use Rattle.graph_history.specs.Notes.{no_dues}
use Rattle.graph_history.proofs.CellLists.{keep_all, keep_none, part_of, distinct_part}
use Rattle.shared_seats.proofs.Splitting.{sound_left, sound_right, each, still, cuts}
use Rattle.graph_rule.specs.Rule.{whole, debts_of, IsUnpaid, IsDues, IsKnown, IsComplete, Owes, IsRunning}
use Rattle.graph_rule.specs.Parting.{cut_left, cut_right, left_dues, right_dues, hand_left, hand_right}
use Rattle.graph_rule.proofs.Sums.{due_live, debts-set, debts-push}

-- the dues of the two halves
pub left_known : (s : State) (cells : List ℕ) (d : Dues) → IsDues s d → IsDues s (left_dues cells d)
left_known s cells d D = record {
  owed = λ c h. D.owed c (part_of (λ x. not (is_member nat_eq cells x)) d.owed c h).0;
  among = λ c h. let both = part_of (λ x. not (is_member nat_eq cells x)) d.unpaid c h in filter_keeps (λ x. not (is_member nat_eq cells x)) d.owed c (D.among c both.0) both.1;
  once = distinct_part (λ x. not (is_member nat_eq cells x)) d.unpaid D.once;
  pledge = D.pledge;
}

pub right_known : (s : State) (cells : List ℕ) (d : Dues) → IsDues s d → IsDues s (right_dues cells d)
right_known s cells d D = record {
  owed = λ c h. D.owed c (part_of (is_member nat_eq cells) d.owed c h).0;
  among = λ c h. let both = part_of (is_member nat_eq cells) d.unpaid c h in filter_keeps (is_member nat_eq cells) d.owed c (D.among c both.0) both.1;
  once = distinct_part (is_member nat_eq cells) d.unpaid D.once;
  pledge = omega arith;
}

parts_count : (cells : List ℕ) (d : Dues) → length (left_dues cells d).unpaid + length (right_dues cells d).unpaid ≡ length d.unpaid
parts_count cells d =
    let both = length-filter_both (is_member nat_eq cells) (λ c. not (is_member nat_eq cells c)) (λ c. refl) d.unpaid in omega arith

-- where no cell goes over
pub none_left : (count stake : ℕ) (v : View) → hand_left count stake [] v ≡ cut_left count stake v
none_left count stake v = λ i. record (cut_left count stake v) { dues = record v.dues { owed = keep_all v.dues.owed i; unpaid = keep_all v.dues.unpaid i } }

pub none_right : (count stake : ℕ) (v : View) → hand_right count stake [] v ≡ cut_right count stake v
none_right count stake v = λ i. record (cut_right count stake v) { dues = record no_dues { owed = keep_none v.dues.owed i; unpaid = keep_none v.dues.unpaid i } }

-- the two views by themselves
pub left_view : (count stake : ℕ) (cells : List ℕ) (v : View) → IsKnown v → count ≤ v.left → stake < v.stake → IsKnown (hand_left count stake cells v)
left_view count stake cells v K numbers less = record {
  sound = sound_left whole caller_of (left_dues cells v.dues) count stake v K.sound numbers less;
  world = K.world;
  legal = K.legal;
  dues = left_known (state_of v.front) cells v.dues K.dues;
}

pub right_view : (count stake : ℕ) (cells : List ℕ) (v : View) → IsKnown v → 1 ≤ count → count ≤ v.left → 1 ≤ stake → stake < v.stake → IsKnown (hand_right count stake cells v)
right_view count stake cells v K some_numbers numbers some_stake less = record {
  sound = sound_right whole caller_of (right_dues cells v.dues) count stake v K.sound some_numbers numbers some_stake less;
  world = K.world;
  legal = K.legal;
  dues = right_known (state_of v.front) cells v.dues K.dues;
}

-- neither of them has the whole stake
pub left_complete : (count stake : ℕ) (cells : List ℕ) (v : View) → IsKnown v → 1 ≤ stake → stake < v.stake → IsComplete (hand_left count stake cells v)
left_complete count stake cells v K some_stake less all = let most = K.sound.staked in absurd (omega arith)

pub right_complete : (count stake : ℕ) (cells : List ℕ) (v : View) → IsKnown v → stake < v.stake → IsComplete (hand_right count stake cells v)
right_complete count stake cells v K less all = let most = K.sound.staked in absurd (omega arith)

-- who pays a cell once the new seat has these cells of the seat id
abbrev handed : (ℕ → ℕ) → List ℕ → ℕ → ℕ → ℕ → ℕ
handed payer cells id new c = if is_member nat_eq cells c && nat_eq (payer c) id then new else payer c

handed_here : (payer : ℕ → ℕ) (cells : List ℕ) (id new c : ℕ) → is_member nat_eq cells c ≡ true → payer c ≡ id → handed payer cells id new c ≡ new
handed_here payer cells id new c p q = grind (arith, common_steps)

handed_left : (payer : ℕ → ℕ) (cells : List ℕ) (id new c : ℕ) → not (is_member nat_eq cells c) ≡ true → handed payer cells id new c ≡ payer c
handed_left payer cells id new c p = grind (arith, common_steps)

handed_else : (payer : ℕ → ℕ) (cells : List ℕ) (id new c : ℕ) → payer c ≢ id → handed payer cells id new c ≡ payer c
handed_else payer cells id new c p = grind (arith, common_steps)

module _ (key : WorldType) (words : List ℕ) (views : List View) (R : IsRunning key words views) (id : ℕ) (v : View) (at : get_elem? views id ≡ some v) (live : 0 < v.stake)
    (count stake : ℕ) (cells : List ℕ) (some_numbers : 1 ≤ count) (numbers : count ≤ v.left) (some_stake : 1 ≤ stake) (less : stake < v.stake) where
  abbrev left : View
  left = hand_left count stake cells v

  abbrev right : View
  right = hand_right count stake cells v

  abbrev cut_views : List View
  cut_views = set views id left ++ right ∷ []

  abbrev new : ℕ
  new = length (set views id left)

  abbrev payer : ℕ → ℕ
  payer = handed R.payer cells id new

  here : Owes R.payer id v
  here = R.owing id v at live

  left_owes : Owes payer id left
  left_owes = record {
    dues = left_known (state_of v.front) cells v.dues here.dues;
    pays = λ c h.
        let both = part_of (λ x. not (is_member nat_eq cells x)) v.dues.unpaid c h in
        handed_left R.payer cells id new c both.1 ∙ here.pays c both.0;
  }

  right_owes : Owes payer new right
  right_owes = record {
    dues = right_known (state_of v.front) cells v.dues here.dues;
    pays = λ c h.
        let both = part_of (is_member nat_eq cells) v.dues.unpaid c h in
        handed_here R.payer cells id new c both.1 (here.pays c both.0);
  }

  others_owe : (j : ℕ) (u : View) → get_elem? views j ≡ some u → j ≢ id → 0 < u.stake → Owes payer j u
  others_owe j u there other alive =
      let o = R.owing j u there alive in
      record { dues = o.dues; pays = λ c got. handed_else R.payer cells id new c (λ e. other (sym (o.pays c got) ∙ e)) ∙ o.pays c got }

  parts_counted : debts_of cut_views ≡ debts_of views
  parts_counted =
      let a = debts-push (set views id left) right in let b = debts-set views id v left at in
      let c = due_live v live in let d = due_live left (omega arith) in let e = due_live right (omega arith) in
      let f = parts_count cells v.dues in omega arith

  parts_unpaid : (c : ℕ) → IsUnpaid views c → IsUnpaid cut_views c
  parts_unpaid c owed =
      still whole caller_of key views R.history R.seated id v at (left_dues cells v.dues) (right_dues cells v.dues) count stake some_numbers numbers some_stake less
      (λ u. Contains u.dues.unpaid c) (by_member (is_member nat_eq cells c) refl) owed
    where
      by_member : (b : Bool) → is_member nat_eq cells c ≡ b → Contains v.dues.unpaid c → Contains left.dues.unpaid c ⊎ Contains right.dues.unpaid c
      by_member true is mine = inr (filter_keeps (is_member nat_eq cells) v.dues.unpaid c mine is)
      by_member false is mine = inl (filter_keeps (λ x. not (is_member nat_eq cells x)) v.dues.unpaid c mine (ap not is))

  pub splits : IsRunning key words cut_views
  splits = record {
    history = R.history;
    seated = cuts whole caller_of key views R.history R.seated id v at (left_dues cells v.dues) (right_dues cells v.dues) count stake some_numbers numbers some_stake less;
    payer = payer;
    world = R.world;
    legal = R.legal;
    laid = R.laid;
    placed = R.placed;
    owing = each whole caller_of key views R.history R.seated id v at (left_dues cells v.dues) (right_dues cells v.dues) count stake some_numbers numbers some_stake less
        (λ j u. Owes payer j u) left_owes right_owes others_owe;
    counted = R.counted ∙ sym parts_counted;
    covered = λ c x h. ⊎_elim (λ all. inl all) (λ some_one. inr (parts_unpaid c some_one)) (R.covered c x h);
  }

-- a seat may always be split so
pub parts : (key : WorldType) (id : ℕ) (v : View) (count stake : ℕ) (cells : List ℕ) → 1 ≤ count → count ≤ v.left → 1 ≤ stake → stake < v.stake
    → Splits {S = Unit} (λ s. IsRunning key s.words s.views) id v (hand_left count stake cells v) (hand_right count stake cells v)
parts key id v count stake cells some_numbers numbers some_stake less s R at =
    splits key s.words s.views R id v at (omega arith) count stake cells some_numbers numbers some_stake less
