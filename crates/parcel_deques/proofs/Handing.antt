-- A seat to which unpaid cells were handed over is one that a parcel may have.
use Rattle.std.proofs.Common.{◌≡◌, ◌∙◌, sym, ap, subst, ℕ, ◌≤◌, nat_eq, List, length, All, Contains}
use Rattle.std.specs.List.{IsDistinct}
use Rattle.std.specs.Set.{is_member}
use Rattle.std.proofs.lemmas.List.Elements.{All-weaker, All-contains_itself}
use Rattle.graph_history.specs.declared.event.Event.{Event}
use Rattle.graph_history.specs.Views.{View}
use Rattle.graph_history.specs.History.{state_of, HasSome}
use Rattle.graph_history.proofs.CellLists.{into, out_of, part_of}
use Rattle.list_facts.proofs.Lists.{filter_keeps}
use Rattle.graph_rule.specs.Rule.{IsKnown}
use Rattle.graph_rule.specs.Parting.{hand_right}
use Rattle.graph_rule.specs.Values.{GraphValue, SeatValue, Belongs}
use Rattle.parcel_deques.specs.Parcels.{IsHanded}

pub unpaid_there : (v : View) (cells : List ℕ) → IsKnown v → ((c : ℕ) → Contains cells c → Contains v.dues.unpaid c) → All (HasSome (state_of v.front)) cells
unpaid_there v cells known unpaid = All-weaker (Contains cells) (HasSome (state_of v.front)) (λ c h. known.dues.owed c (known.dues.among c (unpaid c h))) cells (All-contains_itself cells)

pub handed_on : (g : GraphValue) (s child : SeatValue) (stake : ℕ) (cells : List ℕ) → Belongs s g → IsKnown s.view → length cells ≤ 64 → IsDistinct nat_eq cells
    → ((c : ℕ) → Contains cells c → Contains s.view.dues.unpaid c) → child.table ≡ s.table → child.view ≡ hand_right 1 stake cells s.view → IsHanded g cells child
handed_on g s child stake cells belongs known few once unpaid table view = record {
  belongs = record { table = table ∙ belongs.table; world = ap (λ (v : View). v.world) view ∙ belongs.world };
  unheard = ap (λ (v : View). v.calls) view;
  alone = ap (λ (v : View). v.kept) view;
  pledge = ap (λ (v : View). v.dues.pledge) view;
  few = few;
  once = once;
  there = subst (λ (f : List Event). All (HasSome (state_of f)) cells) (sym (ap (λ (v : View). v.front) view)) (unpaid_there s.view cells known unpaid);
  owed = λ c h. out_of cells c ((part_of (is_member nat_eq cells) s.view.dues.owed c (subst (λ (v : View). Contains v.dues.owed c) view h)).1);
  unpaid = λ c h. subst (λ (v : View). Contains v.dues.unpaid c) (sym view) (filter_keeps (is_member nat_eq cells) s.view.dues.unpaid c (unpaid c h) (into cells c h));
  no_other = λ c h. out_of cells c ((part_of (is_member nat_eq cells) s.view.dues.unpaid c (subst (λ (v : View). Contains v.dues.unpaid c) view h)).1);
}
