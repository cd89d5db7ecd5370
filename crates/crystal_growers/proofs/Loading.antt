-- Cells that are loaded on benches, and the seats of growers that are split off.
use Rattle.std.proofs.Common.{◌≡◌, refl, sym, ap, ap₂, subst, ◌∙◌, ℕ, zero, suc, ◌+◌, ◌-◌, ◌*◌, ◌/◌, ◌^◌, ◌<◌, ◌≤◌, ◌⊎◌, inl, inr, nat_eq, List, [], ◌∷◌, ◌++◌, length, take, drop, get_or, set, Contains, append-nil, append_assoc, length-append, arith}
use Rattle.std.specs.List.{IsDistinct}
use Rattle.std.proofs.Math.Nat.{mul-le-mul_right}
use Rattle.std.proofs.lemmas.Nat.{div-add-mod', le-div}
use Rattle.std.proofs.lemmas.Bool.{cases_eq, cases_lt}
use Rattle.std.proofs.lemmas.Grind.{get_or-set_at}
use Rattle.std.proofs.lemmas.List.{take-append-drop, take-take, drop-take, drop-drop, length-set, drop_more, drop_all, length-drop, length_push, get_or_append_left, get_or_push, get_or-set_other}
use Rattle.std.proofs.lemmas.List.Elements.{All-weaker, All-contains_itself, Contains-append_left, Contains-append_right, Contains-append_cases, Contains-push_cases}
use Rattle.list_facts.proofs.Lists.{nothing_in, in_rest}
use Rattle.graph_history.specs.declared.event.Event.{Event}
use Rattle.graph_history.specs.declared.view.Dues.{Dues}
use Rattle.graph_history.specs.Views.{View}
use Rattle.graph_history.specs.History.{state_of, HasSome}
use Rattle.graph_history.proofs.CellLists.{keep_all}
use Rattle.graph_rule.specs.Rule.{IsUnused, IsKnown}
use Rattle.graph_rule.specs.Parting.{cut_left, cut_right, left_dues, hand_left}
use Rattle.graph_rule.specs.Values.{GraphValue, SeatValue, Belongs}
use Rattle.parcel_deques.specs.declared.parcel.Slip.{Slip}
use Rattle.parcel_deques.specs.Lists.{weigh, SameItems}
use Rattle.parcel_deques.specs.Ends.{DequeId}
use Rattle.parcel_deques.specs.Benches.{BenchValue}
use Rattle.parcel_deques.specs.Making.{IsApart, AreNew}
use Rattle.parcel_deques.proofs.Weights.{weigh-append}
use Rattle.crystal_growers.specs.declared.grower.Start.{Start}
use Rattle.crystal_growers.specs.Slips.{slip_stakes, HasCell, all_pushed}
use Rattle.crystal_growers.specs.Drawing.{CanDraw}
use Rattle.crystal_growers.specs.Grower.{HasPushed}
use Rattle.crystal_growers.specs.Gathering.{numbers, AreIdle, HasLoaded, IsStart, AreStarts, worth, starting_slips, HasStarted}
use Rattle.crystal_growers.specs.Growth.{IsLost, HasBegun}
use Rattle.crystal_growers.proofs.Coming.{lost_gave}
use Rattle.crystal_growers.proofs.Parts.{rest_both, rest_has, distinct_split}
use Rattle.crystal_growers.proofs.SlipCells.{no_cell, in_one, cell_front, cell_back, cell_or, same_cells}

-- one bench pushed a slip
pub pushed_more : (bs : List BenchValue) (k : ℕ) (d b : BenchValue) (x : Slip) → k < length bs → HasPushed (get_or bs k d) b (x ∷ []) → SameItems (all_pushed bs ++ x ∷ []) (all_pushed (set bs k b))
pushed_more [] k d b x within is = absurd (omega arith)
pushed_more (c ∷ bs) zero d b x within is = λ h.
    let more : weigh h b.pushed ≡ weigh h c.pushed + (h x + 0) = ap (λ (y : BenchValue). weigh h y.pushed) is ∙ weigh-append h c.pushed (x ∷ []) in
    let old = weigh-append h c.pushed (all_pushed bs) in
    let all = weigh-append h (c.pushed ++ all_pushed bs) (x ∷ []) in
    let new = weigh-append h b.pushed (all_pushed bs) in
    omega arith
pushed_more (c ∷ bs) (suc k) d b x within is = λ h.
    let rest = pushed_more bs k d b x (omega arith) is h in
    let old = weigh-append h c.pushed (all_pushed bs) in
    let all = weigh-append h (c.pushed ++ all_pushed bs) (x ∷ []) in
    let some = weigh-append h (all_pushed bs) (x ∷ []) in
    let new = weigh-append h c.pushed (all_pushed (set bs k b)) in
    omega arith

-- the parts of a list, one after another
take_both : (a n : ℕ) (xs : List ℕ) → take a xs ++ take n (drop a xs) ≡ take (a + n) xs
take_both a n xs = ap₂ (λ (k l : List ℕ). k ++ l) (sym (take-take a (a + n) xs (omega arith))) (sym (drop-take a n xs)) ∙ take-append-drop a (take (a + n) xs)

left_both : (xs ys : List ℕ) (d : Dues) → left_dues ys (left_dues xs d) ≡ left_dues (xs ++ ys) d
left_both xs ys d = λ i. record d { owed = rest_both xs ys d.owed i; unpaid = rest_both xs ys d.unpaid i }

left_none : (d : Dues) → left_dues [] d ≡ d
left_none d = λ i. record d { owed = keep_all d.owed i; unpaid = keep_all d.unpaid i }

-- a bench on which so many parcels were loaded at most
pub record IsLoaded (call : List DequeId) (capacity parcels k : ℕ) (b : BenchValue) : Type 0 where
  pub apart : IsApart call k b
  pub taken : b.taken ≡ []
  pub few : length b.pushed ≤ parcels
  pub room : capacity ≤ b.capacity

-- so many parcels of 64 cells are loaded, one after another
pub record IsLoading (first now : SeatValue) (cells rest : List ℕ) (count capacity parcels : ℕ) (benches : List BenchValue) : Type 0 where
  pub rest_is : rest ≡ drop (parcels * 64) cells
  pub table : now.table ≡ first.table
  pub view : now.view ≡ record first.view { next = first.view.next + parcels; left = first.view.left - parcels; stake = now.view.stake; dues = left_dues (take (parcels * 64) cells) first.view.dues }
  pub counted : now.view.stake + parcels ≡ first.view.stake
  pub stake : now.view.stake + slip_stakes (all_pushed benches) ≡ first.view.stake
  pub enough : count < now.view.stake
  pub has : (c : ℕ) → Contains (take (parcels * 64) cells) c → HasCell (all_pushed benches) c
  pub many : length benches ≡ count
  pub call : List DequeId
  pub long : length call ≡ count
  pub each : (k : ℕ) (d : BenchValue) → k < count → IsLoaded call capacity parcels k (get_or benches k d)

no_slips : (bs : List BenchValue) → ((k : ℕ) (d : BenchValue) → k < length bs → (get_or bs k d).pushed ≡ []) → all_pushed bs ≡ []
no_slips [] none = refl
no_slips (b ∷ bs) none = ap₂ (λ (k l : List Slip). k ++ l) (none 0 b (omega arith)) (no_slips bs (λ k d below. none (suc k) d (omega arith)))

pub loading_none : (s : SeatValue) (cells : List ℕ) (count capacity : ℕ) (benches : List BenchValue) → length benches ≡ count → count < s.view.stake → AreNew count capacity benches → IsLoading s s cells cells count capacity 0 benches
loading_none s cells count capacity benches many enough new = record {
  rest_is = ap (λ (n : ℕ). drop n cells) zero_times;
  table = refl;
  view = λ i. record s.view { next = next i; left = left i; dues = dues i };
  counted = omega arith;
  stake = ap (λ (l : List Slip). s.view.stake + slip_stakes l) none ∙ (let e : s.view.stake + 0 ≡ s.view.stake = omega arith in e);
  enough = enough;
  has = λ c h. absurd (nothing_in c (subst (λ (n : ℕ). Contains (take n cells) c) (sym zero_times) h));
  many = many;
  call = new.call;
  long = new.long;
  each = λ k d below. let n = new.each k d below in record { apart = n.apart; taken = n.taken; few = let e = ap length n.pushed in omega arith; room = n.room };
}
  where
    zero_times : 0 ≡ 0 * 64
    zero_times = omega arith

    next : s.view.next ≡ s.view.next + 0
    next = omega arith

    left : s.view.left ≡ s.view.left - 0
    left = omega arith

    dues : s.view.dues ≡ left_dues (take (0 * 64) cells) s.view.dues
    dues = sym (left_none s.view.dues) ∙ ap (λ (n : ℕ). left_dues (take n cells) s.view.dues) zero_times

    none : all_pushed benches ≡ []
    none = no_slips benches (λ k d below. (new.each k d (let m = many in omega arith)).pushed)

-- the next parcel
module _ (first mid now : SeatValue) (cells rest part later : List ℕ) (count capacity parcels place : ℕ) (benches : List BenchValue) (d b : BenchValue) (x : Slip)
    (p : IsLoading first mid cells rest count capacity parcels benches) (within : place < count) (part_is : part ≡ take 64 rest) (later_is : later ≡ drop 64 rest) where
  more : parcels * 64 + 64 ≡ (parcels + 1) * 64
  more = omega arith

  part_at : part ≡ take 64 (drop (parcels * 64) cells)
  part_at = part_is ∙ ap (λ (l : List ℕ). take 64 l) p.rest_is

  both : take (parcels * 64) cells ++ part ≡ take ((parcels + 1) * 64) cells
  both = ap (λ (l : List ℕ). take (parcels * 64) cells ++ l) part_at ∙ take_both (parcels * 64) 64 cells ∙ ap (λ (n : ℕ). take n cells) more

  pub loading_next : now.table ≡ mid.table → now.view ≡ hand_left 1 1 part mid.view → count + 1 < mid.view.stake → HasPushed (get_or benches place d) b (x ∷ []) → x.cells ≡ part → x.stake ≡ 1
      → IsLoading first now cells later count capacity (parcels + 1) (set benches place b)
  loading_next table view some pushed x_cells x_stake = record {
    rest_is = later_is ∙ ap (λ (l : List ℕ). drop 64 l) p.rest_is ∙ drop-drop 64 (parcels * 64) cells ∙ ap (λ (n : ℕ). drop n cells) more;
    table = table ∙ p.table;
    view = view ∙ ap (λ (v : View). hand_left 1 1 part v) p.view ∙ (λ i. record first.view { next = next i; left = left i; stake = stake_is i; dues = dues i });
    counted = let k = p.counted in let l = less in omega arith;
    stake = let k = p.stake in let l = less in let w = same (λ (y : Slip). y.stake) in let a = weigh-append (λ (y : Slip). y.stake) (all_pushed benches) (x ∷ []) in omega arith;
    enough = let l = less in omega arith;
    has = λ c h. same_cells (all_pushed benches ++ x ∷ []) (all_pushed (set benches place b)) c same
        (elim (Contains-append_cases (take (parcels * 64) cells) part c (subst (λ (l : List ℕ). Contains l c) (sym both) h)) [
          | inl l ↦ cell_front (all_pushed benches) (x ∷ []) c (p.has c l)
          | inr r ↦ cell_back (all_pushed benches) (x ∷ []) c (in_one x c (subst (λ (l : List ℕ). Contains l c) (sym x_cells) r))
        ]);
    many = length-set benches place b ∙ p.many;
    call = p.call;
    long = p.long;
    each = each;
  }
    where
      less : now.view.stake ≡ mid.view.stake - 1
      less = ap (λ (v : View). v.stake) view

      next : first.view.next + parcels + 1 ≡ first.view.next + (parcels + 1)
      next = omega arith

      left : first.view.left - parcels - 1 ≡ first.view.left - (parcels + 1)
      left = omega arith

      stake_is : mid.view.stake - 1 ≡ now.view.stake
      stake_is = sym less

      dues : left_dues part (left_dues (take (parcels * 64) cells) first.view.dues) ≡ left_dues (take ((parcels + 1) * 64) cells) first.view.dues
      dues = left_both (take (parcels * 64) cells) part first.view.dues ∙ ap (λ (l : List ℕ). left_dues l first.view.dues) both

      in_benches : place < length benches
      in_benches = let m = p.many in omega arith

      same : SameItems (all_pushed benches ++ x ∷ []) (all_pushed (set benches place b))
      same = pushed_more benches place d b x in_benches pushed

      longer : length b.pushed ≡ length (get_or benches place d).pushed + 1
      longer = ap (λ (y : BenchValue). length y.pushed) pushed ∙ length-append (get_or benches place d).pushed (x ∷ [])

      here : IsLoaded p.call capacity (parcels + 1) place b
      here =
          let o = p.each place d within in
          record {
            apart = record {
              number = ap (λ (y : BenchValue). y.number) pushed ∙ o.apart.number;
              call_is = ap (λ (y : BenchValue). y.call) pushed ∙ o.apart.call_is;
              home = ap (λ (y : BenchValue). y.home) pushed ∙ o.apart.home;
              away = ap (λ (y : BenchValue). y.away) pushed ∙ o.apart.away;
            };
            taken = ap (λ (y : BenchValue). y.taken) pushed ∙ o.taken;
            few = let f = o.few in let l = longer in omega arith;
            room = let r = o.room in let e : b.capacity ≡ (get_or benches place d).capacity = ap (λ (y : BenchValue). y.capacity) pushed in omega arith;
          }

      each : (k : ℕ) (e : BenchValue) → k < count → IsLoaded p.call capacity (parcels + 1) k (get_or (set benches place b) k e)
      each k e below = elim (cases_eq k place) [
        | inl is ↦ subst (λ (y : BenchValue). IsLoaded p.call capacity (parcels + 1) k y) (sym (get_or-set_at benches place k b e is in_benches)) (subst (λ (n : ℕ). IsLoaded p.call capacity (parcels + 1) n b) (sym is) here)
        | inr other ↦ subst (λ (y : BenchValue). IsLoaded p.call capacity (parcels + 1) k y) (sym (get_or-set_other benches place k b e other))
            (let o = p.each k e below in record { apart = o.apart; taken = o.taken; few = let f = o.few in omega arith; room = o.room })
      ]

-- the cells that are left have a bench with room
pub room_left : (first mid : SeatValue) (cells rest : List ℕ) (count capacity parcels : ℕ) (benches : List BenchValue) (k : ℕ) (d : BenchValue) → IsLoading first mid cells rest count capacity parcels benches
    → k < count → 0 < length rest → length cells ≤ capacity * 64 → length (get_or benches k d).pushed < (get_or benches k d).capacity
room_left first mid cells rest count capacity parcels benches k d p below some fits =
    let o = p.each k d below in
    let f = o.few in
    let r = o.room in
    let l : length rest ≡ length cells - parcels * 64 = ap length p.rest_is ∙ length-drop (parcels * 64) cells in
    omega arith

-- the cells that are left can be drawn still
pub can_rest : (g : GraphValue) (first mid : SeatValue) (cells rest : List ℕ) (count capacity parcels : ℕ) (benches : List BenchValue) → CanDraw g cells first → IsKnown mid.view
    → IsLoading first mid cells rest count capacity parcels benches → CanDraw g (take 64 rest) mid
can_rest g first mid cells rest count capacity parcels benches can known p = record {
  belongs = record { table = p.table ∙ can.belongs.table; world = ap (λ (v : View). v.world) p.view ∙ can.belongs.world };
  pledge = ap (λ (v : View). v.dues.pledge) p.view ∙ can.pledge;
  once = (distinct_split (take 64 rest) (drop 64 rest) (subst (λ (l : List ℕ). IsDistinct nat_eq l) (sym (take-append-drop 64 rest)) apart.1)).0;
  there = All-weaker (Contains (take 64 rest)) (HasSome (state_of mid.view.front)) (λ c h. known.dues.owed c (known.dues.among c (unpaid c h))) (take 64 rest) (All-contains_itself (take 64 rest));
  unpaid = unpaid;
}
  where
    split : take (parcels * 64) cells ++ rest ≡ cells
    split = ap (λ (l : List ℕ). take (parcels * 64) cells ++ l) p.rest_is ∙ take-append-drop (parcels * 64) cells

    apart : IsDistinct nat_eq (take (parcels * 64) cells) × IsDistinct nat_eq rest × ((c : ℕ) → Contains (take (parcels * 64) cells) c → Contains rest c → ⊥)
    apart = distinct_split (take (parcels * 64) cells) rest (subst (λ (l : List ℕ). IsDistinct nat_eq l) (sym split) can.once)

    in_rest : (c : ℕ) → Contains (take 64 rest) c → Contains rest c
    in_rest c h = subst (λ (l : List ℕ). Contains l c) (take-append-drop 64 rest) (Contains-append_left (take 64 rest) (drop 64 rest) c h)

    unpaid : (c : ℕ) → Contains (take 64 rest) c → Contains mid.view.dues.unpaid c
    unpaid c h = subst (λ (v : View). Contains v.dues.unpaid c) (sym p.view) (rest_has (take (parcels * 64) cells) first.view.dues.unpaid c
        (can.unpaid c (subst (λ (l : List ℕ). Contains l c) split (Contains-append_right (take (parcels * 64) cells) rest c (in_rest c h)))) (λ there. apart.2 c there (in_rest c h)))

drop_front : (xs ys : List ℕ) → drop (length xs) (xs ++ ys) ≡ ys
drop_front [] ys = refl
drop_front (x ∷ xs) ys = drop_front xs ys

-- what is loaded in the end
pub has_loaded : (first now : SeatValue) (cells rest : List ℕ) (count capacity parcels n : ℕ) (benches : List BenchValue) → IsLoading first now cells rest count capacity parcels benches
    → n ≡ length cells - length rest → HasLoaded first now cells (drop n cells) count benches
has_loaded first now cells rest count capacity parcels n benches p is = record {
  loaded = take (parcels * 64) cells;
  cells_are = sym split ∙ ap (λ (l : List ℕ). take (parcels * 64) cells ++ l) later;
  parcels = parcels;
  table = p.table;
  view = p.view;
  counted = p.counted;
  stake = p.stake;
  enough = p.enough;
  many = p.many;
  has = p.has;
  idle = record {
    apart = record { call = p.call; long = p.long ∙ sym p.many; each = λ k d below. (p.each k d (let m = p.many in omega arith)).apart };
    taken = λ k d below. (p.each k d (let m = p.many in omega arith)).taken;
  };
}
  where
    split : take (parcels * 64) cells ++ rest ≡ cells
    split = ap (λ (l : List ℕ). take (parcels * 64) cells ++ l) p.rest_is ∙ take-append-drop (parcels * 64) cells

    later : rest ≡ drop n cells
    later =
        let long : length (take (parcels * 64) cells) + length rest ≡ length cells = sym (length-append (take (parcels * 64) cells) rest) ∙ ap length split in
        let same : length (take (parcels * 64) cells) ≡ n = omega arith in
        sym (drop_front (take (parcels * 64) cells) rest) ∙ ap (λ (l : List ℕ). drop (length (take (parcels * 64) cells)) l) split ∙ ap (λ (k : ℕ). drop k cells) same

-- lists of growers that begin
pub worth_push : {J : Type 0} (ss : List (Start J)) (s : Start J) → worth (ss ++ s ∷ []) ≡ worth ss + (s.seat.view.stake + slip_stakes s.bench.pushed)
worth_push [] s = omega arith
worth_push (t ∷ ss) s = let rest = worth_push ss s in omega arith

pub begun_push : {J : Type 0} (ss : List (Start J)) (s : Start J) → starting_slips (ss ++ s ∷ []) ≡ starting_slips ss ++ s.bench.pushed
begun_push [] s = append-nil s.bench.pushed
begun_push (t ∷ ss) s = ap (λ (l : List Slip). t.bench.pushed ++ l) (begun_push ss s) ∙ sym (append_assoc t.bench.pushed (starting_slips ss) s.bench.pushed)

-- some growers have a seat, and the other benches are left
pub record IsStarting {J : Type 0} (g : GraphValue) (first now : SeatValue) (benches left : List BenchValue) (starts : List (Start J)) (k share : ℕ) : Type 0 where
  pub table : now.table ≡ first.table
  pub view : now.view ≡ record first.view { next = first.view.next + k * numbers; left = first.view.left - k * numbers; stake = now.view.stake }
  pub left_is : left ≡ drop k benches
  pub within : k ≤ length benches
  pub stake : now.view.stake + worth starts + slip_stakes (all_pushed left) ≡ first.view.stake + slip_stakes (all_pushed benches)
  pub enough : (length benches - k) * share < now.view.stake
  pub has : (c : ℕ) → HasCell (all_pushed benches) c → HasCell (starting_slips starts) c ⊎ HasCell (all_pushed left) c
  pub call : List DequeId
  pub long : length call ≡ length benches
  pub apart : (i : ℕ) (d : BenchValue) → i < length benches → IsApart call i (get_or benches i d) × ((get_or benches i d).taken ≡ [])
  pub count : length starts ≡ k
  pub each : (i : ℕ) (d : Start J) → i < k → IsStart g first.view.front call i (get_or starts i d)
  pub fresh : (s : Start J) → Contains starts s → IsUnused first.view s.seat.view.number
  pub numbered : (i : ℕ) (d : Start J) → i < k → (get_or starts i d).seat.view.number ≡ first.view.next + i * numbers

pub starting_none : {J : Type 0} (g : GraphValue) (s : SeatValue) (benches : List BenchValue) (share : ℕ) → AreIdle benches → length benches * share < s.view.stake → IsStarting {J = J} g s s benches benches [] 0 share
starting_none {J} g s benches share idle enough = record {
  table = refl;
  view = λ i. record s.view { next = next i; left = left i };
  left_is = refl;
  within = omega arith;
  stake = omega arith;
  enough = subst (λ (n : ℕ). n * share < s.view.stake) all enough;
  has = λ c h. inr h;
  call = idle.apart.call;
  long = idle.apart.long;
  apart = λ i d below. (idle.apart.each i d below, idle.taken i d below);
  count = refl;
  each = λ i d below. absurd (omega arith);
  fresh = λ t h. absurd (nothing_in t h);
  numbered = λ i d below. absurd (omega arith);
}
  where
    all : length benches ≡ length benches - 0
    all = omega arith

    next : s.view.next ≡ s.view.next + 0 * numbers
    next = omega arith

    left : s.view.left ≡ s.view.left - 0 * numbers
    left = omega arith

-- one grower more
module _ {J : Type 0} (g : GraphValue) (first mid now : SeatValue) (benches left later : List BenchValue) (starts : List (Start J)) (k share : ℕ) (p : IsStarting g first mid benches left starts k share)
    (below : k < length benches) (b : BenchValue) (s : Start J) where
  rest_is : drop k benches ≡ get_or benches k b ∷ drop (k + 1) benches
  rest_is = drop_more benches k b below

  pub starting_next : Belongs mid g → length benches * numbers ≤ first.view.left → now.table ≡ mid.table → now.view ≡ cut_left numbers share mid.view
      → s.seat.table ≡ mid.table → s.seat.view ≡ cut_right numbers share mid.view → IsKnown s.seat.view → s.bench ≡ get_or benches k b → later ≡ drop 1 left
      → IsStarting g first now benches later (starts ++ s ∷ []) (k + 1) share
  starting_next belongs enough table view child_table child known bench later_is = record {
    table = table ∙ p.table;
    view = view ∙ ap (λ (v : View). cut_left numbers share v) p.view ∙ (λ i. record first.view { next = next i; left = less i; stake = stake_is i });
    left_is = later_is ∙ ap (λ (l : List BenchValue). drop 1 l) p.left_is ∙ drop-drop 1 k benches;
    within = omega arith;
    stake = stake;
    enough = enough_left;
    has = λ c h. elim (p.has c h) [
      | inl l ↦ inl (subst (λ (l : List Slip). HasCell l c) (sym (begun_push starts s)) (cell_front (starting_slips starts) s.bench.pushed c l))
      | inr r ↦ elim (cell_or (get_or benches k b).pushed (all_pushed (drop (k + 1) benches)) c (subst (λ (l : List BenchValue). HasCell (all_pushed l) c) (p.left_is ∙ rest_is) r)) [
        | inl here ↦ inl (subst (λ (l : List Slip). HasCell l c) (sym (begun_push starts s)) (cell_back (starting_slips starts) s.bench.pushed c (subst (λ (y : BenchValue). HasCell y.pushed c) (sym bench) here)))
        | inr rest ↦ inr (subst (λ (l : List BenchValue). HasCell (all_pushed l) c) (sym left_later) rest)
      ]
    ];
    call = p.call;
    long = p.long;
    apart = p.apart;
    count = length_push starts s ∙ ap (λ (n : ℕ). n + 1) p.count;
    each = each;
    fresh = λ t h. elim (Contains-push_cases starts s t h) [ inl old ↦ p.fresh t old | inr e ↦ subst (λ (u : Start J). IsUnused first.view u.seat.view.number) e unused ];
    numbered = numbered;
  }
    where
      left_later : later ≡ drop (k + 1) benches
      left_later = later_is ∙ ap (λ (l : List BenchValue). drop 1 l) p.left_is ∙ drop-drop 1 k benches

      next : first.view.next + k * numbers + numbers ≡ first.view.next + (k + 1) * numbers
      next = omega arith

      less : first.view.left - k * numbers - numbers ≡ first.view.left - (k + 1) * numbers
      less = omega arith

      down : now.view.stake ≡ mid.view.stake - share
      down = ap (λ (v : View). v.stake) view

      stake_is : mid.view.stake - share ≡ now.view.stake
      stake_is = sym down

      own : s.seat.view.stake ≡ share
      own = ap (λ (v : View). v.stake) child

      -- (n - k) * share with one place less
      places : (length benches - k) * share ≡ (length benches - (k + 1)) * share + share
      places = let e : length benches - k ≡ suc (length benches - (k + 1)) = omega arith in ap (λ (n : ℕ). n * share) e ∙ (let f : suc (length benches - (k + 1)) * share ≡ (length benches - (k + 1)) * share + share = omega arith in f)

      enough_left : (length benches - (k + 1)) * share < now.view.stake
      enough_left = let e = p.enough in let l = places in let d = down in omega arith

      stake : now.view.stake + worth (starts ++ s ∷ []) + slip_stakes (all_pushed later) ≡ first.view.stake + slip_stakes (all_pushed benches)
      stake =
          let e = p.stake in
          let l = places in
          let en = p.enough in
          let d = down in
          let o = own in
          let w = worth_push starts s in
          let r : slip_stakes (all_pushed left) ≡ slip_stakes ((get_or benches k b).pushed ++ all_pushed (drop (k + 1) benches)) = ap (λ (l : List BenchValue). slip_stakes (all_pushed l)) (p.left_is ∙ rest_is) in
          let a = weigh-append (λ (y : Slip). y.stake) (get_or benches k b).pushed (all_pushed (drop (k + 1) benches)) in
          let q : slip_stakes (all_pushed later) ≡ slip_stakes (all_pushed (drop (k + 1) benches)) = ap (λ (l : List BenchValue). slip_stakes (all_pushed l)) left_later in
          let u : slip_stakes s.bench.pushed ≡ slip_stakes (get_or benches k b).pushed = ap (λ (y : BenchValue). slip_stakes y.pushed) bench in
          omega arith

      one : IsStart g first.view.front p.call k s
      one =
          let a = p.apart k b below in
          record {
            belongs = record { table = child_table ∙ belongs.table; world = ap (λ (v : View). v.world) child ∙ belongs.world };
            calls_are = ap (λ (v : View). v.calls) child;
            kept = ap (λ (v : View). v.kept) child;
            front_is = ap (λ (v : View). v.front) child ∙ ap (λ (v : View). v.front) p.view;
            dues = ap (λ (v : View). v.dues) child;
            known = known;
            apart = subst (λ (y : BenchValue). IsApart p.call k y) (sym bench) a.0;
            taken = ap (λ (y : BenchValue). y.taken) bench ∙ a.1;
          }

      each : (i : ℕ) (d : Start J) → i < k + 1 → IsStart g first.view.front p.call i (get_or (starts ++ s ∷ []) i d)
      each i d under = elim (cases_lt i k) [
        | inl before ↦ subst (λ (t : Start J). IsStart g first.view.front p.call i t) (sym (get_or_append_left starts (s ∷ []) d i (let m = p.count in omega arith))) (p.each i d before)
        | inr at ↦ let same : k ≡ i = omega arith in
            subst (λ (t : Start J). IsStart g first.view.front p.call i t) (sym (get_or_push starts s d i (p.count ∙ same))) (subst (λ (n : ℕ). IsStart g first.view.front p.call n s) same one)
      ]

      numbered : (i : ℕ) (d : Start J) → i < k + 1 → (get_or (starts ++ s ∷ []) i d).seat.view.number ≡ first.view.next + i * numbers
      numbered i d under = elim (cases_lt i k) [
        | inl before ↦ ap (λ (t : Start J). t.seat.view.number) (get_or_append_left starts (s ∷ []) d i (let m = p.count in omega arith)) ∙ p.numbered i d before
        | inr at ↦ let same : k ≡ i = omega arith in
            ap (λ (t : Start J). t.seat.view.number) (get_or_push starts s d i (p.count ∙ same)) ∙ ap (λ (v : View). v.number) child ∙ ap (λ (v : View). v.next) p.view ∙ ap (λ (n : ℕ). first.view.next + n * numbers) same
      ]

      unused : IsUnused first.view s.seat.view.number
      unused =
          let n : s.seat.view.number ≡ mid.view.next = ap (λ (v : View). v.number) child in
          let m : mid.view.next ≡ first.view.next + k * numbers = ap (λ (v : View). v.next) p.view in
          let used : (k + 1) * numbers ≤ length benches * numbers = mul-le-mul_right numbers (let e : k + 1 ≤ length benches = omega arith in e) in
          (omega arith, omega arith)

-- the equal parts of a stake
pub share_fits : (n s : ℕ) → 0 < n → n < s → (1 ≤ (s - 1) / n) × (n * ((s - 1) / n) < s)
share_fits n s some more = (le-div 1 (s - 1) n some (omega arith), let e = div-add-mod' (s - 1) n in let f : n * ((s - 1) / n) ≡ (s - 1) / n * n = omega arith in omega arith)

-- a part is left for the next grower
pub share_left : {J : Type 0} (g : GraphValue) (first now : SeatValue) (benches left : List BenchValue) (starts : List (Start J)) (k share : ℕ) → IsStarting g first now benches left starts k share → k < length benches → share < now.view.stake
share_left g first now benches left starts k share p below =
    let e : length benches - k ≡ suc (length benches - (k + 1)) = omega arith in
    let f : (length benches - k) * share ≡ suc (length benches - (k + 1)) * share = ap (λ (n : ℕ). n * share) e in
    let h : suc (length benches - (k + 1)) * share ≡ (length benches - (k + 1)) * share + share = omega arith in
    let enough = p.enough in
    omega arith

pub has_started : {J : Type 0} (g : GraphValue) (first now : SeatValue) (benches left : List BenchValue) (starts : List (Start J)) (k share : ℕ) → IsStarting g first now benches left starts k share → k ≡ length benches → HasStarted g first now benches starts
has_started g first now benches left starts k share p all = record {
  table = p.table;
  view = subst (λ (n : ℕ). now.view ≡ record first.view { next = first.view.next + n * numbers; left = first.view.left - n * numbers; stake = now.view.stake }) all p.view;
  stake = let e = p.stake in let n : slip_stakes (all_pushed left) ≡ 0 = ap (λ (l : List BenchValue). slip_stakes (all_pushed l)) none in omega arith;
  has = λ c h. elim (p.has c h) [ inl l ↦ l | inr r ↦ absurd (no_cell c (subst (λ (l : List BenchValue). HasCell (all_pushed l) c) none r)) ];
  count = p.count ∙ all;
  starts_are = record { call = p.call; long = p.long ∙ sym all ∙ sym p.count; each = λ i d below. p.each i d (let m = p.count in omega arith) };
  fresh = p.fresh;
  numbered = λ i d below. p.numbered i d (let m = p.count in omega arith);
}
  where
    none : left ≡ []
    none = p.left_is ∙ drop_all k benches (let e = all in omega arith)

-- what a growth begins with
pub has_begun : {J : Type 0} (g : GraphValue) (first mid now : SeatValue) (cells rest : List ℕ) (growers : ℕ) (benches : List BenchValue) (starts : List (Start J)) → IsKnown first.view → 2 ^ 21 * growers ≤ first.view.left → 0 < growers
    → HasLoaded first mid cells rest growers benches → HasStarted g mid now benches starts → HasBegun g first now cells rest growers starts
has_begun {J} g first mid now cells rest growers benches starts known enough some l s = record {
  loaded = l.loaded;
  cells_are = l.cells_are;
  parcels = l.parcels;
  table = s.table ∙ l.table;
  view = s.view ∙ ap (λ (v : View). record v { next = v.next + length benches * numbers; left = v.left - length benches * numbers; stake = now.view.stake }) l.view
      ∙ (λ i. record first.view { next = next i; left = left i; stake = now.view.stake; dues = left_dues l.loaded first.view.dues });
  few = few;
  stake = let a = s.stake in let b = l.stake in omega arith;
  has = λ c h. s.has c (l.has c h);
  count = s.count ∙ l.many;
  starts_are = subst (λ (f : List Event). AreStarts g f starts) (ap (λ (v : View). v.front) l.view) s.starts_are;
  fresh = λ n h.
      let u : IsUnused mid.view n = subst (λ (k : ℕ). IsUnused mid.view k) h.2 (s.fresh h.0 h.1) in
      let a : mid.view.next ≡ first.view.next + l.parcels = ap (λ (v : View). v.next) l.view in
      let b : mid.view.left ≡ first.view.left - l.parcels = ap (λ (v : View). v.left) l.view in
      let f = few in
      (omega (arith, u.0), omega (arith, u.1));
  numbered = λ k d below. s.numbered k d below ∙ ap (λ (v : View). v.next + k * numbers) l.view;
}
  where
    few : l.parcels ≤ 2 ^ 16
    few = let c = l.counted in let k = known.sound.staked in omega arith

    same : length benches * numbers ≡ growers * numbers
    same = ap (λ (n : ℕ). n * numbers) l.many

    next : first.view.next + l.parcels + length benches * numbers ≡ first.view.next + (l.parcels + growers * numbers)
    next = let e = same in omega arith

    left : first.view.left - l.parcels - length benches * numbers ≡ first.view.left - (l.parcels + growers * numbers)
    left = let e = same in omega arith

-- for want of memory
lost_loaded : (old now : SeatValue) (used : ℕ) (cells : List ℕ) → now.table ≡ old.table
    → now.view ≡ record old.view { next = old.view.next + used; left = old.view.left - used; stake = now.view.stake; dues = left_dues cells old.view.dues } → IsLost old now
lost_loaded old now used cells table is =
    lost_gave old now used table (is ∙ (λ i. record old.view { next = old.view.next + used; left = old.view.left - used; stake = now.view.stake; dues = sym (ap (λ (v : View). v.dues) is) i })) (ap (λ (v : View). v.dues.pledge) is)

pub loading_lost : (first mid : SeatValue) (cells rest : List ℕ) (count capacity parcels : ℕ) (benches : List BenchValue) → IsLoading first mid cells rest count capacity parcels benches → IsLost first mid
loading_lost first mid cells rest count capacity parcels benches p = lost_loaded first mid parcels (take (parcels * 64) cells) p.table p.view

pub loaded_lost : (first mid : SeatValue) (cells rest : List ℕ) (count : ℕ) (benches : List BenchValue) → HasLoaded first mid cells rest count benches → IsLost first mid
loaded_lost first mid cells rest count benches l = lost_loaded first mid l.parcels l.loaded l.table l.view

pub begun_lost : {J : Type 0} (g : GraphValue) (first mid : SeatValue) (cells rest : List ℕ) (growers : ℕ) (starts : List (Start J)) → HasBegun g first mid cells rest growers starts → IsLost first mid
begun_lost g first mid cells rest growers starts b = lost_loaded first mid (b.parcels + growers * numbers) b.loaded b.table b.view
