-- Growers that come back, one after another.
use Rattle.std.proofs.Common.{◌≡◌, refl, sym, ap, ap₂, subst, ◌∙◌, ℕ, zero, suc, ◌+◌, ◌-◌, ◌<◌, ◌≤◌, ◌⊎◌, inl, inr, List, [], ◌∷◌, ◌++◌, length, drop, get_or, Option, Some, None, Contains, append-nil, append_assoc, arith}
use Rattle.std.proofs.lemmas.Bool.{cases_lt}
use Rattle.std.proofs.lemmas.List.{drop_more, drop_all, length_push, get_or_append_left, get_or_push, get_or_default}
use Rattle.std.proofs.lemmas.List.Elements.{Contains-get_or, Contains-append_left, Contains-append_right, Contains-append_cases}
use Rattle.list_facts.proofs.Lists.{nothing_in, in_first, nothing}
use Rattle.graph_history.specs.declared.event.Act.TheVariants.{Spent}
use Rattle.graph_history.specs.Views.{View, Kept}
use Rattle.graph_rule.specs.Rule.{IsPrefix, IsKnown}
use Rattle.graph_rule.specs.Told.{Advances}
use Rattle.graph_rule.specs.Parting.{joined}
use Rattle.graph_rule.specs.Values.{GraphValue, SeatValue, Belongs}
use Rattle.parcel_deques.specs.declared.parcel.Slip.{Slip}
use Rattle.parcel_deques.specs.Ends.{DequeId}
use Rattle.parcel_deques.specs.Lists.{weigh, SameItems}
use Rattle.parcel_deques.specs.Benches.{BenchValue}
use Rattle.parcel_deques.specs.Making.{IsApart}
use Rattle.parcel_deques.specs.Gather.{all_taken}
use Rattle.parcel_deques.proofs.Weights.{weigh-append}
use Rattle.crystal_growers.specs.declared.grower.Ending.{Ending}
use Rattle.crystal_growers.specs.declared.grower.Ending.TheVariants.{Done, NoMemory, Spent as SpentEnding}
use Rattle.crystal_growers.specs.declared.grower.Start.{Start}
use Rattle.crystal_growers.specs.declared.grower.Shift.{Shift}
use Rattle.crystal_growers.specs.Expansion.{HasEnded}
use Rattle.crystal_growers.specs.Slips.{slip_stakes, HasCell, all_pushed}
use Rattle.crystal_growers.specs.Grower.{HasStopped, IsFullAfter, IsShift}
use Rattle.crystal_growers.specs.Gathering.{IsStart, AreStarts, worth, starting_slips, HasTakenIn, HasNumber, IsSpentBy, IsNumberOf, IsPaidUp, AreShifts, HasCollected}
use Rattle.crystal_growers.proofs.SlipCells.{no_cell, cell_front, cell_back, cell_or, same_cells}
use Rattle.crystal_growers.proofs.DrawnCells.{whole_later}
use Rattle.crystal_growers.proofs.Coming.{IsComing, coming, own, grown_gave, grown_joined, spent_wider}

-- lists of benches
pub pushed_push : (bs : List BenchValue) (b : BenchValue) → all_pushed (bs ++ b ∷ []) ≡ all_pushed bs ++ b.pushed
pushed_push [] b = append-nil b.pushed
pushed_push (c ∷ bs) b = ap (λ (l : List Slip). c.pushed ++ l) (pushed_push bs b) ∙ sym (append_assoc c.pushed (all_pushed bs) b.pushed)

pub taken_push : (bs : List BenchValue) (b : BenchValue) → all_taken (bs ++ b ∷ []) ≡ all_taken bs ++ b.taken
taken_push [] b = append-nil b.taken
taken_push (c ∷ bs) b = ap (λ (l : List Slip). c.taken ++ l) (taken_push bs b) ∙ sym (append_assoc c.taken (all_taken bs) b.taken)

-- the seats of the first growers were taken in
pub record IsCollecting {J : Type 0} (g : GraphValue) (first now : SeatValue) (starts : List (Start J)) (call : List DequeId) (benches : List BenchValue) (k : ℕ) (full : Option ℕ) : Type 0 where
  pub news : List Kept
  pub grown : HasTakenIn g (IsNumberOf starts) first now 0 news
  pub keeps : (i : ℕ) (d : Start J) → i < k → HasNumber news (get_or starts i d).seat.view.number
  pub within : k ≤ length starts
  pub live : k < now.view.stake
  pub count : length benches ≡ k
  pub apart : (i : ℕ) (d : BenchValue) → i < k → IsApart call i (get_or benches i d)
  pub stake : now.view.stake + slip_stakes (all_pushed benches) + worth (drop k starts) ≡ first.view.stake + worth starts + slip_stakes (all_taken benches)
  pub has : (c : ℕ) → HasCell (starting_slips starts) c → HasCell (all_pushed benches) c ⊎ HasCell (starting_slips (drop k starts)) c
  pub owes : (c : ℕ) → Contains first.view.dues.owed c ⊎ HasCell (all_taken benches) c → Contains now.view.dues.owed c
  pub ended : HasEnded (IsPaidUp g first.view.dues.owed first.view.dues.unpaid now) (IsSpentBy (IsNumberOf starts) news now.view.front) full

pub collecting_none : {J : Type 0} (g : GraphValue) (s : SeatValue) (starts : List (Start J)) → Belongs s g → IsKnown s.view → s.view.dues.pledge ≡ 0 → (are : AreStarts g s.view.front starts) → IsCollecting g s s starts are.call [] 0 None
collecting_none g s starts belongs known pledge are = record {
  news = [];
  grown = grown_gave g (IsNumberOf starts) s s 0 belongs refl (λ i. record s.view { next = next i; left = left i }) known pledge;
  keeps = λ i d below. absurd (omega arith);
  within = omega arith;
  live = known.sound.live;
  count = refl;
  apart = λ i d below. absurd (omega arith);
  stake = omega arith;
  has = λ c h. inr h;
  owes = λ c h. elim h [ inl owed ↦ owed | inr none ↦ absurd (no_cell c none) ];
  ended = (refl, λ c h. inl h);
}
  where
    next : s.view.next ≡ s.view.next + 0
    next = omega arith

    left : s.view.left ≡ s.view.left - 0
    left = omega arith

-- the shift of a grower
element_at : {X : Type 0} (xs : List X) (k : ℕ) → k < length xs → (x : X) × (get_or xs k x ≡ x)
element_at [] k below = absurd (omega arith)
element_at (x ∷ xs) zero below = (x, refl)
element_at (x ∷ xs) (suc k) below = element_at xs k (omega arith)

pub shift_at : {J : Type 0} (g : GraphValue) (starts : List (Start J)) (shifts left : List (Shift J)) (k : ℕ) (t : Shift J) → AreShifts g starts shifts → k < length starts → left ≡ drop k shifts → t ≡ get_or left 0 t
    → (s : Start J) × (get_or starts k s ≡ s) × IsShift g s.seat t.seat s.bench t.bench t.ending
shift_at {J} g starts shifts left k t are below left_is is =
    let s = element_at starts k below in
    let at : t ≡ get_or shifts k t = is ∙ ap (λ (l : List (Shift J)). get_or l 0 t) left_is ∙ ap (λ (l : List (Shift J)). get_or l 0 t) (drop_more shifts k t (let m = are.0 in omega arith)) in (
      s.0,
      s.1,
      subst (λ (u : Shift J). IsShift g s.0.seat u.seat s.0.bench u.bench u.ending) (sym at)
          (subst (λ (v : Start J). IsShift g v.seat (get_or shifts k t).seat v.bench (get_or shifts k t).bench (get_or shifts k t).ending) s.1 (are.1 k s.0 t below)),
    )

-- one grower more
module _ {J : Type 0} (g : GraphValue) (first mid now : SeatValue) (starts : List (Start J)) (benches : List BenchValue) (k : ℕ) (full next : Option ℕ) (are : AreStarts g first.view.front starts)
    (p : IsCollecting g first mid starts are.call benches k full) (below : k < length starts) (s : Start J) (is : get_or starts k s ≡ s) (t : Shift J) (h : IsShift g s.seat t.seat s.bench t.bench t.ending)
    (after : IsFullAfter full t.ending next) (table : now.table ≡ mid.table) (step : Advances (joined mid.view t.seat.view) now.view [] (joined mid.view t.seat.view).dues)
    (on : IsPrefix mid.view.front now.view.front) (from : IsPrefix t.seat.view.front now.view.front) where
  start : IsStart g first.view.front are.call k s
  start = subst (λ (u : Start J). IsStart g first.view.front are.call k u) is (are.each k s below)

  got : List Slip
  got = h.working.got

  given : List Slip
  given = h.working.given

  number_of : IsNumberOf starts s.seat.view.number
  number_of = (s, subst (λ (u : Start J). Contains starts u) is (Contains-get_or starts k s below), refl)

  comes : IsComing g (IsNumberOf starts) first.view.front t.seat
  comes = coming g (IsNumberOf starts) first.view.front s.seat t.seat h.working.got h.working.given start.known start.calls_are start.kept start.front_is number_of h.working.worked.acted

  grown : HasTakenIn g (IsNumberOf starts) first now 0 (p.news ++ own t.seat ∷ t.seat.view.kept)
  grown = grown_joined g (IsNumberOf starts) first mid now t.seat 0 p.news p.grown comes table step on from

  rest_is : drop k starts ≡ s ∷ drop (k + 1) starts
  rest_is = drop_more starts k s below ∙ ap (λ (u : Start J). u ∷ drop (k + 1) starts) is

  pushed_is : t.bench.pushed ≡ s.bench.pushed ++ h.working.given
  pushed_is = ap (λ (b : BenchValue). b.pushed) h.working.served.is

  taken_same : SameItems t.bench.taken h.working.got
  taken_same = λ w. h.working.served.taken w ∙ ap (λ (l : List Slip). weigh w (l ++ h.working.got)) start.taken

  dues_owed : now.view.dues.owed ≡ mid.view.dues.owed ++ t.seat.view.dues.owed
  dues_owed = ap (λ (v : View). v.dues.owed) step.is

  still : (c : ℕ) → Contains mid.view.dues.owed c → Contains now.view.dues.owed c
  still c owed = subst (λ (l : List ℕ). Contains l c) (sym dues_owed) (Contains-append_left mid.view.dues.owed t.seat.view.dues.owed c owed)

  came : (c : ℕ) → Contains t.seat.view.dues.owed c → Contains now.view.dues.owed c
  came c owed = subst (λ (l : List ℕ). Contains l c) (sym dues_owed) (Contains-append_right mid.view.dues.owed t.seat.view.dues.owed c owed)

  stake : now.view.stake + slip_stakes (all_pushed (benches ++ t.bench ∷ [])) + worth (drop (k + 1) starts) ≡ first.view.stake + worth starts + slip_stakes (all_taken (benches ++ t.bench ∷ []))
  stake =
      let e = p.stake in
      let sum : now.view.stake ≡ mid.view.stake + t.seat.view.stake = ap (λ (v : View). v.stake) step.is in
      let own_stake = h.working.worked.acted.stake in
      let pushed : slip_stakes (all_pushed (benches ++ t.bench ∷ [])) ≡ slip_stakes (all_pushed benches ++ t.bench.pushed) = ap slip_stakes (pushed_push benches t.bench) in
      let pushed_sum = weigh-append (λ (y : Slip). y.stake) (all_pushed benches) t.bench.pushed in
      let here : slip_stakes t.bench.pushed ≡ slip_stakes (s.bench.pushed ++ h.working.given) = ap slip_stakes pushed_is in
      let here_sum = weigh-append (λ (y : Slip). y.stake) s.bench.pushed h.working.given in
      let taken : slip_stakes (all_taken (benches ++ t.bench ∷ [])) ≡ slip_stakes (all_taken benches ++ t.bench.taken) = ap slip_stakes (taken_push benches t.bench) in
      let taken_sum = weigh-append (λ (y : Slip). y.stake) (all_taken benches) t.bench.taken in
      let same = taken_same (λ (y : Slip). y.stake) in
      let rest : worth (drop k starts) ≡ s.seat.view.stake + slip_stakes s.bench.pushed + worth (drop (k + 1) starts) = ap (λ (l : List (Start J)). worth l) rest_is in
      omega arith

  has : (c : ℕ) → HasCell (starting_slips starts) c → HasCell (all_pushed (benches ++ t.bench ∷ [])) c ⊎ HasCell (starting_slips (drop (k + 1) starts)) c
  has c some = elim (p.has c some) [
    | inl l ↦ inl (subst (λ (l : List Slip). HasCell l c) (sym (pushed_push benches t.bench)) (cell_front (all_pushed benches) t.bench.pushed c l))
    | inr r ↦ elim (cell_or s.bench.pushed (starting_slips (drop (k + 1) starts)) c (subst (λ (l : List (Start J)). HasCell (starting_slips l) c) rest_is r)) [
      | inl here ↦ inl (subst (λ (l : List Slip). HasCell l c) (sym (pushed_push benches t.bench))
          (cell_back (all_pushed benches) t.bench.pushed c (subst (λ (l : List Slip). HasCell l c) (sym pushed_is) (cell_front s.bench.pushed h.working.given c here))))
      | inr rest ↦ inr rest
    ]
  ]

  owes : (c : ℕ) → Contains first.view.dues.owed c ⊎ HasCell (all_taken (benches ++ t.bench ∷ [])) c → Contains now.view.dues.owed c
  owes c (inl owed) = still c (p.owes c (inl owed))
  owes c (inr some) = elim (cell_or (all_taken benches) t.bench.taken c (subst (λ (l : List Slip). HasCell l c) (taken_push benches t.bench) some)) [
    | inl l ↦ still c (p.owes c (inr l))
    | inr r ↦ came c (h.working.worked.owes c (inr (same_cells t.bench.taken h.working.got c taken_same r)))
  ]

  apart : (i : ℕ) (d : BenchValue) → i < k + 1 → IsApart are.call i (get_or (benches ++ t.bench ∷ []) i d)
  apart i d under = elim (cases_lt i k) [
    | inl before ↦ subst (λ (b : BenchValue). IsApart are.call i b) (sym (get_or_append_left benches (t.bench ∷ []) d i (let m = p.count in omega arith))) (p.apart i d before)
    | inr at ↦ let same : k ≡ i = omega arith in subst (λ (b : BenchValue). IsApart are.call i b) (sym (get_or_push benches t.bench d i (p.count ∙ same))) (subst (λ (n : ℕ). IsApart are.call n t.bench) same here)
  ]
    where
      here : IsApart are.call k t.bench
      here = record {
        number = ap (λ (b : BenchValue). b.number) h.working.served.is ∙ start.apart.number;
        call_is = ap (λ (b : BenchValue). b.call) h.working.served.is ∙ start.apart.call_is;
        home = ap (λ (b : BenchValue). b.home) h.working.served.is ∙ start.apart.home;
        away = ap (λ (b : BenchValue). b.away) h.working.served.is ∙ start.apart.away;
      }

  keeps : (i : ℕ) (d : Start J) → i < k + 1 → HasNumber (p.news ++ own t.seat ∷ t.seat.view.kept) (get_or starts i d).seat.view.number
  keeps i d under = elim (cases_lt i k) [
    | inl before ↦ let m = p.keeps i d before in (m.0, Contains-append_left p.news (own t.seat ∷ t.seat.view.kept) m.0 m.1, m.2)
    | inr at ↦ let same : k ≡ i = omega arith in (
      own t.seat,
      Contains-append_right p.news (own t.seat ∷ t.seat.view.kept) (own t.seat) (in_first (own t.seat) t.seat.view.kept),
      h.working.worked.acted.number ∙ ap (λ (u : Start J). u.seat.view.number) (sym is ∙ get_or_default starts k s d below ∙ ap (λ (n : ℕ). get_or starts n d) same),
    )
  ]

  ended : HasEnded (IsPaidUp g first.view.dues.owed first.view.dues.unpaid now) (IsSpentBy (IsNumberOf starts) (p.news ++ own t.seat ∷ t.seat.view.kept) now.view.front) next
  ended = by_ending full t.ending next p.ended h.stopped after
    where
      spent_before : (x : ℕ) → IsSpentBy (IsNumberOf starts) p.news mid.view.front x → IsSpentBy (IsNumberOf starts) (p.news ++ own t.seat ∷ t.seat.view.kept) now.view.front x
      spent_before x found = spent_wider (IsNumberOf starts) (IsNumberOf starts) [] p.news (own t.seat ∷ t.seat.view.kept) mid.view.front now.view.front x (λ n m. m) on found

      spent_here : (x : ℕ) → Contains t.seat.view.front (record { caller = t.seat.view.number; act = Spent x }) → IsSpentBy (IsNumberOf starts) (p.news ++ own t.seat ∷ t.seat.view.kept) now.view.front x
      spent_here x found = spent_wider (IsNumberOf starts) (IsNumberOf starts) p.news (own t.seat ∷ []) t.seat.view.kept t.seat.view.front now.view.front x (λ n m. m) from (own t.seat, in_first (own t.seat) [], comes.mine, found)

      paid : IsPaidUp g first.view.dues.owed first.view.dues.unpaid mid → HasStopped g t.seat t.bench Done → IsPaidUp g first.view.dues.owed first.view.dues.unpaid now
      paid (unpaid, owed) (waits, empty) = (
        ap (λ (v : View). v.dues.unpaid) step.is ∙ ap₂ (λ (k l : List ℕ). k ++ l) unpaid (nothing t.seat.view.dues.unpaid (λ c there. nothing_in c (waits.no_other c there))) ∙ append-nil first.view.dues.unpaid,
        λ c there. elim (Contains-append_cases mid.view.dues.owed t.seat.view.dues.owed c (subst (λ (l : List ℕ). Contains l c) dues_owed there)) [
          | inl l ↦ elim (owed c l) [ inl before ↦ inl before | inr whole ↦ inr (whole_later g.world mid.view.front now.view.front c on whole) ]
          | inr r ↦ elim (waits.covered c r) [ inl whole ↦ inr (whole_later g.world t.seat.view.front now.view.front c from whole) | inr none ↦ absurd (nothing_in c none) ]
        ],
      )

      by_ending : (full : Option ℕ) (e : Ending) (next : Option ℕ) → HasEnded (IsPaidUp g first.view.dues.owed first.view.dues.unpaid mid) (IsSpentBy (IsNumberOf starts) p.news mid.view.front) full → HasStopped g t.seat t.bench e
          → IsFullAfter full e next → HasEnded (IsPaidUp g first.view.dues.owed first.view.dues.unpaid now) (IsSpentBy (IsNumberOf starts) (p.news ++ own t.seat ∷ t.seat.view.kept) now.view.front) next
      by_ending None Done next before stop same = subst (λ (f : Option ℕ). HasEnded (IsPaidUp g first.view.dues.owed first.view.dues.unpaid now) (IsSpentBy (IsNumberOf starts) (p.news ++ own t.seat ∷ t.seat.view.kept) now.view.front) f) (sym same) (paid before stop)
      by_ending (Some x) Done next before stop same = subst (λ (f : Option ℕ). HasEnded (IsPaidUp g first.view.dues.owed first.view.dues.unpaid now) (IsSpentBy (IsNumberOf starts) (p.news ++ own t.seat ∷ t.seat.view.kept) now.view.front) f) (sym same) (spent_before x before)
      by_ending full (SpentEnding x) next before stop same = subst (λ (f : Option ℕ). HasEnded (IsPaidUp g first.view.dues.owed first.view.dues.unpaid now) (IsSpentBy (IsNumberOf starts) (p.news ++ own t.seat ∷ t.seat.view.kept) now.view.front) f) (sym same) (spent_here x stop)
      by_ending full NoMemory next before stop same = absurd same

  pub collecting_next : IsCollecting g first now starts are.call (benches ++ t.bench ∷ []) (k + 1) next
  collecting_next = record {
    news = p.news ++ own t.seat ∷ t.seat.view.kept;
    grown = grown;
    keeps = keeps;
    within = omega arith;
    live = let e : now.view.stake ≡ mid.view.stake + t.seat.view.stake = ap (λ (v : View). v.stake) step.is in let before = p.live in let one = h.working.worked.acted.known.sound.live in omega arith;
    count = length_push benches t.bench ∙ ap (λ (n : ℕ). n + 1) p.count;
    apart = apart;
    stake = stake;
    has = has;
    owes = owes;
    ended = ended;
  }

-- all came back
pub has_collected : {J : Type 0} (g : GraphValue) (first now : SeatValue) (starts : List (Start J)) (benches : List BenchValue) (k : ℕ) (full : Option ℕ) (are : AreStarts g first.view.front starts)
    → IsCollecting g first now starts are.call benches k full → k ≡ length starts → HasCollected g first now starts benches full
has_collected {J} g first now starts benches k full are p all = record {
  news = p.news;
  grown = p.grown;
  keeps = λ n mine. subst (λ (i : ℕ). HasNumber p.news i) (ap (λ (u : Start J). u.seat.view.number) mine.1.2 ∙ mine.2) (p.keeps mine.1.0 mine.0 (let e = all in let b = mine.1.1 in omega arith));
  apart = record { call = are.call; long = are.long ∙ sym all ∙ sym p.count; each = λ i d below. p.apart i d (let m = p.count in omega arith) };
  live = subst (λ (n : ℕ). n < now.view.stake) all p.live;
  stake = let e = p.stake in let n : worth (drop k starts) ≡ 0 = ap (λ (l : List (Start J)). worth l) none in omega arith;
  has = λ c h. elim (p.has c h) [ inl l ↦ l | inr r ↦ absurd (no_cell c (subst (λ (l : List (Start J)). HasCell (starting_slips l) c) none r)) ];
  owes = p.owes;
  ended = p.ended;
}
  where
    none : drop k starts ≡ []
    none = drop_all k starts (let e = all in omega arith)
