-- The sessions come back.
use Rattle.std.proofs.Common.{◌≡◌, refl, sym, subst, ap, ap₂, ◌∙◌, arith, ℕ, ◌+◌, ◌<◌, inl, inr, List, [], ◌∷◌, ◌++◌, length, get_or, Result, Ok, IfOk, Contains, append_assoc, length-append}
use Rattle.std.proofs.lemmas.Bool.{cases_lt}
use Rattle.std.proofs.lemmas.List.{get_or_append_left, get_or-append-add}
use Rattle.std.proofs.lemmas.Result.{IfOk-at_ok}
use Rattle.std.proofs.lemmas.List.Elements.{Contains-append_left, Contains-append_right}
use Rattle.shared_seats.proofs.Fronts.{prefix_on}
use Rattle.crystal_streams.specs.declared.faults.NoMemory.{NoMemory}
use Rattle.tensor_words.specs.Worlds.{WorldType}
use Rattle.graph_history.specs.Views.{Kept}
use Rattle.graph_history.specs.Views.{View}
use Rattle.graph_rule.specs.Parting.{joined}
use Rattle.graph_rule.specs.Rule.{IsPrefix}
use Rattle.graph_rule.specs.Told.{Advances}
use Rattle.graph_rule.specs.Values.{GraphValue, SeatValue}
use Rattle.job_text.specs.declared.commands.Command.{Command}
use Rattle.session_desk.specs.declared.reply.Reply.{Reply}
use Rattle.graph_runs.specs.declared.serve.Served.{Served}
use Rattle.graph_runs.specs.Beside.{IsBack}
use Rattle.graph_runs.specs.Hearing.{Hears, IsHearing, AreWaiting}

-- histories that begin with one another
-- what was heard stays heard where nothing that is kept is lost
pub hears_on : (w : WorldType) (v u : View) (script : List Command) (n : ℕ) (told : List Reply) → ((m : Kept) → Contains v.kept m → Contains u.kept m) → Hears w v script n told
    → Hears w u script n told
hears_on w v u script n told keeps h = record { kept = h.kept; there = keeps h.kept h.there; number = h.number; replied = h.replied; printable = h.printable }

-- the last of some waiting sessions
pub waiting_last : (g : GraphValue) (scripts : List (List Command)) (back rest : List (Result Served NoMemory)) (one : Result Served NoMemory) → back ≡ rest ++ one ∷ []
    → AreWaiting g scripts back → IfOk one (IsBack g (get_or scripts (length rest) []) (length rest + 1))
waiting_last g scripts back rest one is waiting =
    let long : length back ≡ length rest + 1 = ap length is ∙ length-append rest (one ∷ []) in
    let last : get_or back (length rest) one ≡ one =
    ap (λ (l : List (Result Served NoMemory)). get_or l (length rest) one) is ∙ (let e : length rest ≡ length rest + 0 = omega arith in ap (λ (j : ℕ). get_or (rest ++ one ∷ []) j one) e) ∙ get_or-append-add rest (one ∷ []) 0 one in
    subst (λ (r : Result Served NoMemory). IfOk r (IsBack g (get_or scripts (length rest) []) (length rest + 1))) last (waiting (length rest) one (omega (arith, long)))

pub waiting_rest : (g : GraphValue) (scripts : List (List Command)) (back rest : List (Result Served NoMemory)) (one : Result Served NoMemory) → back ≡ rest ++ one ∷ []
    → AreWaiting g scripts back → AreWaiting g scripts rest
waiting_rest g scripts back rest one is waiting = λ k d below.
    let long : length back ≡ length rest + 1 = ap length is ∙ length-append rest (one ∷ []) in
    let same : get_or back k d ≡ get_or rest k d = ap (λ (l : List (Result Served NoMemory)). get_or l k d) is ∙ get_or_append_left rest (one ∷ []) d k below in
    subst (λ (r : Result Served NoMemory). IfOk r (IsBack g (get_or scripts k []) (k + 1))) same (waiting k d (omega (arith, long, below)))

module _ (g : GraphValue) (scripts : List (List Command)) (old mid new : SeatValue) (rest : ℕ) (told more : List (List Reply)) (cells longer : List ℕ) (one : Served)
    (h : IsHearing g scripts old mid (rest + 1) told cells) (b : IsBack g (get_or scripts rest []) (rest + 1) one) (table : new.table ≡ mid.table)
    (step : Advances (joined mid.view one.seat.view) new.view [] (joined mid.view one.seat.view).dues) (front : IsPrefix mid.view.front new.view.front)
    (pushed : more ≡ told ++ one.replies ∷ []) (added : longer ≡ cells ++ one.cells.items) where
  kept_are : new.view.kept ≡ mid.view.kept ++ record { number = one.seat.view.number; calls = one.seat.view.calls } ∷ one.seat.view.kept
  kept_are = ap (λ (v : View). v.kept) step.is

  keeps : (m : Kept) → Contains mid.view.kept m → Contains new.view.kept m
  keeps m there =
      subst (λ (l : List Kept). Contains l m) (sym kept_are)
      (Contains-append_left mid.view.kept (record { number = one.seat.view.number; calls = one.seat.view.calls } ∷ one.seat.view.kept) m there)

  newest : Hears g.world new.view (get_or scripts rest []) (rest + 1) one.replies
  newest = record {
    kept = record { number = one.seat.view.number; calls = one.seat.view.calls };
    there = subst (λ (l : List Kept). Contains l (record { number = one.seat.view.number; calls = one.seat.view.calls })) (sym kept_are)
        (Contains-append_right mid.view.kept (record { number = one.seat.view.number; calls = one.seat.view.calls } ∷ one.seat.view.kept)
        (record { number = one.seat.view.number; calls = one.seat.view.calls }) (0, omega arith, refl));
    number = b.number;
    replied = b.replied;
    printable = b.printable;
  }

  longer_told : length more ≡ length told + 1
  longer_told = ap length pushed ∙ length-append told (one.replies ∷ [])

  earlier : (j k : ℕ) → j < length told → j + k + 1 ≡ length scripts → Hears g.world new.view (get_or scripts k []) (k + 1) (get_or more j [])
  earlier j k below place =
      let same : get_or told j [] ≡ get_or more j [] = sym (ap (λ (l : List (List Reply)). get_or l j []) pushed ∙ get_or_append_left told (one.replies ∷ []) [] j below) in
      subst (λ (rs : List Reply). Hears g.world new.view (get_or scripts k []) (k + 1) rs) same
      (hears_on g.world mid.view new.view (get_or scripts k []) (k + 1) (get_or told j []) keeps (h.heard j k below place))

  latest : (j k : ℕ) → j ≡ length told → j + k + 1 ≡ length scripts → Hears g.world new.view (get_or scripts k []) (k + 1) (get_or more j [])
  latest j k at place =
      let same_place : rest ≡ k = omega (arith, at, place, h.count) in
      let here : j ≡ length told + 0 = omega (arith, at) in
      let same : one.replies ≡ get_or more j [] =
      sym (ap (λ (l : List (List Reply)). get_or l j []) pushed ∙ ap (λ (i : ℕ). get_or (told ++ one.replies ∷ []) i []) here ∙ get_or-append-add told (one.replies ∷ []) 0 []) in
      subst (λ (rs : List Reply). Hears g.world new.view (get_or scripts k []) (k + 1) rs) same
      (subst (λ (n : ℕ). Hears g.world new.view (get_or scripts n []) (n + 1) one.replies) same_place newest)

  pub hearing_on : IsHearing g scripts old new rest more longer
  hearing_on = record {
    joined = record {
      belongs = record { table = table ∙ h.joined.belongs.table; world = ap (λ (v : View). v.world) step.is ∙ h.joined.belongs.world };
      number = ap (λ (v : View). v.number) step.is ∙ h.joined.number;
      stake = let both : new.view.stake ≡ mid.view.stake + one.seat.view.stake = ap (λ (v : View). v.stake) step.is in omega (arith, both, b.stake, h.joined.stake, longer_told);
      left = ap (λ (v : View). v.left) step.is ∙ h.joined.left;
      pledge = let both : new.view.dues.pledge ≡ mid.view.dues.pledge + one.seat.view.dues.pledge = ap (λ (v : View). v.dues.pledge) step.is in omega (arith, both, b.pledge, h.joined.pledge);
      front = prefix_on old.view.front mid.view.front new.view.front h.joined.front front;
      unpaid = ap (λ (v : View). v.dues.unpaid) step.is ∙ ap₂ (λ (xs ys : List ℕ). xs ++ ys) h.joined.unpaid b.unpaid
          ∙ append_assoc old.view.dues.unpaid cells one.cells.items ∙ ap (λ (l : List ℕ). old.view.dues.unpaid ++ l) (sym added);
    };
    count = omega (arith, h.count, longer_told);
    heard = λ j k below place. elim (cases_lt j (length told)) [
      | inl before ↦ earlier j k before place
      | inr behind ↦ latest j k (omega (arith, behind, below, longer_told)) place
    ];
  }

-- the last of the waiting sessions is heard
pub hearing_next : (g : GraphValue) (scripts : List (List Command)) (old mid new : SeatValue) (back rest : List (Result Served NoMemory)) (one : Result Served NoMemory) (served : Served)
    (told more : List (List Reply)) (cells longer : List ℕ) → back ≡ rest ++ one ∷ [] → one ≡ Ok served → AreWaiting g scripts back → IsHearing g scripts old mid (length back) told cells
    → new.table ≡ mid.table → Advances (joined mid.view served.seat.view) new.view [] (joined mid.view served.seat.view).dues → IsPrefix mid.view.front new.view.front
    → more ≡ told ++ served.replies ∷ [] → longer ≡ cells ++ served.cells.items → IsHearing g scripts old new (length rest) more longer
hearing_next g scripts old mid new back rest one served told more cells longer is was waiting h table step front pushed added =
    let long : length back ≡ length rest + 1 = ap length is ∙ length-append rest (one ∷ []) in
    hearing_on g scripts old mid new (length rest) told more cells longer served (subst (λ (n : ℕ). IsHearing g scripts old mid n told cells) long h)
    (IfOk-at_ok (IsBack g (get_or scripts (length rest) []) (length rest + 1)) was (waiting_last g scripts back rest one is waiting)) table step front pushed added
