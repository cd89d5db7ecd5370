-- A whole run: the starts, the seats of the sessions, growth beside them, what they told, the end.
use Rattle.std.proofs.Common.{◌≡◌, sym, subst, ap, ◌∙◌, arith, nat_eq, ℕ, ◌+◌, ◌-◌, ◌^◌, ◌<◌, ◌≤◌, inr, List, [], ◌++◌, length, get_or, Option, Some, All, Contains, append_assoc}
use Rattle.std.specs.List.{IsDistinct}
use Rattle.std.proofs.lemmas.List.Elements.{Contains-get_or}
use Rattle.shared_seats.proofs.Fronts.{prefix_on}
use Rattle.crystal_growers.proofs.Ended.{nothing_unpaid}
use Rattle.tensor_words.specs.Worlds.{WorldType}
use Rattle.canonical_graph.specs.Graphs.{FinishedType}
use Rattle.graph_history.specs.declared.event.Event.{Event}
use Rattle.graph_history.specs.Views.{View}
use Rattle.graph_history.specs.History.{state_of, HasSome, IsLegal, calls}
use Rattle.graph_rule.specs.Rule.{whole, IsPrefix}
use Rattle.graph_rule.specs.Values.{GraphValue, SeatValue, Belongs}
use Rattle.crystal_growers.specs.declared.growth.Grown.{Grown}
use Rattle.crystal_growers.specs.declared.growth.Grown.TheVariants.{Closed, Full}
use Rattle.crystal_growers.specs.Growth.{IsGrown}
use Rattle.job_text.specs.declared.commands.Command.{Command}
use Rattle.session_desk.specs.declared.reply.Reply.{Reply}
use Rattle.session_desk.specs.Replies.{replies}
use Rattle.session_desk.specs.Texts.{IsPrintable}
use Rattle.graph_runs.specs.declared.seats.Session.{Session}
use Rattle.graph_runs.specs.Runs.{IsStarted, IsHistory}
use Rattle.graph_runs.specs.Serving.{IsBegun}
use Rattle.graph_runs.specs.Seating.{IsSeated}
use Rattle.graph_runs.specs.Beside.{CanGrow}
use Rattle.graph_runs.specs.Hearing.{Hears, AreHeard}
use Rattle.graph_runs.specs.Ending.{IsLeft, IsOver}
use Rattle.graph_runs.proofs.Heard.{hears_on}
use Rattle.graph_runs.proofs.Endings.{grown_front, grown_full, spent_stays}

-- the starts stay in front
started_on : (w : WorldType) (starts : List ℕ) (f h : List Event) → IsPrefix f h → IsStarted w starts f → IsStarted w starts h
started_on w starts f h (more, grown) s = record {
  first = s.first;
  rest = s.rest ++ more;
  is = grown ∙ ap (λ (l : List Event). l ++ more) s.is ∙ append_assoc s.first s.rest more;
  own = s.own;
  told = s.told;
  replied = s.replied;
}

module _ (g : GraphValue) (starts : List ℕ) (scripts : List (List Command)) (first seated : SeatValue) (cells : List ℕ) (sessions : List Session) (growers : ℕ) (few : length scripts ≤ 16)
    (some : 1 ≤ growers) (most : growers ≤ 16) (b : IsBegun g starts first cells) (s : IsSeated g first seated (length scripts) sessions) where
  seated_belongs : Belongs seated g
  seated_belongs = record { table = s.table ∙ b.belongs.table; world = ap (λ (v : View). v.world) s.cut ∙ b.belongs.world }

  seated_left : seated.view.left ≡ 2 ^ 32 - 1 - length scripts
  seated_left = ap (λ (v : View). v.left) s.cut ∙ ap (λ (n : ℕ). n - length scripts) b.left

  seated_stake : seated.view.stake ≡ whole - length scripts
  seated_stake = ap (λ (v : View). v.stake) s.cut ∙ ap (λ (n : ℕ). n - length scripts) b.stake

  seated_unpaid : seated.view.dues.unpaid ≡ cells
  seated_unpaid = ap (λ (v : View). v.dues.unpaid) s.cut ∙ b.unpaid

  seated_front : seated.view.front ≡ first.view.front
  seated_front = ap (λ (v : View). v.front) s.cut

  start_there : (k : ℕ) (d : ℕ) → k < length cells → HasSome (state_of seated.view.front) (get_or cells k d)
  start_there k d below =
      subst (λ (h : List Event). HasSome (state_of h) (get_or cells k d)) (sym seated_front)
      (b.known.dues.owed (get_or cells k d) (subst (λ (l : List ℕ). Contains l (get_or cells k d)) (sym b.owed) (Contains-get_or cells k d below)))

  pub may_grow : CanGrow g seated cells growers
  may_grow = record {
    can = record {
      belongs = seated_belongs;
      pledge = ap (λ (v : View). v.dues.pledge) s.cut ∙ b.pledge;
      once = subst (λ (l : List ℕ). IsDistinct nat_eq l) b.unpaid b.known.dues.once;
      there = start_there;
      unpaid = λ c at. subst (λ (l : List ℕ). Contains l c) (sym seated_unpaid) at;
    };
    some = some;
    few = most;
    stake = omega (arith, seated_stake, few, most);
    numbers = omega (arith, seated_left, few, most);
    owed = λ c at. inr (subst (λ (l : List ℕ). Contains l c) (ap (λ (v : View). v.dues.owed) s.cut ∙ b.owed) at);
  }

  -- the growth is over, and the sessions were heard
  module _ (grown heard : SeatValue) (answer : Grown) (told : List (List Reply)) (next : List ℕ) (e : IsGrown seated.view grown.view cells growers answer)
      (h : AreHeard g scripts grown heard told next) where
    left_by : (a : Grown) → IsGrown seated.view grown.view cells growers a → IsLeft heard next a
    left_by Closed closed = h.joined.unpaid ∙ ap (λ (l : List ℕ). l ++ next) (nothing_unpaid seated.view grown.view cells growers seated_unpaid closed)
    left_by (Full x) full = spent_stays grown.view.front heard.view.front h.joined.front (grown_full seated.view grown.view cells growers x full)

    pub is_left : IsLeft heard next answer
    is_left = left_by answer e

    -- the run is over
    module _ (over : SeatValue) (finished : Option FinishedType) (o : IsOver g heard over finished) where
      whole_front : IsPrefix first.view.front over.view.front
      whole_front =
          subst (λ (f : List Event). IsPrefix f over.view.front) seated_front
          (prefix_on seated.view.front grown.view.front over.view.front (grown_front seated.view grown.view cells growers answer e)
          (prefix_on grown.view.front heard.view.front over.view.front h.joined.front o.front))

      heard_last : (k : ℕ) → k < length scripts → Hears g.world over.view (get_or scripts k []) (k + 1) (get_or told k [])
      heard_last k below = hears_on g.world heard.view over.view (get_or scripts k []) (k + 1) (get_or told k []) o.kept (h.heard k below)

      replied_last : (k : ℕ) → k < length scripts → replies g.world.space (get_or scripts k []) (calls over.view.front (k + 1)) ≡ Some (get_or told k [])
      replied_last k below =
          let last = heard_last k below in
          let same : calls over.view.front (k + 1) ≡ last.kept.calls =
          ap (λ (n : ℕ). calls over.view.front n) (sym last.number) ∙ o.known.sound.agrees.own.kept last.kept last.there in
          ap (λ (l : List Event). replies g.world.space (get_or scripts k []) l) same ∙ last.replied

      pub history : IsHistory g.world starts scripts over.view.front told
      history = record {
        legal = subst (λ (w : WorldType). IsLegal w over.view.front) o.belongs.world o.known.legal;
        started = started_on g.world starts first.view.front over.view.front whole_front b.started;
        count = h.count;
        replied = replied_last;
      }

      pub printable_last : (k : ℕ) → k < length scripts → All (IsPrintable g.world.space) (get_or told k [])
      printable_last k below = let last = heard_last k below in last.printable
