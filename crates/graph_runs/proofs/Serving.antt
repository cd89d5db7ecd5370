-- Scripts at seats, and the starts.
use Rattle.std.proofs.Common.{◌≡◌, refl, sym, subst, ap, ap₂, ◌∙◌, ℕ, List, [], ◌∷◌, ◌++◌, map, Some, All, Contains, append-nil}
use Rattle.std.proofs.lemmas.List.{append_cancel_left}
use Rattle.std.proofs.lemmas.List.Elements.{All-map}
use Rattle.tensor_words.specs.Worlds.{WorldType}
use Rattle.graph_history.specs.declared.event.Act.{Act}
use Rattle.graph_history.specs.declared.event.Event.{Event}
use Rattle.graph_history.specs.Views.{View}
use Rattle.graph_history.specs.History.{calls}
use Rattle.graph_history.specs.Desks.{by, added_cells}
use Rattle.graph_history.proofs.Growing.{calls_by}
use Rattle.graph_rule.specs.Parting.{first_view}
use Rattle.graph_rule.specs.Values.{GraphValue, SeatValue}
use Rattle.shared_desk.specs.SharedDesks.{DeskValue, standing_of, Worked}
use Rattle.job_text.specs.declared.commands.Command.{Command}
use Rattle.job_text.specs.declared.commands.Command.TheVariants.{Add}
use Rattle.session_desk.specs.declared.reply.Reply.{Reply}
use Rattle.session_desk.specs.Replies.{replies}
use Rattle.session_desk.specs.Sessions.{IsAsked, RanScript}
use Rattle.session_desk.specs.Texts.{IsPrintable}
use Rattle.graph_runs.specs.Serving.{IsServed, IsBegun}

-- acts are told by their events
acts_of : (n : ℕ) (acts : List Act) → map (λ (e : Event). e.act) (by n acts) ≡ acts
acts_of n [] = refl
acts_of n (a ∷ acts) = ap (λ (l : List Act). a ∷ l) (acts_of n acts)

same_acts : (n : ℕ) (xs ys : List Act) → by n xs ≡ by n ys → xs ≡ ys
same_acts n xs ys e = sym (acts_of n xs) ∙ ap (λ (l : List Event). map (λ (e : Event). e.act) l) e ∙ acts_of n ys

-- a new desk at a seat
abbrev pub desk_at : SeatValue → ℕ → DeskValue
desk_at seat room = record { first = seat; seat = seat; room = room; added = [] }

-- a script ran on a new desk at a seat
pub served : (w : WorldType) (script : List Command) (seat : SeatValue) (room : ℕ) (now : DeskValue) (new : SeatValue) (cells : List ℕ) (before after : List Reply)
    → seat.view.world ≡ w → before ≡ [] → RanScript (standing_of (desk_at seat room)) (standing_of now) script before after → new ≡ now.seat
    → (acts : List Act) × Worked now.first new acts × (cells ≡ added_cells acts) → IsServed w script seat new cells after
served w script seat room now new cells before after world none ran new_is (acts, worked, listed) =
    let mine : Worked seat new acts = subst (λ (s : SeatValue). Worked s new acts) ran.goes.bond worked in
    let fronts : seat.view.front ++ mine.went.more ≡ seat.view.front ++ ran.goes.grows.more =
    sym (ap (λ (v : View). v.front) mine.went.is) ∙ ap (λ (s : SeatValue). s.view.front) new_is ∙ ran.goes.grows.is in
    let more : mine.went.more ≡ ran.goes.grows.more = append_cancel_left seat.view.front mine.went.more ran.goes.grows.more fronts in
    let events : by seat.view.number acts ≡ by seat.view.number ran.acts =
    sym mine.went.own ∙ ap (λ (l : List Event). calls l seat.view.number) more ∙ ran.goes.grows.own in
    let same : ran.acts ≡ acts = same_acts seat.view.number ran.acts acts (sym events) in
    let told : ran.told ≡ after = sym (ran.appended ∙ ap (λ (l : List Reply). l ++ ran.told) none) in
    record {
      acts = acts;
      worked = mine;
      listed = listed;
      unpaid = ap (λ (s : SeatValue). s.view.dues.unpaid) new_is ∙ ran.unpaid
          ∙ ap (λ (l : List ℕ). seat.view.dues.unpaid ++ l) (ap added_cells same ∙ sym listed);
      replied = ap₂ (λ (v : WorldType) (l : List Event). replies v.space script l) (sym world) events ∙ ran.replied ∙ ap (λ (l : List Reply). Some l) told;
      printable = subst (λ (v : WorldType). All (IsPrintable v.space) after) world (subst (λ (l : List Reply). All (IsPrintable seat.view.world.space) l) told ran.printable);
    }

-- roots may be put in
pub adds_asked : (w : WorldType) (starts : List ℕ) (script : List Command) → script ≡ map Add starts → All (Contains w.roots) starts → All (IsAsked w) script
adds_asked w starts script is rooted = rw is (All-map (IsAsked w) Add starts rooted)

-- the first seat of a graph
abbrev first_seat : GraphValue → SeatValue
first_seat g = record { table = g.table; view = first_view g.world }

begun_first : (g : GraphValue) (starts : List ℕ) (new : SeatValue) (cells : List ℕ) (told : List Reply) → IsServed g.world (map Add starts) (first_seat g) new cells told → IsBegun g starts new cells
begun_first g starts new cells told s =
    let went = s.worked.went in
    record {
      belongs = record { table = s.worked.table; world = ap (λ (v : View). v.world) went.is };
      number = ap (λ (v : View). v.number) went.is;
      begins = ap (λ (v : View). v.next) went.is;
      left = ap (λ (v : View). v.left) went.is;
      stake = ap (λ (v : View). v.stake) went.is;
      pledge = s.worked.pledge;
      owed = s.worked.owed ∙ sym s.listed;
      unpaid = s.unpaid;
      known = went.known;
      started = record {
        first = by 0 s.acts;
        rest = [];
        is = ap (λ (v : View). v.front) went.is ∙ went.alone refl ∙ sym (append-nil (by 0 s.acts));
        own = calls_by 0 s.acts;
        told = told;
        replied = s.replied;
      };
    }

pub begun : (g : GraphValue) (starts : List ℕ) (script : List Command) (seat new : SeatValue) (cells : List ℕ) (told : List Reply) → script ≡ map Add starts → seat.table ≡ g.table
    → seat.view ≡ first_view g.world → IsServed g.world script seat new cells told → IsBegun g starts new cells
begun g starts script seat new cells told script_is table view s =
    let seat_is : seat ≡ first_seat g = λ i. record { table = table i; view = view i } in
    begun_first g starts new cells told (subst (λ (q : SeatValue). IsServed g.world (map Add starts) q new cells told) seat_is
    (subst (λ (k : List Command). IsServed g.world k seat new cells told) script_is s))
