-- A desk at a seat of the shared graph, one call after another.
use Rattle.std.proofs.Common.{◌≡◌, refl, sym, ap, subst, ◌∙◌, ℕ, ◌+◌, ◌-◌, ◌<◌, ◌≤◌, nat_eq, List, [], ◌∷◌, ◌++◌, length, append-nil, append_assoc, length-append, Option, Some, None, Bool, true, false, arith}
use Rattle.graph_history.proofs.Growing.{added_cells-append}
use Rattle.crystal_cartan.specs.declared.types.Arrow.{Arrow}
use Rattle.tensor_words.specs.Spaces.{SpaceType}
use Rattle.tensor_words.specs.Worlds.{WorldType}
use Rattle.graph_history.specs.declared.event.Origin.{Origin}
use Rattle.graph_history.specs.declared.event.Act.{Act}
use Rattle.graph_history.specs.declared.event.Act.TheVariants.{Met, Missed, Drew, Saw, Blank, Settled, Tally}
use Rattle.graph_history.specs.declared.event.Event.{Event}
use Rattle.graph_history.specs.declared.answer.Added.{Added as AddedAnswer}
use Rattle.graph_history.specs.declared.answer.Added.TheVariants.{New, Old, Full}
use Rattle.graph_history.specs.declared.answer.Look.{Look}
use Rattle.graph_history.specs.declared.answer.Look.TheVariants.{Blank as LooksBlank, Zero as LooksZero, To as LooksTo}
use Rattle.graph_history.specs.declared.view.Dues.{Dues}
use Rattle.graph_history.specs.Views.{View}
use Rattle.graph_history.specs.History.{state_of, vertex_at, HasVertex, HasSome, IsLegal}
use Rattle.graph_history.specs.Desks.{Goes, Does, EndsWith, IsEntry, met, spent, added, owed_met, owed_spent, unpaid_by, unpaid_after, find_acts, look_acts, added_cells}
use Rattle.graph_history.proofs.DeskSteps.{entry_unpaid}
use Rattle.graph_history.proofs.Histories.{one_code}
use Rattle.graph_history.proofs.SoundStates.{sound}
use Rattle.graph_rule.specs.Rule.{whole, IsKnown, IsComplete}
use Rattle.graph_rule.specs.Told.{Advances, Went, paid, drawn_acts}
use Rattle.graph_rule.specs.Values.{GraphValue, SeatValue, Belongs}
use Rattle.graph_rule.proofs.Composing.{advanced_stays, went_one, went_then, went_grows, step_ends}
use Rattle.table_calls.specs.Entries.{Enters, IsAddedIn, entered_dues}
use Rattle.shared_desk.specs.SharedDesks.{DeskValue, standing_of, Worked, IsShared, Entered}

-- a seat that went on, by one call and by several

pub worked_none : (v : SeatValue) → IsKnown v.view → IsComplete v.view → v.view.dues.pledge ≡ 0 → Worked v v []
worked_none v known complete free = record {
  table = refl;
  went = record {
    more = [];
    is = λ i. record v.view { calls = sym (append-nil v.view.calls) i; front = sym (append-nil v.view.front) i };
    own = refl;
    alone = λ all. refl;
    known = known;
    complete = complete;
  };
  owed = sym (append-nil v.view.dues.owed);
  pledge = free;
}

module _ (v w : SeatValue) (acts : List Act) (d : Dues) (table : w.table ≡ v.table) where
  pub worked_went : Went v.view w.view acts d → d.owed ≡ v.view.dues.owed ++ added_cells acts → d.pledge ≡ 0 → Worked v w acts
  worked_went went owed free =
      let dues : d ≡ w.view.dues = sym (ap (λ (x : View). x.dues) went.is) in
      record {
        table = table;
        went = subst (λ (e : Dues). Went v.view w.view acts e) dues went;
        owed = subst (λ (e : Dues). e.owed ≡ v.view.dues.owed ++ added_cells acts) dues owed;
        pledge = subst (λ (e : Dues). e.pledge ≡ 0) dues free;
      }

  pub worked_step : Advances v.view w.view acts d → d.owed ≡ v.view.dues.owed ++ added_cells acts → d.pledge ≡ 0 → Worked v w acts
  worked_step step owed free = worked_went (went_one v.view w.view acts d step) owed free

pub worked_then : (u v w : SeatValue) (xs ys : List Act) → Worked u v xs → Worked v w ys → Worked u w (xs ++ ys)
worked_then u v w xs ys p q = record {
  table = q.table ∙ p.table;
  went = went_then u.view v.view w.view xs ys v.view.dues w.view.dues p.went q.went;
  owed = q.owed ∙ ap (λ (l : List ℕ). l ++ added_cells ys) p.owed ∙ append_assoc u.view.dues.owed (added_cells xs) (added_cells ys)
      ∙ ap (λ (l : List ℕ). u.view.dues.owed ++ l) (sym (added_cells-append xs ys));
  pledge = q.pledge;
}

pub worked_world : (v w : SeatValue) (acts : List Act) → Worked v w acts → w.view.world ≡ v.view.world
worked_world v w acts p = ap (λ (x : View). x.world) p.went.is

pub worked_belongs : (g : GraphValue) (v w : SeatValue) (acts : List Act) → Belongs v g → Worked v w acts → Belongs w g
worked_belongs g v w acts b p = record { table = p.table ∙ b.table; world = worked_world v w acts p ∙ b.world }

-- an entry
entry_owed : (x : ℕ) (o : Origin) (answer : AddedAnswer) (acts : List Act) (d : Dues) → IsEntry x o answer acts → d.pledge ≡ 0
    → ((entered_dues answer d).owed ≡ d.owed ++ added_cells acts) × ((entered_dues answer d).pledge ≡ 0)
entry_owed x o answer acts d (met c) free = (sym (append-nil d.owed), free)
entry_owed x o answer acts d spent free = (sym (append-nil d.owed), free)
entry_owed x o answer acts d (added c) free = (refl, refl)
entry_owed x o answer acts d (owed_met c) free = (sym (append-nil d.owed), free)
entry_owed x o answer acts d owed_spent free = (sym (append-nil d.owed), free)

pub worked_entry : (v w : SeatValue) (x : ℕ) (o : Origin) (answer : AddedAnswer) (e : Enters v.view w.view x o answer) → w.table ≡ v.table → v.view.dues.pledge ≡ 0 → Worked v w e.acts
worked_entry v w x o answer e table free =
    let dues = entry_owed x o answer e.acts v.view.dues e.entry free in worked_went v w e.acts (entered_dues answer v.view.dues) table e.went dues.0 dues.1

entered_unpaid : (answer : AddedAnswer) (d : Dues) → (entered_dues answer d).unpaid ≡ unpaid_after answer d.unpaid
entered_unpaid (New c) d = refl
entered_unpaid (Old c) d = refl
entered_unpaid Full d = refl

pub unpaid_entry : (v w : SeatValue) (x : ℕ) (o : Origin) (answer : AddedAnswer) (e : Enters v.view w.view x o answer) → w.view.dues.unpaid ≡ unpaid_by v.view.dues.unpaid e.acts
unpaid_entry v w x o answer e = ap (λ (u : View). u.dues.unpaid) e.went.is ∙ entered_unpaid answer v.view.dues ∙ sym (entry_unpaid v.view.dues.unpaid x o answer e.acts e.entry)

-- what is unpaid after an entry, by its acts; the list of a desk grows alike
pub entry_listed : (x : ℕ) (o : Origin) (answer : AddedAnswer) (acts : List Act) (cells : List ℕ) → IsEntry x o answer acts → unpaid_after answer cells ≡ cells ++ added_cells acts
entry_listed x o answer acts cells (met c) = sym (append-nil cells)
entry_listed x o answer acts cells spent = sym (append-nil cells)
entry_listed x o answer acts cells (added c) = refl
entry_listed x o answer acts cells (owed_met c) = sym (append-nil cells)
entry_listed x o answer acts cells owed_spent = sym (append-nil cells)

-- the invariant
pub shared_first : (g : GraphValue) (first seat : SeatValue) (room : ℕ) (listed : List ℕ) (spaces : ℕ) → first ≡ seat → Belongs seat g → IsKnown seat.view → IsComplete seat.view → seat.view.dues.pledge ≡ 0
    → listed ≡ [] → room ≤ spaces → IsShared g first seat room listed spaces
shared_first g first seat room listed spaces same belongs known complete free none fits = record {
  belongs = belongs;
  acts = [];
  worked = subst (λ (s : SeatValue). Worked s seat []) (sym same) (worked_none seat known complete free);
  list = none;
  spare = let short = ap length none in omega arith;
}

module _ (g : GraphValue) (first old new : SeatValue) (room left : ℕ) (listed more : List ℕ) (spaces capacity : ℕ) where
  pub shared_on : IsShared g first old room listed spaces → (acts : List Act) → Worked old new acts → more ≡ listed ++ added_cells acts → length more + left ≤ capacity
      → IsShared g first new left more capacity
  shared_on s acts p is spare = record {
    belongs = worked_belongs g old new acts s.belongs p;
    acts = s.acts ++ acts;
    worked = worked_then first old new s.acts acts s.worked p;
    list = is ∙ ap (λ (l : List ℕ). l ++ added_cells acts) s.list ∙ sym (added_cells-append s.acts acts);
    spare = spare;
  }

  module _ (last : SpaceType) (kept : IsShared g first old room listed spaces × (last ≡ old.view.world.space)) (table : new.table ≡ old.table) where
    -- after an entry
    pub shared_entered : (x : ℕ) (o : Origin) (answer : AddedAnswer) → Enters old.view new.view x o answer → more ≡ unpaid_after answer listed → length more + left ≤ capacity
        → IsShared g first new left more capacity × (last ≡ new.view.world.space)
    shared_entered x o answer e is spare =
        let p = worked_entry old new x o answer e table kept.0.worked.pledge in
        (shared_on kept.0 e.acts p (is ∙ entry_listed x o answer e.acts listed e.entry) spare, kept.1 ∙ ap (λ (w : WorldType). w.space) (sym (worked_world old new e.acts p)))

-- after a step that puts nothing in
module _ (g : GraphValue) (first old new : SeatValue) (room : ℕ) (listed : List ℕ) (spaces : ℕ) (last : SpaceType) (kept : IsShared g first old room listed spaces × (last ≡ old.view.world.space))
    (table : new.table ≡ old.table) (acts : List Act) (d : Dues) where
  pub shared_still : Advances old.view new.view acts d → added_cells acts ≡ [] → d.owed ≡ old.view.dues.owed → d.pledge ≡ old.view.dues.pledge
      → IsShared g first new room listed spaces × (last ≡ new.view.world.space)
  shared_still step none owed pledge =
      let nothing : (l : List ℕ) → l ≡ l ++ added_cells acts = λ l. sym (append-nil l) ∙ ap (λ (m : List ℕ). l ++ m) (sym none) in
      let p = worked_step old new acts d table step (owed ∙ nothing old.view.dues.owed) (pledge ∙ kept.0.worked.pledge) in
      (shared_on g first old new room room listed listed spaces spaces kept.0 acts p (nothing listed) kept.0.spare, kept.1 ∙ ap (λ (w : WorldType). w.space) (sym (worked_world old new acts p)))

-- acts that put nothing in
pub record Quiet (acts : List Act) : Type 0 where
  pub act : Act
  pub one : acts ≡ act ∷ []
  pub added : added_cells acts ≡ []
  pub unpaid : (cells : List ℕ) → unpaid_by cells acts ≡ cells

pub find_quiet : (x : ℕ) (answer : Option ℕ) → Quiet (find_acts x answer)
find_quiet x (Some c) = record { act = Met c x; one = refl; added = refl; unpaid = λ cells. refl }
find_quiet x None = record { act = Missed x; one = refl; added = refl; unpaid = λ cells. refl }

pub look_quiet : (c : ℕ) (a : Arrow) (answer : Look) → Quiet (look_acts c a answer)
look_quiet c a LooksBlank = record { act = Blank c a; one = refl; added = refl; unpaid = λ cells. refl }
look_quiet c a LooksZero = record { act = Saw c a None; one = refl; added = refl; unpaid = λ cells. refl }
look_quiet c a (LooksTo t) = record { act = Saw c a (Some t); one = refl; added = refl; unpaid = λ cells. refl }

pub drawn_quiet : (c : ℕ) (a : Arrow) (t : Option ℕ) (b : Bool) → Quiet (drawn_acts c a t b)
drawn_quiet c a t true = record { act = Drew c a t; one = refl; added = refl; unpaid = λ cells. refl }
drawn_quiet c a t false = record { act = Saw c a t; one = refl; added = refl; unpaid = λ cells. refl }

pub tally_quiet : (n : ℕ) → Quiet (Tally n ∷ [])
tally_quiet n = record { act = Tally n; one = refl; added = refl; unpaid = λ cells. refl }

module _ (v w : SeatValue) (acts : List Act) (q : Quiet acts) (table : w.table ≡ v.table) (step : Advances v.view w.view acts v.view.dues) (free : v.view.dues.pledge ≡ 0) where
  pub worked_quiet : Worked v w acts
  worked_quiet = worked_step v w acts v.view.dues table step (sym (append-nil v.view.dues.owed) ∙ ap (λ (l : List ℕ). v.view.dues.owed ++ l) (sym q.added)) free

  pub unpaid_quiet : w.view.dues.unpaid ≡ unpaid_by v.view.dues.unpaid acts
  unpaid_quiet = ap (λ (u : View). u.dues.unpaid) step.is ∙ sym (q.unpaid v.view.dues.unpaid)

  pub last_quiet : EndsWith v.view.number w.view.front
  last_quiet = step_ends v.view w.view q.act v.view.dues (subst (λ (l : List Act). Advances v.view w.view l v.view.dues) q.one step)

-- what the calls tell
module _ (old new : DeskValue) (acts : List Act) (places : ℕ) (first : new.first ≡ old.first) where
  pub goes_by : Worked old.seat new.seat acts → new.seat.view.dues.unpaid ≡ unpaid_by old.seat.view.dues.unpaid acts → new.room ≤ old.room → old.room ≤ new.room + places
      → Goes (standing_of old) (standing_of new) places acts
  goes_by p unpaid least most = record {
    world = worked_world old.seat new.seat acts p;
    caller = ap (λ (x : View). x.number) p.went.is;
    bond = first;
    alone = ap (λ (x : View). nat_eq x.stake whole) p.went.is;
    least = least;
    most = most;
    grows = went_grows old.seat.view new.seat.view acts new.seat.view.dues p.went;
    unpaid = unpaid;
  }

-- a desk with this seat, this room and this list
abbrev pub desk_of : SeatValue → SeatValue → ℕ → List ℕ → DeskValue
desk_of first seat room listed = record { first = first; seat = seat; room = room; added = listed }

-- a call that puts nothing in
module _ (now : DeskValue) (first old new : SeatValue) (room : ℕ) (listed : List ℕ) (view_is : desk_of first old room listed ≡ now) (table : new.table ≡ old.table) (free : old.view.dues.pledge ≡ 0) where
  pub told_quiet : (acts : List Act) → Quiet acts → Advances old.view new.view acts old.view.dues → Does (standing_of now) (standing_of (desk_of first new room listed)) 0 acts
  told_quiet acts q step =
      subst (λ (d : DeskValue). Does (standing_of d) (standing_of (desk_of first new room listed)) 0 acts) view_is (record {
        goes = goes_by (desk_of first old room listed) (desk_of first new room listed) acts 0 refl (worked_quiet old new acts q table step free) (unpaid_quiet old new acts q table step free) (omega arith) (omega arith);
        last = last_quiet old new acts q table step free;
      })

  -- a cell was paid
  pub told_paid : (c : ℕ) → Advances old.view new.view (Settled (Some c) ∷ []) (paid c old.view.dues) → Does (standing_of now) (standing_of (desk_of first new room listed)) 0 (Settled (Some c) ∷ [])
  told_paid c step =
      subst (λ (d : DeskValue). Does (standing_of d) (standing_of (desk_of first new room listed)) 0 (Settled (Some c) ∷ [])) view_is (record {
        goes = goes_by (desk_of first old room listed) (desk_of first new room listed) (Settled (Some c) ∷ []) 0 refl
            (worked_step old new (Settled (Some c) ∷ []) (paid c old.view.dues) table step (sym (append-nil old.view.dues.owed)) free)
            (ap (λ (u : View). u.dues.unpaid) step.is) (omega arith) (omega arith);
        last = step_ends old.view new.view (Settled (Some c)) (paid c old.view.dues) step;
      })

  -- an entry was made
  pub told_entry : (x : ℕ) (o : Origin) (answer : AddedAnswer) (more : List ℕ) → Enters old.view new.view x o answer → 0 < now.room → IsAddedIn new.view.world (state_of new.view.front) x answer
      → Entered now (desk_of first new (room - 1) more) x o answer
  told_entry x o answer more e some exact =
      let one : 0 < room = subst (λ (d : DeskValue). 0 < d.room) (sym view_is) some in
      subst (λ (d : DeskValue). Entered d (desk_of first new (room - 1) more) x o answer) view_is (record {
        acts = e.acts;
        entry = e.entry;
        does = record {
          goes = goes_by (desk_of first old room listed) (desk_of first new (room - 1) more) e.acts 1 refl (worked_entry old new x o answer e table free) (unpaid_entry old new x o answer e) (omega arith) (omega arith);
          last = e.last;
        };
        exact = exact;
      })

-- reading the word of a cell
module _ (v w : View) (step : Advances v w [] v.dues) (c : ℕ) where
  read_there : HasSome (state_of v.front) c → HasSome (state_of w.front) c
  read_there (y, there) = (y, (advanced_stays v w [] v.dues step).vertices c y there)

  pub read_none : HasSome (state_of v.front) c → vertex_at (state_of w.front).vertices c ≡ None → ⊥
  read_none there none = let here = read_there there in let some = here.1 in cc

  pub read_was : (x : ℕ) → HasSome (state_of v.front) c → HasVertex (state_of w.front) c x → HasVertex (state_of v.front) c x
  read_was x (y, there) is =
      let same : y ≡ x = one_code (state_of w.front) c y x ((advanced_stays v w [] v.dues step).vertices c y there) is in subst (λ (z : ℕ). HasVertex (state_of v.front) c z) same there

pub told_read : (now : DeskValue) (first old new : SeatValue) (room : ℕ) (listed : List ℕ) → desk_of first old room listed ≡ now → new.table ≡ old.table → old.view.dues.pledge ≡ 0
    → Advances old.view new.view [] old.view.dues → Goes (standing_of now) (standing_of (desk_of first new room listed)) 0 []
told_read now first old new room listed view_is table free step =
    subst (λ (d : DeskValue). Goes (standing_of d) (standing_of (desk_of first new room listed)) 0 []) view_is
    (goes_by (desk_of first old room listed) (desk_of first new room listed) [] 0 refl (worked_step old new [] old.view.dues table step (sym (append-nil old.view.dues.owed)) free) (ap (λ (u : View). u.dues.unpaid) step.is) (omega arith) (omega arith))

-- a cell with a vertex is one of the world's
pub cell_fits : (w : WorldType) (h : List Event) (c : ℕ) → IsLegal w h → HasSome (state_of h) c → c < w.cells
cell_fits w h c legal there = (sound w h legal).below c there.0 there.1

-- the list after an entry, and the room that is left
pub unpaid_not_new : (answer : AddedAnswer) (cells : List ℕ) → ((c : ℕ) → answer ≡ New c → ⊥) → cells ≡ unpaid_after answer cells
unpaid_not_new (New c) cells other = absurd (other c refl)
unpaid_not_new (Old c) cells other = refl
unpaid_not_new Full cells other = refl

pub spare_more : (listed more : List ℕ) (c room spaces capacity : ℕ) → more ≡ listed ++ c ∷ [] → length listed + room ≤ spaces → 0 < room → capacity ≡ spaces → length more + (room - 1) ≤ capacity
spare_more listed more c room spaces capacity is spare some same = let longer = ap length is in omega (arith, length-append listed (c ∷ []))

pub spare_less : (listed : List ℕ) (room spaces : ℕ) → length listed + room ≤ spaces → 0 < room → length listed + (room - 1) ≤ spaces
spare_less listed room spaces spare some = omega arith
