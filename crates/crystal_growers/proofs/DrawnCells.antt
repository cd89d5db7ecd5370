-- Cells that are drawn one after another, at a desk and at a seat.
use Rattle.std.proofs.Common.{◌≡◌, refl, sym, ap, ap₂, subst, ◌∙◌, ℕ, ◌+◌, ◌*◌, ◌<◌, ◌≤◌, inl, inr, nat_eq, List, [], ◌∷◌, ◌++◌, length, take, drop, get_or, length-append, Option, Some, None, Ok, Err, Contains, append-nil, append_assoc, arith}
use Rattle.std.specs.List.{IsDistinct}
use Rattle.std.proofs.Math.Nat.{mul-le-mul_right}
use Rattle.std.proofs.lemmas.List.{take-append-drop, drop_more}
use Rattle.std.proofs.lemmas.List.Elements.{Contains-get_or, All-nil, All-contains, All-push, All-weaker, All-contains_itself, Contains-append_left, Contains-append_right, Contains-append_cases}
use Rattle.graph_history.proofs.Growing.{added_cells-append}
use Rattle.list_facts.proofs.Lists.{nothing_in, in_first, in_rest, in_cons, nothing}
use Rattle.crystal_cartan.specs.declared.types.Arrow.{Arrow}
use Rattle.tensor_words.specs.Worlds.{WorldType}
use Rattle.graph_history.specs.declared.answer.Look.{Look}
use Rattle.graph_history.specs.declared.event.Act.{Act}
use Rattle.graph_history.specs.declared.event.Act.TheVariants.{Spent, Settled}
use Rattle.graph_history.specs.declared.event.Event.{Event}
use Rattle.graph_history.specs.Views.{View}
use Rattle.graph_history.specs.History.{state_of, HasSome, IsWhole, IsLegal}
use Rattle.graph_history.proofs.CellLists.{keep_all}
use Rattle.graph_history.specs.Desks.{by, without, Standing, Goes, Does, look_acts, added_cells}
use Rattle.graph_history.proofs.DeskSteps.{goes_still, goes_then, goes_within}
use Rattle.graph_rule.specs.Rule.{IsPrefix, IsKnown, IsComplete}
use Rattle.graph_rule.specs.Values.{GraphValue, SeatValue}
use Rattle.graph_rule.proofs.Composing.{went_grows}
use Rattle.graph_rule.proofs.Views.{stays_prefix, some_prefix, whole_stays}
use Rattle.crystal_growers.specs.declared.expansion.Spent.{Spent as SpentAnswer}
use Rattle.shared_desk.specs.SharedDesks.{DeskValue, standing_of, Worked}
use Rattle.crystal_growers.specs.Expansion.{IsGrowthAct, taken_back, Expanded, AreWhole, HasEnded, rest_of, IsPaid, Expansions}
use Rattle.crystal_growers.specs.GrowthEvents.{Grew}
use Rattle.crystal_growers.specs.Drawing.{CanDraw, HasDrawn}
use Rattle.shared_desk.proofs.SharedSteps.{look_quiet, worked_none, worked_then, worked_world, worked_belongs}
use Rattle.crystal_growers.proofs.ExpandSteps.{step_run, looked_growth}
use Rattle.crystal_growers.proofs.Parts.{rest_has, rest_on, rest_append, rest_same, without_is, distinct_split}
use Rattle.crystal_growers.proofs.Histories.{never_added, acts_same, grew_none, grew_then, grew_by}

-- whole vertices stay whole in longer fronts
pub whole_later : (w : WorldType) (f h : List Event) (c : ℕ) → IsPrefix f h → IsWhole w (state_of f) c → IsWhole w (state_of h) c
whole_later w f h c p whole = whole_stays w (state_of f) (state_of h) c (stays_prefix f h p) whole

pub whole_both : (w : WorldType) (f h : List Event) (xs ys : List ℕ) → IsPrefix f h → AreWhole w f xs → AreWhole w h ys → AreWhole w h (xs ++ ys)
whole_both w f h xs ys p a b = λ c there. elim (Contains-append_cases xs ys c there) [ inl l ↦ whole_later w f h c p (a c l) | inr r ↦ b c r ]

-- where all of one part was drawn and a further part ended
pub ended_then : (w : WorldType) (f h : List Event) (xs ys : List ℕ) (acts more : List Act) (full : Option ℕ) → IsPrefix f h → AreWhole w f xs
    → HasEnded (AreWhole w h ys) (λ x. Contains more (Spent x)) full → HasEnded (AreWhole w h (xs ++ ys)) (λ x. Contains (acts ++ more) (Spent x)) full
ended_then w f h xs ys acts more None p a b = whole_both w f h xs ys p a b
ended_then w f h xs ys acts more (Some x) p a b = Contains-append_right acts more (Spent x) b

pub paid_then : (xs ys old mid new added more : List ℕ) (full : Option ℕ) → mid ≡ rest_of xs old ++ added → ((c : ℕ) → Contains added c → Contains ys c → ⊥)
    → IsPaid (rest_of ys mid) more new full → IsPaid (rest_of (xs ++ ys) old) (added ++ more) new full
paid_then xs ys old mid new added more None is apart paid =
    paid ∙ ap (λ (l : List ℕ). rest_of ys l ++ more) is ∙ ap (λ (l : List ℕ). l ++ more) (rest_on xs ys old added apart) ∙ append_assoc (rest_of (xs ++ ys) old) added more
paid_then xs ys old mid new added more (Some x) is apart paid = tt

pub only : (c d : ℕ) → Contains (c ∷ []) d → c ≡ d
only c d h = elim (in_cons c [] d h) [ inl e ↦ e | inr none ↦ absurd (nothing_in d none) ]

module _ {Bond : Type 0} where
  pub expansions_none : (s : Standing Bond) (cells : List ℕ) → cells ≡ [] → IsLegal s.world s.front → Expansions s s cells None
  expansions_none s cells none legal = record {
    acts = [];
    goes = goes_within s s 0 (length cells * (2 * s.world.space.cartan.rank)) [] (omega arith) (goes_still s legal);
    grew = grew_none s.world s.caller s.front;
    paid = sym (ap (λ (l : List ℕ). rest_of l s.unpaid ++ []) none ∙ append-nil (rest_of [] s.unpaid) ∙ keep_all s.unpaid);
    ended = λ c h. absurd (nothing_in c (subst (λ (l : List ℕ). Contains l c) none h));
  }

  -- one cell was drawn, and paid for
  pub expansions_one : (old drawn new : Standing Bond) (c : ℕ) → Expanded old drawn c (Ok tt) → Does drawn new 0 (Settled (Some c) ∷ []) → Expansions old new (c ∷ []) None
  expansions_one old drawn new c f p = record {
    acts = acts;
    goes = goes;
    grew = grew_by old.world old.caller c f.code old.front new.front acts goes.grows f.there (All-push (IsGrowthAct old.world.space c f.code) f.acts (Settled (Some c)) f.run.growth tt);
    paid = p.goes.unpaid ∙ ap (without c) f.run.unpaid ∙ without_is c (old.unpaid ++ added_cells f.acts) ∙ rest_append (c ∷ []) old.unpaid (added_cells f.acts)
        ∙ ap (λ (l : List ℕ). rest_of (c ∷ []) old.unpaid ++ l) (rest_same (c ∷ []) (added_cells f.acts) apart ∙ sym (append-nil (added_cells f.acts)) ∙ sym (added_cells-append f.acts (Settled (Some c) ∷ [])));
    ended = λ d h. subst (λ (k : ℕ). IsWhole old.world (state_of new.front) k) (only c d h) (whole_later old.world drawn.front new.front c (p.goes.grows.more, p.goes.grows.is) f.ended);
  }
    where
      acts : List Act
      acts = f.acts ++ Settled (Some c) ∷ []

      goes : Goes old new (length (c ∷ []) * (2 * old.world.space.cartan.rank)) (f.acts ++ Settled (Some c) ∷ [])
      goes = goes_then old drawn new (2 * old.world.space.cartan.rank) 0 (length (c ∷ []) * (2 * old.world.space.cartan.rank)) f.acts (Settled (Some c) ∷ []) (omega arith) f.run.goes p.goes

      apart : (d : ℕ) → Contains (added_cells f.acts) d → Contains (c ∷ []) d → ⊥
      apart d h g = never_added old.world old.caller old.front drawn.front f.acts d f.run.goes.grows h (subst (λ (k : ℕ). HasSome (state_of old.front) k) (only c d g) (f.code, f.there))

  -- the word of some arrow of a cell found no cell
  pub expansions_full : (old new : Standing Bond) (c : ℕ) (e : SpentAnswer) → Expanded old new c (Err e) → Expansions old new (c ∷ []) (Some e.code)
  expansions_full old new c e f = record {
    acts = f.acts;
    goes = goes_within old new (2 * old.world.space.cartan.rank) (length (c ∷ []) * (2 * old.world.space.cartan.rank)) f.acts (omega arith) f.run.goes;
    grew = grew_by old.world old.caller c f.code old.front new.front f.acts f.run.goes.grows f.there f.run.growth;
    paid = tt;
    ended = subst (λ (l : List Act). Contains l (Spent e.code)) (sym f.ended.is)
        (Contains-append_right f.ended.before (Spent e.code ∷ taken_back f.ended.owed) (Spent e.code) (in_first (Spent e.code) (taken_back f.ended.owed)));
  }

  -- further cells, all of which were vertices before
  pub expansions_then : (old mid new : Standing Bond) (xs ys : List ℕ) (full : Option ℕ) → Expansions old mid xs None → Expansions mid new ys full
      → ((c : ℕ) → Contains ys c → HasSome (state_of old.front) c) → Expansions old new (xs ++ ys) full
  expansions_then old mid new xs ys full e f there = record {
    acts = e.acts ++ f.acts;
    goes = goes_then old mid new (length xs * rank) (length ys * rank) (length (xs ++ ys) * rank) e.acts f.acts (rw (length-append xs ys) (omega arith)) e.goes
        (subst (λ (w : WorldType). Goes mid new (length ys * (2 * w.space.cartan.rank)) f.acts) e.goes.world f.goes);
    grew = grew_then old.world old.caller old.front mid.front new.front e.grew
        (subst (λ (w : WorldType). Grew w old.caller mid.front new.front) e.goes.world (subst (λ (n : ℕ). Grew mid.world n mid.front new.front) e.goes.caller f.grew));
    paid = subst (λ (l : List ℕ). IsPaid (rest_of (xs ++ ys) old.unpaid) l new.unpaid full) (sym (added_cells-append e.acts f.acts))
        (paid_then xs ys old.unpaid mid.unpaid new.unpaid (added_cells e.acts) (added_cells f.acts) full e.paid apart f.paid);
    ended = ended_then old.world mid.front new.front xs ys e.acts f.acts full (f.goes.grows.more, f.goes.grows.is) e.ended
        (subst (λ (w : WorldType). HasEnded (AreWhole w new.front ys) (λ x. Contains f.acts (Spent x)) full) e.goes.world f.ended);
  }
    where
      rank : ℕ
      rank = 2 * old.world.space.cartan.rank

      apart : (c : ℕ) → Contains (added_cells e.acts) c → Contains ys c → ⊥
      apart c h g = never_added old.world old.caller old.front mid.front e.acts c e.goes.grows h (there c g)

  -- where some word found no cell, nothing is said of the other cells
  pub expansions_within : (old new : Standing Bond) (xs cells : List ℕ) (x : ℕ) → length xs ≤ length cells → Expansions old new xs (Some x) → Expansions old new cells (Some x)
  expansions_within old new xs cells x within e = record {
    acts = e.acts;
    goes = goes_within old new (length xs * (2 * old.world.space.cartan.rank)) (length cells * (2 * old.world.space.cartan.rank)) e.acts (mul-le-mul_right (2 * old.world.space.cartan.rank) within) e.goes;
    grew = e.grew;
    paid = tt;
    ended = e.ended;
  }

  -- a cell was read, and two of its arrows were looked at
  read_word : (old new : Standing Bond) (c : ℕ) → HasSome (state_of old.front) c → Goes old new 0 [] → Expansions old new [] None
  read_word old new c (y, there) g = record {
    acts = [];
    goes = goes_within old new 0 (length {A = ℕ} [] * (2 * old.world.space.cartan.rank)) [] (omega arith) g;
    grew = grew_by old.world old.caller c y old.front new.front [] g.grows there (All-nil (IsGrowthAct old.world.space c y));
    paid = g.unpaid ∙ sym (keep_all old.unpaid) ∙ sym (append-nil (rest_of [] old.unpaid));
    ended = λ e h. absurd (nothing_in e h);
  }

  looked : (old new : Standing Bond) (c : ℕ) (a : Arrow) (answer : Look) → HasSome (state_of old.front) c → Does old new 0 (look_acts c a answer) → Expansions old new [] None
  looked old new c a answer (y, there) d =
      let run = step_run old new c y (look_acts c a answer) d (looked_growth old.world.space c y a answer) (look_quiet c a answer) in
      record {
        acts = look_acts c a answer;
        goes = goes_within old new 0 (length {A = ℕ} [] * (2 * old.world.space.cartan.rank)) (look_acts c a answer) (omega arith) d.goes;
        grew = grew_by old.world old.caller c y old.front new.front (look_acts c a answer) d.goes.grows there run.growth;
        paid = run.unpaid ∙ ap (λ (l : List ℕ). l ++ added_cells (look_acts c a answer)) (sym (keep_all old.unpaid));
        ended = λ e h. absurd (nothing_in e h);
      }

  pub goes_there : (old new : Standing Bond) (c places : ℕ) (acts : List Act) → HasSome (state_of old.front) c → Goes old new places acts → HasSome (state_of new.front) c
  goes_there old new c places acts there g = some_prefix old.front new.front c (g.grows.more, g.grows.is) there

  pub read_there : (old mid : Standing Bond) (c : ℕ) → HasSome (state_of old.front) c → Expansions old mid [] None → HasSome (state_of mid.front) c
  read_there old mid c there e = goes_there old mid c (length {A = ℕ} [] * (2 * old.world.space.cartan.rank)) e.acts there e.goes

  pub read_more : (old mid word first new : Standing Bond) (c : ℕ) (a b : Arrow) (one two : Look) → HasSome (state_of old.front) c → Expansions old mid [] None → Goes mid word 0 []
      → Does word first 0 (look_acts c a one) → Does first new 0 (look_acts c b two) → Expansions old new [] None
  read_more old mid word first new c a b one two there e g d f =
      let some : HasSome (state_of mid.front) c = read_there old mid c there e in
      let still : HasSome (state_of word.front) c = goes_there mid word c 0 [] some g in
      let last : HasSome (state_of first.front) c = goes_there word first c 0 (look_acts c a one) still d.goes in
      expansions_then old first new [] [] None
      (expansions_then old mid first [] [] None e (expansions_then mid word first [] [] None (read_word mid word c some g) (looked word first c a one still d) (λ k h. absurd (nothing_in k h))) (λ k h. absurd (nothing_in k h)))
      (looked first new c b two last f) (λ k h. absurd (nothing_in k h))

-- the next cell of a list is still unpaid
pub pay_there : {Bond : Type 0} (old mid drawn : Standing Bond) (cells : List ℕ) (i : ℕ) → IsDistinct nat_eq cells → i < length cells → Expansions old mid (take i cells) None
    → Expanded mid drawn (get_or cells i 0) (Ok tt) → ((c : ℕ) → Contains cells c → Contains old.unpaid c) → Contains drawn.unpaid (get_or cells i 0)
pay_there old mid drawn cells i once below e f unpaid =
    let c : ℕ = get_or cells i 0 in
    let split : cells ≡ take i cells ++ c ∷ drop (i + 1) cells = sym (take-append-drop i cells) ∙ ap (λ (l : List ℕ). take i cells ++ l) (drop_more cells i 0 below) in
    let apart = distinct_split (take i cells) (c ∷ drop (i + 1) cells) (subst (λ (l : List ℕ). IsDistinct nat_eq l) split once) in
    let left : Contains (rest_of (take i cells) old.unpaid) c = rest_has (take i cells) old.unpaid c (unpaid c (Contains-get_or cells i 0 below)) (λ here. apart.2 c here (in_first c (drop (i + 1) cells))) in
    let before : Contains mid.unpaid c = subst (λ (l : List ℕ). Contains l c) (sym e.paid) (Contains-append_left (rest_of (take i cells) old.unpaid) (added_cells e.acts) c left) in
    subst (λ (l : List ℕ). Contains l c) (sym f.run.unpaid) (Contains-append_left mid.unpaid (added_cells f.acts) c before)

-- a seat that went on by acts
worked_number : (v w : SeatValue) (acts : List Act) → Worked v w acts → w.view.number ≡ v.view.number
worked_number v w acts r = ap (λ (x : View). x.number) r.went.is

worked_front : (v w : SeatValue) (acts : List Act) → Worked v w acts → IsPrefix v.view.front w.view.front
worked_front v w acts r = (r.went.more, ap (λ (x : View). x.front) r.went.is)

-- what a desk at the seat drew, by what `into_parts` tells
pub drawn_by : (seat now : SeatValue) (d : DeskValue) (room : ℕ) (cells added : List ℕ) (full : Option ℕ)
    → Expansions (standing_of (record { first = seat; seat = seat; room = room; added = [] })) (standing_of d) cells full
    → now ≡ d.seat → (acts : List Act) × Worked d.first now acts × (added ≡ added_cells acts) → HasDrawn cells seat now added full
drawn_by seat now d room cells added full e is (acts, did, listed) = subst (λ (s : SeatValue). HasDrawn cells seat s added full) (sym is) (record {
  acts = e.acts;
  worked = subst (λ (l : List Act). Worked seat d.seat l) (sym same) worked;
  listed = listed ∙ ap added_cells (sym same);
  grew = e.grew;
  paid = subst (λ (l : List ℕ). IsPaid (rest_of cells seat.view.dues.unpaid) l d.seat.view.dues.unpaid full) (ap added_cells same ∙ sym listed) e.paid;
  ended = e.ended;
})
  where
    worked : Worked seat d.seat acts
    worked = subst (λ (s : SeatValue). Worked s d.seat acts) e.goes.bond (subst (λ (s : SeatValue). Worked d.first s acts) is did)

    same : e.acts ≡ acts
    same = acts_same seat.view.number seat.view.front d.seat.view.front e.goes.grows.more worked.went.more e.acts acts e.goes.grows.is e.goes.grows.own
        (ap (λ (x : View). x.front) worked.went.is) worked.went.own

-- drawing goes on
pub drawn_none : (s : SeatValue) (cells : List ℕ) → cells ≡ [] → IsKnown s.view → IsComplete s.view → s.view.dues.pledge ≡ 0 → HasDrawn cells s s [] None
drawn_none s cells none known complete pledge = record {
  acts = [];
  worked = worked_none s known complete pledge;
  listed = refl;
  grew = grew_none s.view.world s.view.number s.view.front;
  paid = sym (ap (λ (l : List ℕ). rest_of l s.view.dues.unpaid ++ []) none ∙ append-nil (rest_of [] s.view.dues.unpaid) ∙ keep_all s.view.dues.unpaid);
  ended = λ c h. absurd (nothing_in c (subst (λ (l : List ℕ). Contains l c) none h));
}

module _ (g : GraphValue) (old mid now : SeatValue) (xs ys : List ℕ) (added : List ℕ) where
  new_cell : HasDrawn xs old mid added None → (c : ℕ) → Contains added c → HasSome (state_of old.view.front) c → ⊥
  new_cell d c h there = never_added old.view.world old.view.number old.view.front mid.view.front d.acts c (went_grows old.view mid.view d.acts mid.view.dues d.worked.went) (subst (λ (l : List ℕ). Contains l c) d.listed h) there

  pub drawn_then : (more : List ℕ) (full : Option ℕ) → HasDrawn xs old mid added None → HasDrawn ys mid now more full
      → ((c : ℕ) → Contains ys c → HasSome (state_of old.view.front) c) → HasDrawn (xs ++ ys) old now (added ++ more) full
  drawn_then more full p q there =
      let world = worked_world old mid p.acts p.worked in
      record {
        acts = p.acts ++ q.acts;
        worked = worked_then old mid now p.acts q.acts p.worked q.worked;
        listed = ap₂ (λ (k l : List ℕ). k ++ l) p.listed q.listed ∙ sym (added_cells-append p.acts q.acts);
        grew = grew_then old.view.world old.view.number old.view.front mid.view.front now.view.front p.grew
            (subst (λ (w : WorldType). Grew w old.view.number mid.view.front now.view.front) world (subst (λ (n : ℕ). Grew mid.view.world n mid.view.front now.view.front) (worked_number old mid p.acts p.worked) q.grew));
        paid = paid_then xs ys old.view.dues.unpaid mid.view.dues.unpaid now.view.dues.unpaid added more full p.paid (λ c h here. new_cell p c h (there c here)) q.paid;
        ended = ended_then old.view.world mid.view.front now.view.front xs ys p.acts q.acts full (worked_front mid now q.acts q.worked) p.ended
            (subst (λ (w : WorldType). HasEnded (AreWhole w now.view.front ys) (λ x. Contains q.acts (Spent x)) full) world q.ended);
      }

  -- the next cells can be drawn where the first ones were
  pub can_next : (rest : List ℕ) → CanDraw g (xs ++ (ys ++ rest)) old → HasDrawn xs old mid added None → CanDraw g ys mid
  can_next rest can d =
      let apart = distinct_split xs (ys ++ rest) can.once in
      let both = distinct_split ys rest apart.1 in
      let within : (c : ℕ) → Contains ys c → Contains (xs ++ (ys ++ rest)) c = λ c h. Contains-append_right xs (ys ++ rest) c (Contains-append_left ys rest c h) in
      record {
        belongs = worked_belongs g old mid d.acts can.belongs d.worked;
        pledge = d.worked.pledge;
        once = both.0;
        there = All-weaker (Contains ys) (HasSome (state_of mid.view.front)) (λ c h. some_prefix old.view.front mid.view.front c (worked_front old mid d.acts d.worked)
            (All-contains (HasSome (state_of old.view.front)) (xs ++ (ys ++ rest)) c can.there (within c h))) ys (All-contains_itself ys);
        unpaid = λ c h. subst (λ (l : List ℕ). Contains l c) (sym d.paid) (Contains-append_left (rest_of xs old.view.dues.unpaid) added c
            (rest_has xs old.view.dues.unpaid c (can.unpaid c (within c h)) (λ here. apart.2 c here (Contains-append_left ys rest c h))));
      }

-- where some word of a further parcel found no cell
pub drawn_part : (g : GraphValue) (old mid now : SeatValue) (xs ys rest added more cells : List ℕ) (x : ℕ) → cells ≡ xs ++ (ys ++ rest) → CanDraw g cells old
    → HasDrawn xs old mid added None → HasDrawn ys mid now more (Some x) → HasDrawn cells old now (added ++ more) (Some x)
drawn_part g old mid now xs ys rest added more cells x is can p q =
    let d = drawn_then g old mid now xs ys added more (Some x) p q (λ c h. All-contains (HasSome (state_of old.view.front)) cells c can.there
    (subst (λ (l : List ℕ). Contains l c) (sym is) (Contains-append_right xs (ys ++ rest) c (Contains-append_left ys rest c h)))) in
    record { acts = d.acts; worked = d.worked; listed = d.listed; grew = d.grew; paid = tt; ended = d.ended }

-- the events of acts
pub by_has : (n : ℕ) (acts : List Act) (a : Act) → Contains acts a → Contains (by n acts) (record { caller = n; act = a })
by_has n [] a h = absurd (nothing_in a h)
by_has n (x ∷ acts) a h = elim (in_cons x acts a h) [
  | inl e ↦ subst (λ (y : Act). Contains (by n (x ∷ acts)) (record { caller = n; act = y })) e (in_first (record { caller = n; act = x }) (by n acts))
  | inr rest ↦ in_rest (record { caller = n; act = x }) (by n acts) (record { caller = n; act = a }) (by_has n acts a rest)
]
