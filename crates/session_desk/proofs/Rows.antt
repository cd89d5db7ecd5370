-- What the acts of one command tell.
use Rattle.std.proofs.Common.{◌≡◌, refl, sym, subst, ◌∙◌, ap, ℕ, ◌==◌, ◌&&◌, if◌then◌else◌, Bool, true, false, List, [], ◌∷◌, ◌++◌, Option, Some, None, append-nil, append_assoc, arith, ◌<◌}
use Rattle.std.proofs.lemmas.Bool.{eq-eqb}
use Rattle.crystal_cartan.specs.declared.types.Arrow.{Arrow}
use Rattle.tensor_words.specs.Spaces.{SpaceType, size}
use Rattle.tensor_words.specs.Operators.{op}
use Rattle.tensor_words.specs.Worlds.{WorldType}
use Rattle.graph_history.specs.declared.event.Origin.{Origin}
use Rattle.graph_history.specs.declared.event.Origin.TheVariants.{Root, By}
use Rattle.graph_history.specs.declared.event.Act.{Act}
use Rattle.graph_history.specs.declared.event.Act.TheVariants.{Met, Missed, Drew, Saw, Blank, Tally}
use Rattle.graph_history.specs.declared.event.Event.{Event}
use Rattle.graph_history.specs.declared.answer.Added.{Added as AddedAnswer}
use Rattle.graph_history.specs.declared.answer.Added.TheVariants as added
use Rattle.graph_history.specs.declared.answer.Draw.{Draw}
use Rattle.graph_history.specs.declared.answer.Draw.TheVariants as draws
use Rattle.graph_history.specs.History.{state_of, HasVertex, HasSome, HasArrow, IsLegal}
use Rattle.graph_history.specs.Desks.{by, Standing, Goes, Does, Entering, Drawing, IsEntry, Draws, cell_of, find_acts, met, spent, owed_met, owed_spent, saw_zero, saw, drew_zero, entered_drew, entered_saw, full, added_cells}
use Rattle.graph_history.specs.Desks.{added as owed_added}
use Rattle.graph_history.proofs.Histories.{own_edge, one_code, stays_append}
use Rattle.graph_history.proofs.SoundStates.{sound}
use Rattle.graph_history.proofs.Growing.{by_append}
use Rattle.graph_history.proofs.DeskSteps.{goes_still, goes_then, goes_within}
use Rattle.graph_history.proofs.OwnActs as own
use Rattle.job_text.specs.declared.commands.Command.{Command}
use Rattle.job_text.specs.declared.commands.Command.TheVariants.{Add, Find, Look, Move, Done}
use Rattle.session_desk.specs.declared.reply.Reply.{Reply}
use Rattle.session_desk.specs.declared.reply.Reply.TheVariants.{Absent, Undrawn, Zero, Full, Word}
use Rattle.session_desk.specs.declared.reply.Reply.TheVariants as reply
use Rattle.session_desk.specs.Replies.{Told, first, reply_if, then_if, is_at, is_root, is_by, drawn_reply, added_reply, found_reply, debts_reply, at_vertex, told_of, on_entry, on_look, on_move, behind_entry}
use Rattle.session_desk.specs.Sessions.{Replied, IsAnswered}
use Rattle.session_desk.specs.Texts.{IsPrintable}
use Rattle.session_desk.proofs.Owing.{nothing_more, entry_owes, draws_owes}

-- tests that hold
self_eq : (x : ℕ) → (x == x) ≡ true
self_eq x = eq-eqb x x refl

at_self : (c : ℕ) (a : Arrow) → is_at c a c a ≡ true
at_self c a = own_edge c c a a refl refl

both : (a b : Bool) → a ≡ true → b ≡ true → (a && b) ≡ true
both a b p q = rw (p, q) refl

reply_true : (b : Bool) (reply : Reply) (rest : List Event) → b ≡ true → reply_if b reply rest ≡ Some (reply, rest)
reply_true b reply rest e = rw e refl

then_true : (b : Bool) (told : Told) → b ≡ true → then_if b told ≡ told
then_true b told e = rw e refl

-- entries
entry_told : (from : Origin → Bool) (n x : ℕ) (o : Origin) (tell : AddedAnswer → List Event → Told) (answer : AddedAnswer) (acts : List Act) → from o ≡ true → IsEntry x o answer acts
    → (rest : List Event) → first (on_entry from x tell) (by n acts ++ rest) ≡ tell answer rest
entry_told from n x o tell answer acts here (met c) rest = then_true (x == x) _ (self_eq x)
entry_told from n x o tell answer acts here spent rest = then_true (x == x) _ (self_eq x)
entry_told from n x o tell answer acts here (owed_added c) rest = then_true (x == x && from o) _ (both (x == x) (from o) (self_eq x) here)
entry_told from n x o tell answer acts here (owed_met c) rest = then_true (x == x) _ (self_eq x)
entry_told from n x o tell answer acts here owed_spent rest = then_true (x == x) _ (self_eq x)

move_entry : (n c y : ℕ) (a : Arrow) (o : Origin) (answer : AddedAnswer) (acts : List Act) → IsEntry y o answer acts → (rest : List Event)
    → first (on_move (Some y) c a) (by n acts ++ rest) ≡ first (on_entry (is_by c a) y (behind_entry c a y)) (by n acts ++ rest)
move_entry n c y a o answer acts (met d) rest = refl
move_entry n c y a o answer acts spent rest = refl
move_entry n c y a o answer acts (owed_added d) rest = refl
move_entry n c y a o answer acts (owed_met d) rest = refl
move_entry n c y a o answer acts owed_spent rest = refl

behind_drew : (n c y t : ℕ) (a : Arrow) (r : AddedAnswer) (rest : List Event) → cell_of r ≡ Some t → behind_entry c a y r (record { caller = n; act = Drew c a (Some t) } ∷ rest) ≡ Some (Word y, rest)
behind_drew n c y t a (added.New u) rest at = let same : t ≡ u = cc in reply_true _ (Word y) rest (both (is_at c a c a) (t == u) (at_self c a) (eq-eqb t u same))
behind_drew n c y t a (added.Old u) rest at = let same : t ≡ u = cc in reply_true _ (Word y) rest (both (is_at c a c a) (t == u) (at_self c a) (eq-eqb t u same))
behind_drew n c y t a added.Full rest at = cc

behind_saw : (n c y t : ℕ) (a : Arrow) (r : AddedAnswer) (rest : List Event) → cell_of r ≡ Some t → behind_entry c a y r (record { caller = n; act = Saw c a (Some t) } ∷ rest) ≡ Some (Word y, rest)
behind_saw n c y t a (added.New u) rest at = let same : t ≡ u = cc in reply_true _ (Word y) rest (both (is_at c a c a) (t == u) (at_self c a) (eq-eqb t u same))
behind_saw n c y t a (added.Old u) rest at = let same : t ≡ u = cc in reply_true _ (Word y) rest (both (is_at c a c a) (t == u) (at_self c a) (eq-eqb t u same))
behind_saw n c y t a added.Full rest at = cc

-- an entry, and one more act
entry_then : (n c y : ℕ) (a : Arrow) (r : AddedAnswer) (entry : List Act) (act : Act) (rest : List Event) → IsEntry y (By c a) r entry
    → first (on_move (Some y) c a) (by n (entry ++ act ∷ []) ++ rest) ≡ behind_entry c a y r (record { caller = n; act = act } ∷ rest)
entry_then n c y a r entry act rest is =
    let split : by n (entry ++ act ∷ []) ++ rest ≡ by n entry ++ (record { caller = n; act = act } ∷ rest) =
    ap (λ (l : List Event). l ++ rest) (sym (by_append n entry (act ∷ []))) ∙ append_assoc (by n entry) (record { caller = n; act = act } ∷ []) rest in
    ap (λ (l : List Event). first (on_move (Some y) c a) l) split
    ∙ move_entry n c y a (By c a) r entry is (record { caller = n; act = act } ∷ rest)
    ∙ entry_told (is_by c a) n y (By c a) (behind_entry c a y) r entry (at_self c a) is (record { caller = n; act = act } ∷ rest)

-- what is told of a draw: its target, where the arrow leads to one
abbrev told_by : Draw → Option ℕ → Reply
told_by draws.Full o = Full
told_by _ o = drawn_reply o

moved : (s : SpaceType) (n c x : ℕ) (a : Arrow) (answer : Draw) (acts : List Act) → Draws s c a x answer acts → (rest : List Event)
    → first (on_move (op s a x) c a) (by n acts ++ rest) ≡ Some (told_by answer (op s a x), rest)
moved s n c x a answer acts saw_zero rest = reply_true (is_at c a c a) _ rest (at_self c a)
moved s n c x a answer acts (saw t) rest = reply_true (is_at c a c a) _ rest (at_self c a)
moved s n c x a answer acts (drew_zero e) rest = rw e (reply_true _ _ rest (both (is_at c a c a) true (at_self c a) refl))
moved s n c x a answer acts (entered_drew t y r entry e at is) rest = rw e (entry_then n c y a r entry (Drew c a (Some t)) rest is ∙ behind_drew n c y t a r rest at)
moved s n c x a answer acts (entered_saw t y r entry e at is) rest = rw e (entry_then n c y a r entry (Saw c a (Some t)) rest is ∙ behind_saw n c y t a r rest at)
moved s n c x a answer acts (full y entry e is) rest =
    rw e (move_entry n c y a (By c a) added.Full entry is rest ∙ entry_told (is_by c a) n y (By c a) (behind_entry c a y) added.Full entry (at_self c a) is rest)

module _ {Bond : Type 0} where
  -- a command that takes no room may be said to take some
  pub replied_within : (old new : Standing Bond) (tell : List Event → Told) (reply : Reply) → Replied old new 0 tell reply → Replied old new 1 tell reply
  replied_within old new tell reply r = record { acts = r.acts; goes = goes_within old new 0 1 r.acts (omega arith) r.goes; unpaid = r.unpaid; told = r.told; printable = r.printable }

  -- a value that is told of a word by its code alone
  pub value_told : (s : Standing Bond) (u : SpaceType) (k : Command) (value : SpaceType → Reply) (reply : Reply) → ((v : SpaceType) (rest : List Event) → told_of v k rest ≡ Some (value v, rest))
      → IsLegal s.world s.front → u ≡ s.world.space → reply ≡ value u → IsPrintable u reply → IsAnswered s s 0 k reply
  value_told s u k value reply row legal space is printable = record {
    acts = [];
    goes = goes_still s legal;
    unpaid = nothing_more s.unpaid;
    told = λ rest. row s.world.space rest ∙ ap (λ (v : SpaceType). Some (value v, rest)) (sym space) ∙ ap (λ (r : Reply). Some (r, rest)) (sym is);
    printable = subst (λ (v : SpaceType). IsPrintable v reply) space printable;
  }

  pub add_told : (old new : Standing Bond) (x : ℕ) (answer : AddedAnswer) → Entering old new x Root answer → IsAnswered old new 1 (Add x) (added_reply answer)
  add_told old new x answer e = record {
    acts = e.acts;
    goes = e.does.goes;
    unpaid = e.does.goes.unpaid ∙ entry_owes x Root answer e.acts e.entry old.unpaid;
    told = λ rest. entry_told is_root old.caller x Root (λ r behind. Some (added_reply r, behind)) answer e.acts refl e.entry rest;
    printable = printable answer;
  }
    where
      printable : (answer : AddedAnswer) → IsPrintable old.world.space (added_reply answer)
      printable (added.New c) = tt
      printable (added.Old c) = tt
      printable added.Full = tt

  pub find_told : (old new : Standing Bond) (x : ℕ) (found : Option ℕ) → Does old new 0 (find_acts x found) → IsAnswered old new 0 (Find x) (found_reply found)
  find_told old new x (Some c) d = record { acts = Met c x ∷ []; goes = d.goes; unpaid = d.goes.unpaid ∙ nothing_more old.unpaid; told = λ rest. reply_true (x == x) _ rest (self_eq x); printable = tt }
  find_told old new x None d = record { acts = Missed x ∷ []; goes = d.goes; unpaid = d.goes.unpaid ∙ nothing_more old.unpaid; told = λ rest. reply_true (x == x) _ rest (self_eq x); printable = tt }

  -- what `done` is told
  pub done_told : (old new : Standing Bond) (n : ℕ) → Does old new 0 (Tally n ∷ []) → IsAnswered old new 0 Done (debts_reply n)
  done_told old new n d = record {
    acts = Tally n ∷ [];
    goes = d.goes;
    unpaid = d.goes.unpaid ∙ nothing_more old.unpaid;
    told = λ rest. refl;
    printable = printable (n == 0);
  }
    where
      printable : (none : Bool) → IsPrintable old.world.space (if none then reply.Done else reply.More)
      printable true = tt
      printable false = tt

  -- a command at a word that is not there, and at one that is
  absent : (old new : Standing Bond) (x : ℕ) (tell : ℕ → List Event → Told) → Does old new 0 (Missed x ∷ []) → Replied old new 0 (first (at_vertex x tell)) Absent
  absent old new x tell d = record { acts = Missed x ∷ []; goes = d.goes; unpaid = d.goes.unpaid ∙ nothing_more old.unpaid; told = λ rest. reply_true (x == x) _ rest (self_eq x); printable = tt }

  pub look_absent : (old new : Standing Bond) (x : ℕ) (a : Arrow) → Does old new 0 (Missed x ∷ []) → IsAnswered old new 0 (Look a x) Absent
  look_absent old new x a d = absent old new x (λ c rest. first (on_look (op old.world.space a x) c a) rest) d

  pub move_absent : (old new : Standing Bond) (x : ℕ) (a : Arrow) → Does old new 0 (Missed x ∷ []) → IsAnswered old new 1 (Move a x) Absent
  move_absent old new x a d =
      replied_within old new (told_of old.world.space (Move a x)) Absent (absent old new x (λ c rest. first (on_move (op old.world.space a x) c a) rest) d)

  pub met_there : (old new : Standing Bond) (c x : ℕ) → Does old new 0 (Met c x ∷ []) → HasVertex (state_of new.front) c x
  met_there old new c x d = own.met_there old.world old.caller old.front new.front [] c x [] d.goes.grows

  present : (old mid new : Standing Bond) (x c places : ℕ) (tell : ℕ → List Event → Told) (reply : Reply) → Does old mid 0 (Met c x ∷ []) → Replied mid new places (tell c) reply
      → Replied old new places (first (at_vertex x tell)) reply
  present old mid new x c places tell reply d r = record {
    acts = Met c x ∷ r.acts;
    goes = goes_then old mid new 0 places places (Met c x ∷ []) r.acts (omega arith) d.goes r.goes;
    unpaid = r.unpaid ∙ ap (λ (cells : List ℕ). cells ++ added_cells r.acts) d.goes.unpaid;
    told = λ rest. then_true (x == x) _ (self_eq x) ∙ subst (λ (n : ℕ). tell c (by n r.acts ++ rest) ≡ Some (reply, rest)) d.goes.caller (r.told rest);
    printable = subst (λ (w : WorldType). IsPrintable w.space reply) d.goes.world r.printable;
  }

  pub look_met : (old mid new : Standing Bond) (x c : ℕ) (a : Arrow) (reply : Reply) → Does old mid 0 (Met c x ∷ [])
      → Replied mid new 0 (first (on_look (op mid.world.space a x) c a)) reply → IsAnswered old new 0 (Look a x) reply
  look_met old mid new x c a reply d r =
      present old mid new x c 0 (λ e rest. first (on_look (op old.world.space a x) e a) rest) reply d
      (subst (λ (w : WorldType). Replied mid new 0 (first (on_look (op w.space a x) c a)) reply) d.goes.world r)

  pub move_met : (old mid new : Standing Bond) (x c : ℕ) (a : Arrow) (reply : Reply) → Does old mid 0 (Met c x ∷ [])
      → Replied mid new 1 (first (on_move (op mid.world.space a x) c a)) reply → IsAnswered old new 1 (Move a x) reply
  move_met old mid new x c a reply d r =
      present old mid new x c 1 (λ e rest. first (on_move (op old.world.space a x) e a) rest) reply d
      (subst (λ (w : WorldType). Replied mid new 1 (first (on_move (op w.space a x) c a)) reply) d.goes.world r)

  -- the target of an arrow that is drawn at the vertex of the code x
  zero_led : (old new : Standing Bond) (c x places : ℕ) (a : Arrow) (acts : List Act) → HasVertex (state_of old.front) c x → Goes old new places acts
      → HasArrow (state_of new.front) c a None → op old.world.space a x ≡ None
  zero_led old new c x places a acts there g drawn = own.led old.world old.caller old.front new.front c x a None acts g.grows there drawn

  pub target_there : (old new : Standing Bond) (c x t places : ℕ) (a : Arrow) (acts : List Act) → HasVertex (state_of old.front) c x → Goes old new places acts
      → HasArrow (state_of new.front) c a (Some t) → HasSome (state_of new.front) t
  target_there old new c x t places a acts there g drawn = let led = own.led old.world old.caller old.front new.front c x a (Some t) acts g.grows there drawn in (led.0, led.2)

  word_led : (old mid new : Standing Bond) (c x t y places : ℕ) (a : Arrow) (acts : List Act) → HasVertex (state_of old.front) c x → Goes old mid places acts
      → HasArrow (state_of mid.front) c a (Some t) → Goes mid new 0 [] → HasVertex (state_of new.front) t y → (op old.world.space a x ≡ Some y) × (y < size old.world.space)
  word_led old mid new c x t y places a acts there g drawn rest at =
      let led = own.led old.world old.caller old.front mid.front c x a (Some t) acts g.grows there drawn in
      let still : HasVertex (state_of new.front) t led.0 =
      subst (λ (l : List Event). HasVertex (state_of l) t led.0) (sym rest.grows.is) ((stays_append mid.front rest.grows.more).vertices t led.0 led.2) in
      let same : led.0 ≡ y = one_code (state_of new.front) t led.0 y still at in
      let legal : IsLegal old.world new.front = subst (λ (w : WorldType). IsLegal w new.front) g.world rest.grows.legal in
      (led.1 ∙ ap (λ (z : ℕ). Some z) same, (sound old.world new.front legal).words t y at)

  goes_on : (old mid new : Standing Bond) (places : ℕ) (acts : List Act) → Goes old mid places acts → Goes mid new 0 [] → Goes old new places acts
  goes_on old mid new places acts g rest = subst (λ (l : List Act). Goes old new places l) (append-nil acts) (goes_then old mid new places 0 places acts [] (omega arith) g rest)

  -- a look at an arrow of the vertex of a cell
  pub look_blank : (old new : Standing Bond) (o : Option ℕ) (c : ℕ) (a : Arrow) → Does old new 0 (Blank c a ∷ []) → Replied old new 0 (first (on_look o c a)) Undrawn
  look_blank old new o c a d = record { acts = Blank c a ∷ []; goes = d.goes; unpaid = d.goes.unpaid ∙ nothing_more old.unpaid; told = λ rest. reply_true (is_at c a c a) _ rest (at_self c a); printable = tt }

  pub look_drawn : (old new : Standing Bond) (c : ℕ) (a : Arrow) (t : Option ℕ) → Does old new 0 (Saw c a t ∷ []) → HasArrow (state_of new.front) c a t
  look_drawn old new c a t d = own.saw_drawn old.world old.caller old.front new.front [] c a t [] d.goes.grows

  pub look_zero : (old new : Standing Bond) (c x : ℕ) (a : Arrow) → HasVertex (state_of old.front) c x → Does old new 0 (Saw c a None ∷ [])
      → Replied old new 0 (first (on_look (op old.world.space a x) c a)) Zero
  look_zero old new c x a there d =
      let zero = zero_led old new c x 0 a (Saw c a None ∷ []) there d.goes (look_drawn old new c a None d) in
      record { acts = Saw c a None ∷ []; goes = d.goes; unpaid = d.goes.unpaid ∙ nothing_more old.unpaid; told = λ rest. rw zero (reply_true (is_at c a c a) Zero rest (at_self c a)); printable = tt }

  pub look_word : (old mid new : Standing Bond) (c x t y : ℕ) (a : Arrow) → HasVertex (state_of old.front) c x → Does old mid 0 (Saw c a (Some t) ∷ [])
      → Goes mid new 0 [] → HasVertex (state_of new.front) t y → Replied old new 0 (first (on_look (op old.world.space a x) c a)) (Word y)
  look_word old mid new c x t y a there d rest_of at =
      let led = word_led old mid new c x t y 0 a (Saw c a (Some t) ∷ []) there d.goes (look_drawn old mid c a (Some t) d) rest_of at in
      record {
        acts = Saw c a (Some t) ∷ [];
        goes = goes_on old mid new 0 (Saw c a (Some t) ∷ []) d.goes rest_of;
        unpaid = rest_of.unpaid ∙ d.goes.unpaid ∙ nothing_more old.unpaid;
        told = λ rest. rw led.0 (reply_true (is_at c a c a) (Word y) rest (at_self c a));
        printable = led.1;
      }

  -- a move along an arrow of the vertex of a cell
  pub move_drawn : (old new : Standing Bond) (c : ℕ) (a : Arrow) (t : Option ℕ) (answer : Draw) → Drawing old new c a answer → own.leads_to answer ≡ Some t → HasArrow (state_of new.front) c a t
  move_drawn old new c a t answer d is = own.draws_leads old.world old.caller old.front new.front c d.code a answer d.acts d.draws d.does.goes.grows t is

  draw_told : (old new : Standing Bond) (c x : ℕ) (a : Arrow) (answer : Draw) (reply : Reply) → HasVertex (state_of old.front) c x → (d : Drawing old new c a answer)
      → told_by answer (op old.world.space a x) ≡ reply → (rest : List Event) → first (on_move (op old.world.space a x) c a) (by old.caller d.acts ++ rest) ≡ Some (reply, rest)
  draw_told old new c x a answer reply there d is rest =
      let same : d.code ≡ x = one_code (state_of old.front) c d.code x d.there there in
      let drawn : Draws old.world.space c a x answer d.acts = subst (λ (y : ℕ). Draws old.world.space c a y answer d.acts) same d.draws in
      moved old.world.space old.caller c x a answer d.acts drawn rest ∙ ap (λ (r : Reply). Some (r, rest)) is

  draw_owes : (old new : Standing Bond) (c : ℕ) (a : Arrow) (answer : Draw) → (d : Drawing old new c a answer) → new.unpaid ≡ old.unpaid ++ added_cells d.acts
  draw_owes old new c a answer d = d.does.goes.unpaid ∙ draws_owes old.world.space c a d.code answer d.acts d.draws old.unpaid

  pub move_full : (old new : Standing Bond) (c x : ℕ) (a : Arrow) → HasVertex (state_of old.front) c x → Drawing old new c a draws.Full
      → Replied old new 1 (first (on_move (op old.world.space a x) c a)) Full
  move_full old new c x a there d = record { acts = d.acts; goes = d.does.goes; unpaid = draw_owes old new c a draws.Full d; told = draw_told old new c x a draws.Full Full there d refl; printable = tt }

  pub move_zero : (old new : Standing Bond) (c x : ℕ) (a : Arrow) → HasVertex (state_of old.front) c x → Drawing old new c a draws.Zero
      → Replied old new 1 (first (on_move (op old.world.space a x) c a)) Zero
  move_zero old new c x a there d =
      let zero = zero_led old new c x 1 a d.acts there d.does.goes (move_drawn old new c a None draws.Zero d refl) in
      record { acts = d.acts; goes = d.does.goes; unpaid = draw_owes old new c a draws.Zero d; told = draw_told old new c x a draws.Zero Zero there d (ap drawn_reply zero); printable = tt }

  pub move_word : (old mid new : Standing Bond) (c x t y : ℕ) (a : Arrow) → HasVertex (state_of old.front) c x → Drawing old mid c a (draws.To t)
      → Goes mid new 0 [] → HasVertex (state_of new.front) t y → Replied old new 1 (first (on_move (op old.world.space a x) c a)) (Word y)
  move_word old mid new c x t y a there d rest_of at =
      let led = word_led old mid new c x t y 1 a d.acts there d.does.goes (move_drawn old mid c a (Some t) (draws.To t) d refl) rest_of at in
      record {
        acts = d.acts;
        goes = goes_on old mid new 1 d.acts d.does.goes rest_of;
        unpaid = rest_of.unpaid ∙ draw_owes old mid c a (draws.To t) d;
        told = draw_told old mid c x a (draws.To t) (Word y) there d (ap drawn_reply led.0);
        printable = led.1;
      }
