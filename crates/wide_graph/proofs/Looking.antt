-- Steps one after another.
use Rattle.std.proofs.Common.{◌≡◌, refl, sym, ap, subst, ◌∙◌, ℕ, inl, inr, Bool, List, [], ◌∷◌, ◌++◌, append_assoc, None}
use Rattle.std.proofs.lemmas.List.{append-nil}
use Rattle.graph_history.specs.declared.event.Origin.{Origin}
use Rattle.graph_history.specs.declared.event.Act.{Act}
use Rattle.graph_history.specs.declared.event.Act.TheVariants.{Added as AddedAct, Met, Missed, Spent}
use Rattle.graph_history.specs.declared.event.Event.{Event}
use Rattle.graph_history.specs.History.{state_of, IsOrigin, caller_of}
use Rattle.graph_history.specs.Laws.{Stays}
use Rattle.graph_history.specs.Desks.{by}
use Rattle.graph_rule.proofs.CellSteps.{origin_stays}
use Rattle.graph_rule.proofs.Views.{stays_prefix}
use Rattle.graph_history.proofs.Growing.{calls_both}
use Rattle.shared_seats.specs.Seats.{calls}
use Rattle.wide_words.specs.declared.spaces.WideCode.{WideCode}
use Rattle.wide_words.specs.WideSpaces.{IsWide, number}
use Rattle.wide_words.specs.WideHistory.{WideWorldType, flat}
use Rattle.wide_rule.specs.declared.dues.WideDues.{WideDues}
use Rattle.wide_rule.specs.Layout.{is_last, cell_on, HasSeen, IsPassed, IsSearched}
use Rattle.wide_rule.specs.Rule.{WideView}
use Rattle.wide_rule.specs.Told.{advanced, Advances}
use Rattle.wide_rule.specs.Values.{WideGraphValue, WideSeatValue}
use Rattle.wide_graph.specs.declared.entries.Tried.{Tried}
use Rattle.wide_graph.specs.declared.entries.Tried.TheVariants.{Added, Met as TriedMet, Spent as TriedSpent, Passed}
use Rattle.wide_graph.specs.declared.look_ups.Sought.{Sought}
use Rattle.wide_graph.specs.declared.look_ups.Sought.TheVariants.{Found, Absent, Passed as SoughtPassed}
use Rattle.wide_graph.specs.Entries.{Ends}
use Rattle.wide_graph.specs.Search.{Looked, Passing, Probing, Tries, Seeks}

-- no step yet
pub looked_none : (v : WideView) → Looked v v
looked_none v = record {
  between = [];
  dues = v.dues;
  is = λ i. record v { front = sym (append-nil v.front) i };
  owed = refl;
  seen = λ c n has. has;
  quiet = refl;
  alone = λ all. refl;
}

-- one step
module _ (v w : WideView) (acts : List Act) (dues : WideDues) (a : Advances v w acts dues) where
  pub own_after : w.dues ≡ dues
  own_after = ap (λ (z : WideView). z.dues) a.is

  pub world_after : w.world ≡ v.world
  world_after = ap (λ (z : WideView). z.world) a.is

  pub advanced_stays : Stays (state_of v.front) (state_of w.front)
  advanced_stays = stays_prefix v.front w.front (a.between ++ by v.number acts, ap (λ (z : WideView). z.front) a.is ∙ append_assoc v.front a.between (by v.number acts))

  pub acts_are : (others : List Act) → acts ≡ others → Advances v w others dues
  acts_are others same = subst (λ (l : List Act). Advances v w l dues) same a

  -- that has no event
  pub looked_step : acts ≡ [] → dues.owed ≡ v.dues.owed → ((c n : ℕ) → HasSeen v.dues.seen c n → HasSeen dues.seen c n) → Looked v w
  looked_step none owed kept =
      let b = acts_are [] none in
      record {
        between = b.between;
        dues = dues;
        is = b.is ∙ (λ i. record v { calls = append-nil v.calls i; front = append-nil (v.front ++ b.between) i; dues = dues });
        owed = owed;
        seen = kept;
        quiet = b.quiet;
        alone = b.alone;
      }

  -- that has the one event of a call
  pub ends_step : (act : Act) (more : List ℕ) → acts ≡ act ∷ [] → dues.owed ≡ v.dues.owed ++ more → dues.pending ≡ None
      → ((c n : ℕ) → HasSeen v.dues.seen c n → HasSeen dues.seen c n) → Ends v w act more
  ends_step act more one owed idle kept = record { dues = dues; advances = acts_are (act ∷ []) one; owed = owed; idle = idle; seen = kept }

-- what is known after steps without an event
module _ (u v : WideView) (s : Looked u v) where
  number_same : v.number ≡ u.number
  number_same = ap (λ (z : WideView). z.number) s.is

  stake_same : v.stake ≡ u.stake
  stake_same = ap (λ (z : WideView). z.stake) s.is

  pub world_looked : v.world ≡ u.world
  world_looked = ap (λ (z : WideView). z.world) s.is

  own_looked : v.dues ≡ s.dues
  own_looked = ap (λ (z : WideView). z.dues) s.is

  owed_looked : v.dues.owed ≡ u.dues.owed
  owed_looked = ap (λ (o : WideDues). o.owed) own_looked ∙ s.owed

  pub looked_stays : Stays (state_of u.front) (state_of v.front)
  looked_stays = stays_prefix u.front v.front (s.between, ap (λ (z : WideView). z.front) s.is)

  pub seen_looked : (c n : ℕ) → HasSeen u.dues.seen c n → HasSeen v.dues.seen c n
  seen_looked c n has = subst (λ (o : WideDues). HasSeen o.seen c n) (sym own_looked) (s.seen c n has)

  pub passed_looked : (x : WideCode) (c : ℕ) → IsPassed u.world (state_of u.front) u.dues.seen x c → IsPassed u.world (state_of v.front) v.dues.seen x c
  passed_looked x c (inl (n, has, other)) = inl (n, seen_looked c n has, other)
  passed_looked x c (inr (y, there, other)) = inr (y, looked_stays.vertices c y there, other)

  pub searched_looked : (x : WideCode) (c : ℕ) (q : IsSearched u.world (state_of u.front) u.dues.seen x c) → (r : IsSearched v.world (state_of v.front) v.dues.seen x c) × (r.steps ≡ q.steps)
  searched_looked x c q =
      subst (λ (w : WideWorldType). (r : IsSearched w (state_of v.front) v.dues.seen x c) × (r.steps ≡ q.steps)) (sym world_looked)
      (record { steps = q.steps; short = q.short; at = q.at; before = λ k less. passed_looked x (cell_on u.world x k) (q.before k less) }, refl)

  pub origin_looked : (x : WideCode) (o : Origin) → IsOrigin (flat u.world) (state_of u.front) (number u.world.space x) o → IsOrigin (flat v.world) (state_of v.front) (number v.world.space x) o
  origin_looked x o cause =
      subst (λ (w : WideWorldType). IsOrigin (flat w) (state_of v.front) (number w.space x) o) (sym world_looked)
      (origin_stays (flat u.world) (state_of u.front) (state_of v.front) (number u.world.space x) o looked_stays cause)

  -- a further step, and further steps
  pub then_step : (w : WideView) (acts : List Act) (dues : WideDues) → Advances v w acts dues → Advances u w acts dues
  then_step w acts dues a = record {
    between = s.between ++ a.between;
    is = a.is ∙ ap (λ (z : WideView). advanced z (z.front ++ a.between) acts dues) s.is ∙ ap (λ (h : List Event). advanced u h acts dues) (append_assoc u.front s.between a.between);
    quiet = calls_both s.between a.between u.number s.quiet (subst (λ (n : ℕ). calls caller_of a.between n ≡ []) number_same a.quiet);
    alone = λ all. let before = s.alone all in let here = a.alone (stake_same ∙ all) in ap (λ (l : List Event). l ++ a.between) before ∙ here;
    known = a.known;
    complete = a.complete;
  }

  pub looked_then : (w : WideView) → Looked v w → Looked u w
  looked_then w t = record {
    between = s.between ++ t.between;
    dues = t.dues;
    is = t.is ∙ ap (λ (z : WideView). record z { front = z.front ++ t.between; dues = t.dues }) s.is ∙ ap (λ (h : List Event). record u { front = h; dues = t.dues }) (append_assoc u.front s.between t.between);
    owed = t.owed ∙ owed_looked;
    seen = λ c n has. t.seen c n (seen_looked c n has);
    quiet = calls_both s.between t.between u.number s.quiet (subst (λ (n : ℕ). calls caller_of t.between n ≡ []) number_same t.quiet);
    alone = λ all. let before = s.alone all in let here = t.alone (stake_same ∙ all) in ap (λ (l : List Event). l ++ t.between) before ∙ here;
  }

  pub ends_then : (w : WideView) (act : Act) (more : List ℕ) → Ends v w act more → Ends u w act more
  ends_then w act more e = record {
    dues = e.dues;
    advances = then_step w (act ∷ []) e.dues e.advances;
    owed = e.owed ∙ ap (λ (l : List ℕ). l ++ more) owed_looked;
    idle = e.idle;
    seen = λ c n has. e.seen c n (seen_looked c n has);
  }

  pub passing_then : (w : WideView) (x : WideCode) (c : ℕ) → Passing v w x c → Passing u w x c
  passing_then w x c p = record { looked = looked_then w p.looked; idle = p.idle; passed = p.passed }

  -- the same of an event with the number of a pair
  pub ends_at : (w : WideView) (x : WideCode) (act : ℕ → Act) (more : List ℕ) → Ends v w (act (number v.world.space x)) more → Ends u w (act (number u.world.space x)) more
  ends_at w x act more e =
      subst (λ (k : WideWorldType). Ends u w (act (number k.space x)) more) world_looked (ends_then w (act (number v.world.space x)) more e)

  pub tries_then : (w : WideView) (c : ℕ) (x : WideCode) (o : Origin) (last : Bool) (answer : Tried) → Tries v w c x o last answer → Tries u w c x o last answer
  tries_then w c x o last Added e = ends_at w x (λ (y : ℕ). AddedAct c y o) (c ∷ []) e
  tries_then w c x o last TriedMet e = ends_at w x (λ (y : ℕ). Met c y) [] e
  tries_then w c x o last TriedSpent e = ends_at w x (λ (y : ℕ). Spent y) [] e
  tries_then w c x o last Passed p = (p.0, passing_then w x c p.1)

  pub seeks_then : (w : WideView) (c : ℕ) (x : WideCode) (last : Bool) (answer : Sought) → Seeks v w c x last answer → Seeks u w c x last answer
  seeks_then w c x last Found e = ends_at w x (λ (y : ℕ). Met c y) [] e
  seeks_then w c x last Absent e = ends_at w x (λ (y : ℕ). Missed y) [] e
  seeks_then w c x last SoughtPassed p = (p.0, passing_then w x c p.1)

-- the seat may still look at the cell
pub probing_looked : (g : WideGraphValue) (s t : WideSeatValue) (x : WideCode) (c : ℕ) (last : Bool) → Probing g s x c last → t.table ≡ s.table → Looked s.view t.view → Probing g t x c last
probing_looked g s t x c last p same l = record {
  belongs = record { table = same ∙ p.belongs.table; world = world_looked s.view t.view l ∙ p.belongs.world };
  cell = p.cell;
  code = subst (λ (w : WideWorldType). IsWide w.space x) (sym (world_looked s.view t.view l)) p.code;
  searched = (searched_looked s.view t.view l x c p.searched).0;
  ends = p.ends ∙ ap (λ (w : WideWorldType). is_last w x c) (sym (world_looked s.view t.view l));
}
