-- Events of a growth in fronts that go on.
use Rattle.std.proofs.Common.{◌≡◌, refl, sym, ap, subst, ◌∙◌, ℕ, ◌==◌, eq-eqb, cond, Bool, true, false, true≢false, inl, inr, List, [], ◌∷◌, ◌++◌, map, filter, All, Contains, append-nil, append_assoc}
use Rattle.std.specs.List.{AllByRecursion}
use Rattle.std.proofs.lemmas.List.{append_cancel_left}
use Rattle.std.proofs.lemmas.List.Elements.{recursion_from_All}
use Rattle.list_facts.proofs.Lists.{nothing_in, in_first, in_rest, in_cons}
use Rattle.tensor_words.specs.Worlds.{WorldType}
use Rattle.graph_history.specs.declared.event.Origin.{Origin}
use Rattle.graph_history.specs.declared.event.Act.{Act}
use Rattle.graph_history.specs.declared.event.Act.TheVariants.{Added, Spent}
use Rattle.graph_history.specs.declared.event.Event.{Event}
use Rattle.graph_history.specs.Views.{Kept}
use Rattle.graph_history.specs.History.{State, empty_state, after, state_from, state_of, HasVertex, HasSome, calls, caller_of}
use Rattle.graph_history.specs.Desks.{by, Grows, added_cells}
use Rattle.graph_history.proofs.Histories.{state_from-append, stays_after}
use Rattle.graph_history.proofs.OwnActs.{added_new}
use Rattle.graph_rule.specs.Rule.{IsPrefix}
use Rattle.shared_seats.proofs.Fronts.{calls_quiet, prefix_on}
use Rattle.graph_history.proofs.Growing.{calls-append}
use Rattle.crystal_growers.specs.Expansion.{IsGrowthAct}
use Rattle.crystal_growers.specs.GrowthEvents.{IsGrowing, GrowsFrom, Grew}
use Rattle.crystal_growers.specs.Gathering.{CameBack}

-- the cells that acts put in
pub in_added : (acts : List Act) (c : ℕ) → Contains (added_cells acts) c → (xs : List Act) × (x : ℕ) × (o : Origin) × (ys : List Act) × (acts ≡ xs ++ Added c x o ∷ ys)
in_added [] c h = absurd (nothing_in c h)
in_added (Added d x o ∷ acts) c h =
    elim (in_cons d (added_cells acts) c h) [
      | inl e ↦ ([], x, o, acts, λ i. Added (e i) x o ∷ acts)
      | inr rest ↦ let r = in_added acts c rest in (Added d x o ∷ r.0, r.1, r.2, r.3, ap (λ (l : List Act). Added d x o ∷ l) r.4)
    ]
in_added (a ∷ acts) c h = let r = in_added acts c h in (a ∷ r.0, r.1, r.2, r.3, ap (λ (l : List Act). a ∷ l) r.4)

pub never_added : (w : WorldType) (n : ℕ) (old new : List Event) (acts : List Act) (c : ℕ) → Grows w n old new acts → Contains (added_cells acts) c → HasSome (state_of old) c → ⊥
never_added w n old new acts c g h there =
    let at = in_added acts c h in
    added_new w n old new at.0 c at.1 at.2 at.3 (subst (λ (l : List Act). Grows w n old new l) at.4 g) there

-- the acts are known by the events
act_of : Event → Act
act_of e = e.act

acts_of : (n : ℕ) (acts : List Act) → map act_of (by n acts) ≡ acts
unfolding act_of
acts_of n [] = refl
acts_of n (a ∷ acts) = ap (λ (l : List Act). a ∷ l) (acts_of n acts)

pub acts_same : (n : ℕ) (f h more rest : List Event) (xs ys : List Act) → h ≡ f ++ more → calls more n ≡ by n xs → h ≡ f ++ rest → calls rest n ≡ by n ys → xs ≡ ys
acts_same n f h more rest xs ys p q r s =
    let same : more ≡ rest = append_cancel_left f more rest (sym p ∙ r) in
    let events : by n xs ≡ by n ys = sym q ∙ ap (λ (l : List Event). calls l n) same ∙ s in
    sym (acts_of n xs) ∙ ap (λ (l : List Event). map act_of l) events ∙ acts_of n ys

-- growth from a state on
pub grows_append : (w : WorldType) (n : ℕ) (s : State) (xs ys : List Event) → GrowsFrom w n s xs → GrowsFrom w n (state_from s xs) ys → GrowsFrom w n s (xs ++ ys)
grows_append w n s [] ys p q = q
grows_append w n s (e ∷ xs) ys p q = (p.0, grows_append w n (after s e.act) xs ys p.1 q)

not_mine : (m n : ℕ) → (m == n) ≡ false → m ≡ n → ⊥
not_mine m n other same = true≢false (sym (eq-eqb m n same) ∙ other)

pub grows_quiet : (w : WorldType) (n : ℕ) (s : State) (xs : List Event) → calls xs n ≡ [] → GrowsFrom w n s xs
grows_quiet w n s [] quiet = tt
grows_quiet w n s (e ∷ xs) quiet = by_caller (e.caller == n) refl quiet (grows_quiet w n (after s e.act) xs)
  where
    by_caller : (b : Bool) → (e.caller == n) ≡ b → cond b (e ∷ calls xs n) (calls xs n) ≡ [] → (calls xs n ≡ [] → GrowsFrom w n (after s e.act) xs) → GrowsFrom w n s (e ∷ xs)
    by_caller true is none later = cc
    by_caller false is none later = (λ same. absurd (not_mine e.caller n is same), later none)

growing : (w : WorldType) (s : State) (c y : ℕ) (a : Act) → HasVertex s c y → IsGrowthAct w.space c y a → IsGrowing w s a
growing w s c y (Added d x o) there g = (c, g.0, g.1)
growing w s c y (Spent x) there g = (c, g.0, (y, there, g.1, g.2))
growing w s c y a there g = tt

grows_by : (w : WorldType) (n c y : ℕ) (s : State) (acts : List Act) (more : List Event) → HasVertex s c y → calls more n ≡ by n acts → AllByRecursion (IsGrowthAct w.space c y) acts → GrowsFrom w n s more
grows_by w n c y s acts [] there own all = tt
grows_by w n c y s acts (e ∷ es) there own all =
    by_caller (e.caller == n) refl acts own all (λ zs o g. grows_by w n c y (after s e.act) zs es ((stays_after s e.act).vertices c y there) o g)
  where
    by_caller : (b : Bool) → (e.caller == n) ≡ b → (zs : List Act) → cond b (e ∷ calls es n) (calls es n) ≡ by n zs → AllByRecursion (IsGrowthAct w.space c y) zs
        → ((us : List Act) → calls es n ≡ by n us → AllByRecursion (IsGrowthAct w.space c y) us → GrowsFrom w n (after s e.act) es) → GrowsFrom w n s (e ∷ es)
    by_caller false is zs o g later = (λ same. absurd (not_mine e.caller n is same), later zs o g)
    by_caller true is [] o g later = cc
    by_caller true is (z ∷ zs) o g later =
        let same : e ≡ record { caller = n; act = z } = cc in
        (λ _. subst (λ (q : Event). IsGrowing w s q.act) (sym same) (growing w s c y z there g.0), later zs (cc) g.1)

-- fronts that go on
pub grew_none : (w : WorldType) (n : ℕ) (h : List Event) → Grew w n h h
grew_none w n h = record { more = []; is = sym (append-nil h); growth = tt }

pub grew_then : (w : WorldType) (n : ℕ) (old mid new : List Event) → Grew w n old mid → Grew w n mid new → Grew w n old new
grew_then w n old mid new p q =
    let at : state_of mid ≡ state_from (state_of old) p.more = ap state_of p.is ∙ state_from-append empty_state old p.more in
    record {
      more = p.more ++ q.more;
      is = q.is ∙ ap (λ (l : List Event). l ++ q.more) p.is ∙ append_assoc old p.more q.more;
      growth = grows_append w n (state_of old) p.more q.more p.growth (subst (λ (s : State). GrowsFrom w n s q.more) at q.growth);
    }

pub grew_by : (w : WorldType) (n c y : ℕ) (old new : List Event) (acts : List Act) → Grows w n old new acts → HasVertex (state_of old) c y → All (IsGrowthAct w.space c y) acts → Grew w n old new
grew_by w n c y old new acts g there all = record {
  more = g.more;
  is = g.is;
  growth = grows_by w n c y (state_of old) acts g.more there g.own (recursion_from_All (IsGrowthAct w.space c y) acts all);
}

grew_quiet : (w : WorldType) (n : ℕ) (old new more : List Event) → new ≡ old ++ more → calls more n ≡ [] → Grew w n old new
grew_quiet w n old new more is quiet = record { more = more; is = is; growth = grows_quiet w n (state_of old) more quiet }

-- all that a number did in a growth, seen from its beginning and from its end
none_after : (l m : List Event) → l ++ m ≡ [] → m ≡ []
none_after [] m h = h
none_after (x ∷ l) m h = cc

none_first : (l m : List Event) → l ++ m ≡ [] → l ≡ []
none_first [] m h = refl
none_first (x ∷ l) m h = cc

-- where a number has no calls it had none before
pub none_before : (f h : List Event) (n : ℕ) → IsPrefix f h → calls h n ≡ [] → calls f n ≡ []
none_before f h n p none = none_first (calls f n) (calls p.0 n) (sym (calls-append f p.0 n) ∙ ap (λ (l : List Event). calls l n) (sym p.1) ∙ none)

pub grew_before : (w : WorldType) (n : ℕ) (old first h : List Event) → IsPrefix old first → calls first n ≡ [] → Grew w n first h → Grew w n old h
grew_before w n old first h p none g =
    let quiet : calls p.0 n ≡ [] = none_after (calls old n) (calls p.0 n) (sym (calls-append old p.0 n) ∙ ap (λ (l : List Event). calls l n) (sym p.1) ∙ none) in
    grew_then w n old first h (grew_quiet w n old first p.0 p.1 quiet) g

pub came_grew : (w : WorldType) (first now : List Event) (m : Kept) → CameBack w first now m → calls now m.number ≡ m.calls → Grew w m.number first now
came_grew w first now m r all =
    let later : calls r.ends.0 m.number ≡ [] = calls_quiet caller_of r.back r.ends.0 now m.number m.calls r.ends.1 r.all all in
    grew_then w m.number first r.back now r.grew (grew_quiet w m.number r.back now r.ends.0 r.ends.1 later)

pub same_calls : (w : WorldType) (n : ℕ) (old new more : List Event) → new ≡ old ++ more → calls old n ≡ calls new n → Grew w n old new
same_calls w n old new more is same = grew_quiet w n old new more is (calls_quiet caller_of old more new n (calls new n) is same refl)

pub came_on : (w : WorldType) (first now later : List Event) (m : Kept) → IsPrefix now later → CameBack w first now m → CameBack w first later m
came_on w first now later m on r = record {
  none = r.none;
  back = r.back;
  grew = r.grew;
  all = r.all;
  ends = prefix_on r.back now later r.ends on;
}

pub came_before : (w : WorldType) (old first now : List Event) (m : Kept) → IsPrefix old first → CameBack w first now m → CameBack w old now m
came_before w old first now m before r = record {
  none = none_before old first m.number before r.none;
  back = r.back;
  grew = grew_before w m.number old first r.back before r.none r.grew;
  all = r.all;
  ends = r.ends;
}

-- a number under which nobody called
pub came_quiet : (w : WorldType) (first h now : List Event) (m : Kept) → IsPrefix first h → IsPrefix h now → calls h m.number ≡ m.calls → m.calls ≡ [] → CameBack w first now m
came_quiet w first h now m p q all quiet = record {
  none = none_before first h m.number p (all ∙ quiet);
  back = first;
  grew = grew_none w m.number first;
  all = none_before first h m.number p (all ∙ quiet) ∙ sym quiet;
  ends = prefix_on first h now p q;
}

-- what part of a list has, the list has
pub filter_in : {X : Type 0} (test : X → Bool) (xs : List X) (x : X) → Contains (filter test xs) x → Contains xs x
filter_in test [] x h = h
filter_in {X} test (y ∷ xs) x h = by (test y) h (filter_in test xs x)
  where
    by : (b : Bool) → Contains (cond b (y ∷ filter test xs) (filter test xs)) x → (Contains (filter test xs) x → Contains xs x) → Contains (y ∷ xs) x
    by true here later = elim (in_cons y (filter test xs) x here) [ inl e ↦ subst (λ (z : X). Contains (y ∷ xs) z) e (in_first y xs) | inr rest ↦ in_rest y xs x (later rest) ]
    by false here later = in_rest y xs x (later here)
