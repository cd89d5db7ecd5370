-- Lists of codes and of arrows that are kept along with a history.
use Rattle.std.proofs.Common.{◌≡◌, ◌≢◌, refl, sym, ap, subst, ◌∙◌, ℕ, zero, suc, ◌+◌, ◌-◌, ◌*◌, ◌<◌, ◌≤◌, ◌==◌, ◌&&◌, ◌⊎◌, inl, inr, Bool, true, false, nat_eq, if◌then◌else◌, List, [], ◌∷◌, ◌++◌, length, get_or, replicate, slice_get, slice_index, slice_set, position, Option, Some, None, Contains, length-append, true≢false, arith}
use Rattle.std.specs.List.{list_any}
use Rattle.std.proofs.Math.Nat.{add-mul}
use Rattle.std.proofs.lemmas.Grind.{common_steps}
use Rattle.std.proofs.lemmas.List.{get_or-set_same, get_or-set_other, get_or-replicate, get_or_append_left, get_or-append-add, length-replicate, length-set}
use Rattle.std.proofs.lemmas.List.Quantifiers.{position-Some}
use Rattle.std.proofs.lemmas.Option.{slice_get_past, slice_get_within, slice_get-get_or}
use Rattle.crystal_cartan.specs.declared.types.Arrow.{Arrow}
use Rattle.tensor_words.specs.Spaces.{size}
use Rattle.tensor_words.specs.Operators.{IsArrow}
use Rattle.tensor_words.specs.Worlds.{WorldType, IsWorld}
use Rattle.indexmap.specs.IndexSet.{insert_key}
use Rattle.graph_history.specs.declared.event.Origin.{Origin}
use Rattle.graph_history.specs.declared.event.Act.{Act}
use Rattle.graph_history.specs.declared.event.Act.TheVariants.{Added, Met, Missed, Spent, Drew, Saw, Blank, Owed, Settled, Tally}
use Rattle.graph_history.specs.declared.event.Event.{Event}
use Rattle.graph_history.specs.History.{State, state_of, after, vertex_at, target_at, same_arrow, HasVertex, IsNew, IsOrigin, IsWhole, MayAdd, MayDraw, MaySettle, IsLegalAct, IsLegal}
use Rattle.signature_rule.specs.ArrowOrder.{arrow_place}
use Rattle.graph_history.specs.ArrowRows.{edge_place, edge_word}
use Rattle.graph_history.specs.Plain.{unpaid_of, KeepsState, IsDesk, IsQuiet}
use Rattle.graph_history.specs.Desks.{unpaid_then, without}
use Rattle.graph_history.proofs.Histories.{legal_push, legal_empty, state_push, vertex_at-new, vertex_at-other, target_at-new, target_at-other, same_edge, own_edge}
use Rattle.graph_history.proofs.SoundStates.{sound}
use Rattle.graph_history.proofs.Counting.{debts_cover}
use Rattle.graph_history.proofs.ArrowPlaces.{place_fits, same_place, edge_fits}
use Rattle.graph_history.proofs.Owing.{unpaid_push, origin_debts, owing_none, owing_added, owing_drew, owing_settled, owing_spare, owing_few}

-- the row of a vertex from which no arrow is drawn
abbrev blank_row : WorldType → List ℕ
blank_row w = replicate (2 * w.space.cartan.rank) 0

-- a list with one more element
get_pushed : (xs : List ℕ) (y : ℕ) → slice_get (xs ++ y ∷ []) (length xs) ≡ Some y
get_pushed [] y = refl
get_pushed (x ∷ xs) y = get_pushed xs y

get_other : (xs : List ℕ) (y k : ℕ) → k ≢ length xs → slice_get (xs ++ y ∷ []) k ≡ slice_get xs k
get_other [] y zero e = absurd (e refl)
get_other [] y (suc k) e = refl
get_other (x ∷ xs) y zero e = refl
get_other (x ∷ xs) y (suc k) e = get_other xs y k (λ h. e (ap suc h))

-- looking up a code
pub any_place : (xs : List ℕ) (x : ℕ) → list_any (nat_eq x) xs ≡ true → (k : ℕ) × (slice_get xs k ≡ Some x)
any_place [] x h = cc
any_place (y ∷ xs) x h =
    let split : (y ≡ x) ⊎ (list_any (nat_eq x) xs ≡ true) = grind (arith, common_steps) in
    elim split [
      | inl same ↦ (zero, ap (λ (z : ℕ). Some z) same)
      | inr rest ↦ let found = any_place xs x rest in (suc found.0, found.1)
    ]

pub place_any : (xs : List ℕ) (x k : ℕ) → slice_get xs k ≡ Some x → list_any (nat_eq x) xs ≡ true
place_any [] x k h = cc
place_any (y ∷ xs) x zero h = let same : y ≡ x = cc in grind (arith, common_steps)
place_any (y ∷ xs) x (suc k) h = let rest = place_any xs x k h in grind (arith, common_steps)

module _ (w : WorldType) (codes edges : List ℕ) (s : State) (K : KeepsState w codes edges s) where
  pub kept_vertex : (c x : ℕ) → slice_get codes c ≡ Some x → HasVertex s c x
  kept_vertex c x at = K.vertices c ∙ at

  pub kept_new : (x : ℕ) → list_any (nat_eq x) codes ≡ false → IsNew s x
  kept_new x none c there =
      let e : true ≡ false = sym (place_any codes x c (sym (K.vertices c) ∙ there)) ∙ none in true≢false e

  pub kept_found : (x k : ℕ) → position (nat_eq x) codes ≡ Some k → HasVertex s k x
  kept_found x k is =
      let at = position-Some (nat_eq x) codes k 0 is in
      let same : get_or codes k 0 ≡ x = let e = at.1 in grind (arith, common_steps) in
      kept_vertex k x (slice_get-get_or codes k 0 at.0 ∙ ap (λ (z : ℕ). Some z) same)

  pub kept_absent : (x : ℕ) → IsNew s x → list_any (nat_eq x) codes ≡ false
  kept_absent x fresh = by (list_any (nat_eq x) codes) refl
    where
      by : (b : Bool) → list_any (nat_eq x) codes ≡ b → b ≡ false
      by false is = refl
      by true is = let found = any_place codes x is in absurd (fresh found.0 (kept_vertex found.0 x found.1))

  pub kept_added : (x : ℕ) (o : Origin) → length codes < w.cells → ((a : Arrow) → target_at s.drawn (length codes) a ≡ None)
      → KeepsState w (codes ++ x ∷ []) (edges ++ blank_row w) (after s (Added (length codes) x o))
  kept_added x o room bare = record {
    count = length-append s.vertices (record { cell = length codes; code = x } ∷ []) ∙ ap (λ n. n + 1) K.count ∙ sym (length-append codes (x ∷ []));
    fits = omega (arith, long);
    vertices = λ c. by c (nat_eq (length codes) c) refl;
    places = length-append edges (blank_row w) ∙ more ∙ ap (λ n. n * (2 * w.space.cartan.rank)) (sym long);
    drawn = λ c a below is. row c a (old_or_new c below) is;
  }
    where
      long : length (codes ++ x ∷ []) ≡ length codes + 1
      long = length-append codes (x ∷ [])

      more : length edges + length (blank_row w) ≡ (length codes + 1) * (2 * w.space.cartan.rank)
      more =
          let wide : length (blank_row w) ≡ 2 * w.space.cartan.rank = length-replicate (2 * w.space.cartan.rank) 0 in
          omega (arith, K.places, add-mul (length codes) 1 (2 * w.space.cartan.rank))

      old_or_new : (c : ℕ) → c < length (codes ++ x ∷ []) → (c < length codes) ⊎ (length codes ≡ c)
      old_or_new c below = grind (arith, long)

      row : (c : ℕ) (a : Arrow) → (c < length codes) ⊎ (length codes ≡ c) → IsArrow w.space a
          → slice_index (edges ++ blank_row w) (edge_place w.space.cartan.rank c a) ≡ edge_word (target_at s.drawn c a)
      row c a (inl below) is =
          get_or_append_left edges (blank_row w) 0 (edge_place w.space.cartan.rank c a)
          (subst (λ (n : ℕ). edge_place w.space.cartan.rank c a < n) (sym K.places) (edge_fits w (length codes) c a below is))
          ∙ K.drawn c a below is
      row c a (inr same) is =
          let rank = w.space.cartan.rank in
          let place : edge_place rank c a ≡ length edges + arrow_place rank a =
          ap (λ n. n * (2 * rank) + arrow_place rank a) (sym same) ∙ ap (λ n. n + arrow_place rank a) (sym K.places) in
          ap (λ n. slice_index (edges ++ blank_row w) n) place
          ∙ get_or-append-add edges (blank_row w) (arrow_place rank a) 0
          ∙ get_or-replicate (2 * rank) (arrow_place rank a) 0 0 (place_fits rank a is.index.low is.index.high)
          ∙ sym (ap edge_word (subst (λ (n : ℕ). target_at s.drawn n a ≡ None) same (bare a)))

      by : (c : ℕ) (b : Bool) → nat_eq (length codes) c ≡ b → vertex_at (s.vertices ++ record { cell = length codes; code = x } ∷ []) c ≡ slice_get (codes ++ x ∷ []) c
      by c true is =
          let same : length codes ≡ c = grind (arith, common_steps) in
          let free : vertex_at s.vertices (length codes) ≡ None = K.vertices (length codes) ∙ slice_get_past codes (length codes) (omega arith) in
          subst (λ (d : ℕ). vertex_at (s.vertices ++ record { cell = length codes; code = x } ∷ []) d ≡ slice_get (codes ++ x ∷ []) d) same
          (vertex_at-new s.vertices (record { cell = length codes; code = x }) free ∙ sym (get_pushed codes x))
      by c false is =
          let other : c ≢ length codes = λ e. grind (arith, common_steps) in
          vertex_at-other s.vertices (record { cell = length codes; code = x }) c is ∙ K.vertices c ∙ sym (get_other codes x c other)

  pub kept_drew : (c : ℕ) (a : Arrow) (t : Option ℕ) → c < length codes → IsArrow w.space a → target_at s.drawn c a ≡ None
      → KeepsState w codes (slice_set edges (edge_place w.space.cartan.rank c a) (edge_word (Some t))) (after s (Drew c a t))
  kept_drew c a t below is undrawn = record {
    count = K.count;
    fits = K.fits;
    vertices = K.vertices;
    places = length-set edges (edge_place w.space.cartan.rank c a) (edge_word (Some t)) ∙ K.places;
    drawn = λ d b cell arrow. by d b cell arrow ((c == d) && same_arrow a b) refl;
  }
    where
      by : (d : ℕ) (b : Arrow) → d < length codes → IsArrow w.space b → (here : Bool) → ((c == d) && same_arrow a b) ≡ here
          → slice_index (slice_set edges (edge_place w.space.cartan.rank c a) (edge_word (Some t))) (edge_place w.space.cartan.rank d b)
          ≡ edge_word (target_at (s.drawn ++ record { cell = c; arrow = a; to = t } ∷ []) d b)
      by d b cell arrow true here =
          let edge = same_edge c d a b here in
          let fits : edge_place w.space.cartan.rank c a < length edges = subst (λ (n : ℕ). edge_place w.space.cartan.rank c a < n) (sym K.places) (edge_fits w (length codes) c a below is) in
          let free : target_at s.drawn d b ≡ None = subst (λ (n : ℕ). target_at s.drawn n b ≡ None) edge.0 (subst (λ (z : Arrow). target_at s.drawn c z ≡ None) edge.1 undrawn) in
          let place : edge_place w.space.cartan.rank d b ≡ edge_place w.space.cartan.rank c a =
          subst (λ (n : ℕ). edge_place w.space.cartan.rank n b ≡ edge_place w.space.cartan.rank c a) edge.0
          (subst (λ (z : Arrow). edge_place w.space.cartan.rank c z ≡ edge_place w.space.cartan.rank c a) edge.1 refl) in
          rw place (get_or-set_same edges (edge_place w.space.cartan.rank c a) (edge_word (Some t)) 0 fits)
          ∙ sym (ap edge_word (target_at-new s.drawn (record { cell = c; arrow = a; to = t }) d b here free))
      by d b cell arrow false here =
          let other : edge_place w.space.cartan.rank d b ≢ edge_place w.space.cartan.rank c a =
          λ e. let edge = same_place w d c b a arrow is e in true≢false (sym (own_edge c d a b (sym edge.0) (sym edge.1)) ∙ here) in
          get_or-set_other edges (edge_place w.space.cartan.rank c a) (edge_place w.space.cartan.rank d b) (edge_word (Some t)) 0 other
          ∙ K.drawn d b cell arrow ∙ sym (ap edge_word (target_at-other s.drawn (record { cell = c; arrow = a; to = t }) d b here))

-- nothing of it speaks of debts
kept_debts : (w : WorldType) (codes edges : List ℕ) (s : State) (n : ℕ) → KeepsState w codes edges s → KeepsState w codes edges (record s { debts = n })
kept_debts w codes edges s n K = record { count = K.count; fits = K.fits; vertices = K.vertices; places = K.places; drawn = K.drawn }

-- an act that changes nothing
quiet_after : (s : State) (act : Act) → IsQuiet act → after s act ≡ s
quiet_after s (Added c x o) quiet = absurd quiet
quiet_after s (Met c x) quiet = refl
quiet_after s (Missed x) quiet = refl
quiet_after s (Spent x) quiet = refl
quiet_after s (Drew c a t) quiet = absurd quiet
quiet_after s (Saw c a t) quiet = refl
quiet_after s (Blank c a) quiet = refl
quiet_after s Owed quiet = absurd quiet
quiet_after s (Settled paid) quiet = absurd quiet
quiet_after s (Tally n) quiet = refl

quiet_unpaid : (cells : List ℕ) (act : Act) → IsQuiet act → unpaid_then cells act ≡ cells
quiet_unpaid cells (Added c x o) quiet = absurd quiet
quiet_unpaid cells (Met c x) quiet = refl
quiet_unpaid cells (Missed x) quiet = refl
quiet_unpaid cells (Spent x) quiet = refl
quiet_unpaid cells (Drew c a t) quiet = absurd quiet
quiet_unpaid cells (Saw c a t) quiet = refl
quiet_unpaid cells (Blank c a) quiet = refl
quiet_unpaid cells Owed quiet = absurd quiet
quiet_unpaid cells (Settled paid) quiet = absurd quiet
quiet_unpaid cells (Tally n) quiet = refl

module _ (w : WorldType) (codes : List ℕ) (spare : ℕ) (edges : List ℕ) (capacity debts : ℕ) (h : List Event) (D : IsDesk w codes spare edges capacity debts h) where
  pub desk_note : (n : ℕ) (act : Act) (g : List Event) → g ≡ h ++ record { caller = n; act = act } ∷ [] → IsLegalAct w (state_of h) act → IsQuiet act → IsDesk w codes spare edges capacity debts g
  desk_note n act g is may quiet =
      let e : Event = record { caller = n; act = act } in
      let same : state_of g ≡ state_of h = rw is (state_push h e ∙ quiet_after (state_of h) act quiet) in
      let unpaid : unpaid_of g ≡ unpaid_of h = rw is (unpaid_push h e ∙ quiet_unpaid (unpaid_of h) act quiet) in
      record {
        world = D.world;
        legal = rw is (legal_push w h e D.legal may);
        kept = subst (KeepsState w codes edges) (sym same) D.kept;
        debts = ap (λ (s : State). s.debts) same ∙ D.debts;
        owing = rw (same, unpaid) D.owing;
        memory = D.memory;
        rows = D.rows;
      }

  -- no arrow is drawn from the cell of the next code
  next_bare : (a : Arrow) → target_at (state_of h).drawn (length codes) a ≡ None
  next_bare a = by (target_at (state_of h).drawn (length codes) a) refl
    where
      by : (o : Option (Option ℕ)) → target_at (state_of h).drawn (length codes) a ≡ o → o ≡ None
      by None is = refl
      by (Some t) is =
          let found = (sound w h D.legal).simple.targets (length codes) a t is in
          let free = slice_get_past codes (length codes) (omega arith) in
          let none : None ≡ Some found.0 = sym free ∙ sym (D.kept.vertices (length codes)) ∙ found.1 in cc

  pub desk_put : (n x : ℕ) (o : Origin) (more : List ℕ) (left : ℕ) (extended : List ℕ) (reserved owed : ℕ) (f g : List Event)
      → f ≡ h ++ record { caller = n; act = Owed } ∷ [] → g ≡ f ++ record { caller = n; act = Added (length codes) x o } ∷ []
      → more ≡ insert_key nat_eq codes x → spare ≤ left + 1 → extended ≡ edges ++ blank_row w → capacity ≤ reserved → owed ≡ debts + 1
      → x < size w.space → IsNew (state_of h) x → length (state_of h).vertices ≢ w.cells → IsOrigin w (state_of h) x o → IsDesk w more left extended reserved owed g
  desk_put n x o more left extended reserved owed f g owes is longer used appended enough one_more word fresh free origin =
      let count = D.kept.count in let fits = D.kept.fits in
      let room : length codes < w.cells = below count fits free in
      let S = sound w h D.legal in
      let s : State = record (state_of h) { debts = (state_of h).debts + 1 } in
      let cover = debts_cover w h D.legal in
      let may : MayAdd w s (length codes) x o = record {
        word = word;
        fresh = fresh;
        cell = room;
        free = D.kept.vertices (length codes) ∙ slice_get_past codes (length codes) (omega arith);
        origin = origin_debts w (state_of h) ((state_of h).debts + 1) x o origin;
        owed = omega arith;
      } in
      let pushed : more ≡ codes ++ x ∷ [] = longer ∙ ap (λ (b : Bool). if b then codes else codes ++ x ∷ []) (kept_absent w codes edges (state_of h) D.kept x fresh) in
      let first : state_of f ≡ s = rw owes (state_push h (record { caller = n; act = Owed })) in
      let same : state_of g ≡ after s (Added (length codes) x o) =
      rw is (state_push f (record { caller = n; act = Added (length codes) x o }) ∙ ap (λ (t : State). after t (Added (length codes) x o)) first) in
      let unpaid : unpaid_of g ≡ unpaid_of h ++ length codes ∷ [] =
      rw is (unpaid_push f (record { caller = n; act = Added (length codes) x o }) ∙ ap (λ (l : List ℕ). l ++ length codes ∷ []) (rw owes (unpaid_push h (record { caller = n; act = Owed })))) in
      let lawful : IsLegal w f = rw owes (legal_push w h (record { caller = n; act = Owed }) D.legal tt) in
      record {
        world = D.world;
        legal = rw is (legal_push w f (record { caller = n; act = Added (length codes) x o }) lawful (subst (λ (t : State). MayAdd w t (length codes) x o) (sym first) may));
        kept = rw (same, pushed, appended) (kept_added w codes edges s (kept_debts w codes edges (state_of h) ((state_of h).debts + 1) D.kept) x o room next_bare);
        debts = ap (λ (t : State). t.debts) same ∙ ap (λ k. k + 1) D.debts ∙ sym one_more;
        owing = rw (same, unpaid) (owing_added w (state_of h) (unpaid_of h) (length codes) x o D.owing (D.kept.vertices (length codes) ∙ slice_get_past codes (length codes) (omega arith)));
        rows = omega (arith, D.rows);
        memory = let memory = D.memory in let long : length more ≡ length codes + 1 = ap length pushed ∙ length-append codes (x ∷ []) in omega arith;
      }
    where
      below : {a b c : ℕ} → a ≡ b → b ≤ c → (a ≡ c → ⊥) → b < c
      below e le ne = omega arith

  pub desk_mark : (n c : ℕ) (a : Arrow) (t : Option ℕ) (i word : ℕ) (g : List Event) → g ≡ h ++ record { caller = n; act = Drew c a t } ∷ []
      → i ≡ edge_place w.space.cartan.rank c a → word ≡ edge_word (Some t) → MayDraw w (state_of h) c a t → IsDesk w codes spare (slice_set edges i word) capacity debts g
  desk_mark n c a t i word g is place told may =
      let same : state_of g ≡ after (state_of h) (Drew c a t) = rw is (state_push h (record { caller = n; act = Drew c a t })) in
      let unpaid : unpaid_of g ≡ unpaid_of h = rw is (unpaid_push h (record { caller = n; act = Drew c a t })) in
      let below : c < length codes = slice_get_within codes c may.code (sym (D.kept.vertices c) ∙ may.there) in
      record {
        world = D.world;
        legal = rw is (legal_push w h (record { caller = n; act = Drew c a t }) D.legal may);
        kept = rw (same, place, told) (kept_drew w codes edges (state_of h) D.kept c a t below may.arrow may.undrawn);
        debts = ap (λ (s : State). s.debts) same ∙ D.debts;
        owing = rw (same, unpaid) (owing_drew w (state_of h) (unpaid_of h) c a t D.owing);
        memory = D.memory;
        rows = D.rows;
      }

  -- a cell is paid for
  pub desk_settle : (n c left : ℕ) (g : List Event) → g ≡ h ++ record { caller = n; act = Settled (Some c) } ∷ [] → left + 1 ≡ debts
      → Contains (unpaid_of h) c → IsWhole w (state_of h) c → IsDesk w codes spare edges capacity left g
  desk_settle n c left g is fewer unpaid whole =
      let e : Event = record { caller = n; act = Settled (Some c) } in
      let may : MaySettle w (state_of h) (Some c) = record {
        spare = owing_spare w (state_of h) (unpaid_of h) c (sound w h D.legal) D.owing unpaid whole;
        payable = (D.owing.there c unpaid, whole);
      } in
      let same : state_of g ≡ record (state_of h) { debts = (state_of h).debts - 1 } = rw is (state_push h e) in
      let cells : unpaid_of g ≡ without c (unpaid_of h) = rw is (unpaid_push h e) in
      record {
        world = D.world;
        legal = rw is (legal_push w h e D.legal may);
        kept = subst (KeepsState w codes edges) (sym same) (kept_debts w codes edges (state_of h) ((state_of h).debts - 1) D.kept);
        debts = let all = D.debts in ap (λ (s : State). s.debts) same ∙ omega arith;
        owing = rw (same, cells) (owing_settled w (state_of h) (unpaid_of h) c D.owing unpaid whole);
        memory = D.memory;
        rows = D.rows;
      }

  -- the number of debts
  pub debts_some : (c : ℕ) → Contains (unpaid_of h) c → 1 ≤ debts
  debts_some c (k, below, is) = let all = D.debts in let each = D.owing.counted in omega arith

  pub debts_few : debts ≤ w.cells
  debts_few = let few = owing_few w (state_of h) (unpaid_of h) (sound w h D.legal) D.owing in let all = D.debts in omega arith

-- the desk at first
pub desk_first : (w : WorldType) (codes : List ℕ) (spare : ℕ) (edges : List ℕ) (capacity debts : ℕ) (h : List Event) → IsWorld w → codes ≡ [] → h ≡ [] → w.cells ≤ spare
    → edges ≡ [] → w.cells * (2 * w.space.cartan.rank) ≤ capacity → debts ≡ 0 → IsDesk w codes spare edges capacity debts h
desk_first w codes spare edges capacity debts h world none start room bare rows nothing = rw (none, start, bare, nothing) (record {
  world = world;
  legal = legal_empty w;
  kept = record {
    count = refl;
    fits = omega arith;
    vertices = λ c. refl;
    places = omega arith;
    drawn = λ c a cell arrow. absurd (omega arith);
  };
  debts = refl;
  owing = owing_none w;
  memory = omega arith;
  rows = rows;
})
