-- The steps on cells: loads, and the exchange that puts a vertex in.
use Rattle.std.proofs.Common.{◌≡◌, ◌≢◌, refl, sym, ap, subst, ◌∙◌, ℕ, ◌+◌, ◌<◌, ◌≤◌, ◌==◌, ◌⊎◌, Bool, true, false, eqb-true, if◌then◌else◌, List, [], ◌∷◌, length, set, slice_index, None, Contains, arith}
use Rattle.std.proofs.lemmas.Bool.{eqb-false}
use Rattle.std.proofs.lemmas.List.{set-get_or}
use mathlib.Core.Option.{some, none}
use lib.ListN.{get_elem?}
use Rattle.atomic_table.specs.Table.{State as TableState, Me, Step, step, Allows, keeps}
use Rattle.tensor_words.specs.Spaces.{size}
use Rattle.tensor_words.specs.Worlds.{WorldType}
use Rattle.graph_history.specs.declared.event.Origin.{Origin}
use Rattle.graph_history.specs.declared.event.Origin.TheVariants.{Root, By}
use Rattle.graph_history.specs.declared.event.Act.{Act}
use Rattle.graph_history.specs.declared.event.Act.TheVariants.{Met, Missed, Spent}
use Rattle.graph_history.specs.declared.view.Dues.{Dues}
use Rattle.graph_history.specs.Views.{View}
use Rattle.graph_history.specs.History.{State, state_from, state_of, vertex_at, HasVertex, IsOrigin, IsWhole, LegalFrom, caller_of}
use Rattle.graph_history.specs.Laws.{Stays}
use Rattle.graph_history.specs.Desks.{by}
use Rattle.graph_history.proofs.Fitting.{vertices_fit}
use Rattle.shared_seats.specs.Seats.{Fits}
use Rattle.graph_rule.specs.Layout.{IsLaid, code_word, is_last, IsPlaced, IsSearched}
use Rattle.graph_rule.specs.Rule.{whole, IsDues, IsRunning}
use Rattle.graph_rule.specs.Told.{advanced, Advances, cell_word, probed, confirmed_acts, sought_acts, sought_empty_acts, looked, confirmed, sought, sought_empty}
use Rattle.graph_rule.proofs.Views.{stays_prefix, some_prefix, state_more}
use Rattle.graph_rule.proofs.Advance.{Elsewhere, Moves, fits_here, owes_here, open_now, advance, tells}
use Rattle.graph_rule.proofs.Paths.{word_none, word_some, word_other, searched_stays, new_at_empty, new_at_last, full_at_last}

-- where a word comes from, in a later state
pub origin_stays : (w : WorldType) (s t : State) (x : ℕ) (o : Origin) → Stays s t → IsOrigin w s x o → IsOrigin w t x o
origin_stays w s t x Root stays h = h
origin_stays w s t x (By c a) stays h = (h.0, stays.vertices c h.0 h.1, h.2, h.3)

-- what holds of the acts of a load in search, by the word that was found
pub probed_is : (P : List Act → Type 0) (word half : ℕ) (last : Bool) (empty same other : List Act)
    → (word ≡ 0 → P empty) → (word ≢ 0 → word ≡ half → P same) → (word ≢ 0 → word ≢ half → last ≡ true → P other) → P [] → P (probed word half last empty same other)
probed_is P word half last empty same other at_zero at_half at_end else_none = by_tests (word == 0) (word == half) last refl refl refl
  where
    by_tests : (a b l : Bool) → (word == 0) ≡ a → (word == half) ≡ b → last ≡ l → P (if a then empty else (if b then same else (if l then other else [])))
    by_tests true b l e f g = at_zero (eqb-true word 0 e)
    by_tests false true l e f g = at_half (eqb-false word 0 e) (eqb-true word half f)
    by_tests false false true e f g = at_end (eqb-false word 0 e) (eqb-false word half f) g
    by_tests false false false e f g = else_none

-- acts that leave the state, and their legality, by the word that was found
module _ (w : WorldType) (s : State) (n : ℕ) (c x : ℕ) where
  pub sought_still : (word : ℕ) → state_from s (by n (sought_acts w c x word)) ≡ s
  sought_still word =
      probed_is (λ acts. state_from s (by n acts) ≡ s) word (x + 1) (is_last w x c) (Missed x ∷ []) (Met c x ∷ []) (Missed x ∷ []) (λ e. refl) (λ ne e. refl) (λ ne f l. refl) refl

  pub sought_empty_still : (word : ℕ) → state_from s (by n (sought_empty_acts w c x word)) ≡ s
  sought_empty_still word =
      probed_is (λ acts. state_from s (by n acts) ≡ s) word (x + 1) (is_last w x c) [] (Met c x ∷ []) (Spent x ∷ []) (λ e. refl) (λ ne e. refl) (λ ne f l. refl) refl

  confirmed_still_by : (p : Bool) → state_from s (by n (confirmed_acts c x p)) ≡ s
  confirmed_still_by true = refl
  confirmed_still_by false = refl

  pub confirmed_still : (word : ℕ) → state_from s (by n (confirmed_acts c x (word == x + 1))) ≡ s
  confirmed_still word = confirmed_still_by (word == x + 1)

  pub confirmed_legal : (word : ℕ) → word ≡ code_word (vertex_at s.vertices c) → LegalFrom w s (by n (confirmed_acts c x (word == x + 1)))
  confirmed_legal word is = by_test (word == x + 1) refl
    where
      by_test : (b : Bool) → (word == x + 1) ≡ b → LegalFrom w s (by n (confirmed_acts c x b))
      by_test true e = (word_some (vertex_at s.vertices c) x (sym is ∙ eqb-true word (x + 1) e), tt)
      by_test false e = tt

  module _ (q : IsSearched w s c x) (placed : (d y : ℕ) → HasVertex s d y → IsPlaced w s d y) (is_word : x < size w.space) (word : ℕ) (is : word ≡ code_word (vertex_at s.vertices c)) where
    found_none : word ≡ 0 → vertex_at s.vertices c ≡ None
    found_none e = word_none (vertex_at s.vertices c) (sym is ∙ e)

    found_it : word ≡ x + 1 → HasVertex s c x
    found_it e = word_some (vertex_at s.vertices c) x (sym is ∙ e)

    found_other : word ≢ 0 → word ≢ x + 1 → (y : ℕ) × HasVertex s c y × (y ≢ x)
    found_other e f = word_other (vertex_at s.vertices c) x (λ z. e (is ∙ z)) (λ z. f (is ∙ z))

    pub sought_legal : LegalFrom w s (by n (sought_acts w c x word))
    sought_legal =
        probed_is (λ acts. LegalFrom w s (by n acts)) word (x + 1) (is_last w x c) (Missed x ∷ []) (Met c x ∷ []) (Missed x ∷ [])
        (λ e. (record { word = is_word; fresh = new_at_empty w s c x q placed (found_none e) }, tt))
        (λ ne e. (found_it e, tt))
        (λ ne f last. let other = found_other ne f in (record { word = is_word; fresh = new_at_last w s c x q placed other.0 other.1 other.2 last }, tt))
        tt

    pub sought_empty_legal : (o : Origin) → IsOrigin w s x o → length s.vertices ≤ w.cells → LegalFrom w s (by n (sought_empty_acts w c x word))
    sought_empty_legal o cause few =
        probed_is (λ acts. LegalFrom w s (by n acts)) word (x + 1) (is_last w x c) [] (Met c x ∷ []) (Spent x ∷ [])
        (λ e. tt)
        (λ ne e. (found_it e, tt))
        (λ ne f last.
        let other = found_other ne f in
        let most = full_at_last w s c x q placed (other.0, other.1) last in
        (record { fresh = new_at_last w s c x q placed other.0 other.1 other.2 last; full = omega arith; origin = o; cause = cause }, tt))
        tt

module _ {key : WorldType} {words : List ℕ} {views : List View} (r : IsRunning key words views) (id : ℕ) (v : View) (at : get_elem? views id ≡ some v) (live : 0 < v.stake) where
  abbrev S : State
  S = state_of r.history

  pub front_stays : Stays (state_of v.front) S
  front_stays = stays_prefix v.front r.history (fits_here r id v at live).front

  -- what the seat owes, in the state of the whole history
  pub dues_now : IsDues S v.dues
  dues_now =
      let d = (owes_here r id v at live).dues in
      record { owed = λ c has. some_prefix v.front r.history c (fits_here r id v at live).front (d.owed c has); among = d.among; once = d.once; pledge = d.pledge }

  -- a step that leaves words, state and dues
  pub still : (acts : List Act) (words' : List ℕ) → state_from S (by v.number acts) ≡ S → words' ≡ words → LegalFrom key S (by v.number acts) → Moves r id v at live acts v.dues words'
  still acts words' same left legal = record {
    payer = r.payer;
    legal = legal;
    dues = subst (λ (s : State). IsDues s v.dues) (sym same) dues_now;
    mine = (owes_here r id v at live).pays;
    rest = λ c there. refl;
    counted = ap (λ (s : State). s.debts + (length v.dues.unpaid + v.dues.pledge)) same;
    laid = subst (λ (s : State). IsLaid key words' s) (sym same) (subst (λ (l : List ℕ). IsLaid key l S) (sym left) r.laid);
    placed = λ c x there. subst (λ (s : State). IsPlaced key s c x) (sym same) (r.placed c x (subst (λ (s : State). HasVertex s c x) same there));
    covered = λ c x there.
        subst (λ (s : State). IsWhole key s c ⊎ (Elsewhere r id v at live c ⊎ Contains v.dues.unpaid c)) (sym same)
        (open_now r id v at live c x (subst (λ (s : State). HasVertex s c x) same there));
  }

  -- the word of a cell, by the front after such a step
  pub word_then : (acts : List Act) (d : Dues) (c : ℕ) → c < key.cells → state_from S (by v.number acts) ≡ S → slice_index words (1 + c) ≡ cell_word (advanced v r.history acts d) c
  word_then acts d c below same =
      r.laid.cells c below ∙ ap (λ (s : State). code_word (vertex_at s.vertices c)) (sym (state_more r.history v.number acts ∙ same))

-- what the table asks of a load
module _ (key : WorldType) (slots id : ℕ) (me : Me Unit View) (live : 0 < me.0.stake) (i c : ℕ) (is : i ≡ 1 + c) (below : c < me.0.world.cells) where
  -- what is told does not depend on the step's operands
  abbrev any : Step Unit
  any = step 0 0 0 0 none

  abbrev rule : TableState Unit View → Type 0
  rule s = IsRunning key s.words s.views

  left : (words : List ℕ) → set words i (slice_index words i) ≡ words
  left words = set-get_or words i 0

  module _ {words : List ℕ} {views : List View} (r : IsRunning key words views) (at : get_elem? views id ≡ some me.0) where
    abbrev fits : Fits whole caller_of key r.seated.owner r.history id me.0
    fits = fits_here r id me.0 at live

    in_table : c < key.cells
    in_table = subst (λ (w : WorldType). c < w.cells) fits.world_is below

    read : slice_index words i ≡ code_word (vertex_at (state_of r.history).vertices c)
    read = ap (slice_index words) is ∙ r.laid.cells c in_table

    read_then : (acts : List Act) (d : Dues) → state_from (state_of r.history) (by me.0.number acts) ≡ state_of r.history → slice_index words i ≡ cell_word (advanced me.0 r.history acts d) c
    read_then acts d same = ap (slice_index words) is ∙ word_then r id me.0 at live acts d c in_table same

    searched_now : (x : ℕ) → IsSearched me.0.world (state_of me.0.front) c x → IsSearched key (state_of r.history) c x
    searched_now x q = searched_stays key (state_of me.0.front) (state_of r.history) c x (front_stays r id me.0 at live) (subst (λ (w : WorldType). IsSearched w (state_of me.0.front) c x) fits.world_is q)

  -- a load of the cell that adds such acts, by the word that it finds
  loads : (acts : ℕ → List Act)
      → ((s : State) (n : ℕ) (word : ℕ) → state_from s (by n (acts word)) ≡ s)
      → ((s : TableState Unit View) (r : IsRunning key s.words s.views) (at : get_elem? s.views id ≡ some me.0) → LegalFrom key (state_of r.history) (by me.0.number (acts (slice_index s.words i))))
      → Allows rule slots id me i (λ n. n) (λ n new. (new.1 ≡ me.1) × Advances me.0 new.0 (acts n) me.0.dues × (n ≡ cell_word new.0 c))
  loads acts leaves legal s r homes at fit =
      let word = slice_index s.words i in
      let same = leaves (state_of r.history) me.0.number word in
      let m = still r id me.0 at live (acts word) (set s.words i word) same (left s.words) (legal s r at) in (
        advanced me.0 r.history (acts word) me.0.dues,
        keeps,
        tt,
        advance r id me.0 at live (acts word) me.0.dues (set s.words i word) m,
        (refl, tells r id me.0 at live (acts word) me.0.dues (set s.words i word) m, read_then r at (acts word) me.0.dues same),
      )

  pub looks : Allows rule slots id me i (λ n. n) (looked c any me)
  looks = loads (λ n. []) (λ s n word. refl) (λ s r at. tt)

  module _ (x : ℕ) where
    pub confirms : Allows rule slots id me i (λ n. n) (confirmed c x any me)
    confirms =
        loads (λ n. confirmed_acts c x (n == x + 1)) (λ s n word. confirmed_still key s n c x word)
        (λ s r at. confirmed_legal key (state_of r.history) me.0.number c x _ (read r at))

  module _ (x : ℕ) (q : IsSearched me.0.world (state_of me.0.front) c x) (is_word : x < size me.0.world.space) where
    pub seeks : Allows rule slots id me i (λ n. n) (sought c x any me)
    seeks =
        loads (λ n. sought_acts me.0.world c x n) (λ s n word. sought_still me.0.world s n c x word)
        (λ s r at.
        let w = (fits r at).world_is in
        subst (λ (u : WorldType). LegalFrom key (state_of r.history) (by me.0.number (sought_acts u c x (slice_index s.words i)))) (sym w)
        (sought_legal key (state_of r.history) me.0.number c x (searched_now r at x q) r.placed (subst (λ (u : WorldType). x < size u.space) w is_word) (slice_index s.words i) (read r at)))

    module _ (o : Origin) (cause : IsOrigin me.0.world (state_of me.0.front) x o) where
      pub seeks_empty : Allows rule slots id me i (λ n. n) (sought_empty c x any me)
      seeks_empty =
          loads (λ n. sought_empty_acts me.0.world c x n) (λ s n word. sought_empty_still me.0.world s n c x word)
          (λ s r at.
          let w = (fits r at).world_is in
          let cause_now = origin_stays key (state_of me.0.front) (state_of r.history) x o (front_stays r id me.0 at live) (subst (λ (u : WorldType). IsOrigin u (state_of me.0.front) x o) w cause) in
          subst (λ (u : WorldType). LegalFrom key (state_of r.history) (by me.0.number (sought_empty_acts u c x (slice_index s.words i)))) (sym w)
          (sought_empty_legal key (state_of r.history) me.0.number c x (searched_now r at x q) r.placed (subst (λ (u : WorldType). x < size u.space) w is_word) (slice_index s.words i) (read r at) o cause_now (vertices_fit key r.history r.legal)))
