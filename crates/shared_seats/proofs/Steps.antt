-- One seat takes a step: it takes in what others did, and its own events come at the end of the history.
use Rattle.std.proofs.Common.{◌≡◌, ◌≢◌, refl, sym, ap, subst, ◌∙◌, ℕ, ◌<◌, ◌⊎◌, inl, inr, List, [], ◌++◌, set, arith}
use mathlib.Core.Option.{some, some-injective}
use lib.ListN.{get_elem?}
use Rattle.std.proofs.lemmas.Bool.Decides.{eqb_tells}
use Rattle.atomic_table.proofs.Lists.{at_set, set_else}
use Rattle.list_facts.proofs.Lists.{at_here}
use Rattle.shared_seats.specs.declared.view.View.{View}
use Rattle.shared_seats.specs.declared.view.Kept.{Kept}
use Rattle.shared_seats.specs.Seats.{calls, Role, calling, keeping, spare, Agrees, IsSound, Fits, stakes, HasLive, IsSeated, went}
use Rattle.shared_seats.proofs.Fronts.{prefix_self, prefix_more, prefix_on, no_more, calls_own, calls_left, calls_quiet}
use Rattle.shared_seats.proofs.Stakes.{stakes-set, lone}

-- numbers that are had in two ways, or by two seats, are two
pub apart_roles : (owner : ℕ → ℕ × Role) (n m i j : ℕ) (p q : Role) → owner n ≡ (i, p) → owner m ≡ (j, q) → p ≢ q → n ≢ m
apart_roles owner n m i j p q a b other = λ e. other (ap (λ (o : ℕ × Role). o.1) (sym a ∙ ap owner e ∙ b))

pub apart_seats : (owner : ℕ → ℕ × Role) (n m i j : ℕ) (p q : Role) → owner n ≡ (i, p) → owner m ≡ (j, q) → j ≢ i → n ≢ m
apart_seats owner n m i j p q a b other = λ e. other (sym (ap (λ (o : ℕ × Role). o.0) (sym a ∙ ap owner e ∙ b)))

pub kept_is_other : calling ≢ keeping
kept_is_other = λ e. cc

pub spare_is_other : calling ≢ spare
spare_is_other = λ e. cc

-- some live view is so: the seat's own, or one at another place
abbrev pub Elsewhere : {W E D : Type 0} → List (View W E D) → ℕ → (View W E D → Type 0) → Type 0
Elsewhere {W} {E} {D} views id P = (j : ℕ) × (u : View W E D) × (j ≢ id) × (get_elem? views j ≡ some u) × (0 < u.stake) × P u

module _ {W E D : Type 0} (views : List (View W E D)) (id : ℕ) (v : View W E D) (at : get_elem? views id ≡ some v) (P : View W E D → Type 0) where
  pub here_or_elsewhere : HasLive views P → Elsewhere views id P ⊎ P v
  here_or_elsewhere (j, u, there, alive, has) =
      elim (eqb_tells j id) [
        | inl mine ↦ inr (subst P (some-injective u v (sym there ∙ ap (λ (k : ℕ). get_elem? views k) mine.1 ∙ at)) has)
        | inr other ↦ inl (j, u, other.1, there, alive, has)
      ]

  -- so it is once the seat's view is another
  pub live_then : (w : View W E D) → 0 < w.stake → Elsewhere views id P ⊎ P w → HasLive (set views id w) P
  live_then w live (inl (j, u, ne, there, alive, has)) = (j, u, set_else views id j w ne ∙ there, alive, has)
  live_then w live (inr has) = (id, w, at_here views id v w at, live, has)

module _ {W E D : Type 0} (whole : ℕ) (by : E → ℕ) (key : W) (views : List (View W E D)) (h : List E) (r : IsSeated whole by key views h)
    (id : ℕ) (v : View W E D) (at : get_elem? views id ≡ some v) where
  -- with the whole stake nobody else is there, and the front is the history
  all_stakes : v.stake ≡ whole → v.stake ≡ stakes views
  all_stakes all = all ∙ sym r.staked

  only : v.stake ≡ whole → (j : ℕ) (u : View W E D) → get_elem? views j ≡ some u → 0 < u.stake → u ≡ v
  only all j u there alive =
      let same = lone views id j v u at there (all_stakes all) alive in
      some-injective u v (sym there ∙ ap (λ (k : ℕ). get_elem? views k) same ∙ at)

  -- what some live view is, it is itself
  pub is_own : v.stake ≡ whole → (P : View W E D → Type 0) → HasLive views P → P v
  is_own all P h = subst P (only all h.0 h.1 h.2 h.3) h.4

  whole_front : v.stake ≡ whole → h ≡ v.front
  whole_front all = sym (is_own all (λ (u : View W E D). u.front ≡ h) r.longest)

  module _ (live : 0 < v.stake) where
    pub fits_here : Fits whole by key r.owner h id v
    fits_here = r.fits id v at live

    -- what others did since the seat's last step
    abbrev pub unseen : List E
    unseen = fits_here.front.0

    pub unseen_is : v.front ++ unseen ≡ h
    unseen_is = sym fits_here.front.1

    pub silent : calls by unseen v.number ≡ []
    silent = let f = fits_here in calls_quiet by v.front f.front.0 h v.number v.calls f.front.1 f.sound.agrees.own.mine f.agrees.own.mine

    pub nobody_else : v.stake ≡ whole → unseen ≡ []
    nobody_else all = no_more v.front unseen (unseen_is ∙ whole_front all)

    pub alone : v.stake ≡ whole → (j : ℕ) (u : View W E D) → get_elem? views j ≡ some u → 0 < u.stake → u ≡ v
    alone all j u there alive = only all j u there alive

    pub all_seen : v.stake ≡ whole → h ≡ v.front
    all_seen all = whole_front all

    -- own events: they are of the seat's number, and of no other
    module _ (es : List E) (dues : D) (mine : calls by es v.number ≡ es) (none : (m : ℕ) → v.number ≢ m → calls by es m ≡ []) where
      abbrev next : View W E D
      next = went v h es dues

      agrees_then : Agrees by next (h ++ es)
      agrees_then =
          let f = fits_here in
          record {
            own = record {
              mine = calls_own by h es v.number v.calls mine f.agrees.own.mine;
              kept = λ (k : Kept E) there.
                  calls_left by h es k.number k.calls
                  (none k.number (apart_roles r.owner v.number k.number id id calling keeping f.owns (f.owns_kept k there) kept_is_other))
                  (f.agrees.own.kept k there);
            };
            none = λ n unused.
                calls_left by h es n [] (none n (apart_roles r.owner v.number n id id calling spare f.owns (f.owns_unused n unused) spare_is_other))
                (f.agrees.none n unused);
          }

      sound_then : IsSound whole by next
      sound_then =
          let f = fits_here in
          record {
            live = live;
            staked = f.sound.staked;
            numbered = f.sound.numbered;
            agrees = agrees_then;
            olds = λ old there. prefix_on old h (h ++ es) (prefix_on old v.front h (f.sound.olds old there) f.front) (prefix_more h es);
          }

      here : Fits whole by key r.owner (h ++ es) id next
      here =
          let f = fits_here in
          record {
            sound = sound_then;
            world_is = f.world_is;
            front = prefix_self (h ++ es);
            agrees = agrees_then;
            owns = f.owns;
            owns_kept = f.owns_kept;
            owns_unused = f.owns_unused;
          }

      beside : (j : ℕ) (u : View W E D) → j ≢ id → Fits whole by key r.owner h j u → Fits whole by key r.owner (h ++ es) j u
      beside j u ne f =
          let is_other = λ (k : ℕ) (p : Role) (q : r.owner k ≡ (j, p)). none k (apart_seats r.owner v.number k id j calling p fits_here.owns q ne) in
          record {
            sound = f.sound;
            world_is = f.world_is;
            front = prefix_on u.front h (h ++ es) f.front (prefix_more h es);
            agrees = record {
              own = record {
                mine = calls_left by h es u.number u.calls (is_other u.number calling f.owns) f.agrees.own.mine;
                kept = λ (k : Kept E) there. calls_left by h es k.number k.calls (is_other k.number keeping (f.owns_kept k there)) (f.agrees.own.kept k there);
              };
              none = λ n unused. calls_left by h es n [] (is_other n spare (f.owns_unused n unused)) (f.agrees.none n unused);
            };
            owns = f.owns;
            owns_kept = f.owns_kept;
            owns_unused = f.owns_unused;
          }

      -- what holds of the seat and of the other live views holds of each live view
      pub each : (P : ℕ → View W E D → Type 0) → P id next → ((j : ℕ) (u : View W E D) → get_elem? views j ≡ some u → j ≢ id → 0 < u.stake → P j u)
          → (j : ℕ) (u : View W E D) → get_elem? (set views id next) j ≡ some u → 0 < u.stake → P j u
      each P p others j u there alive =
          elim (at_set views id j next u there) [
            | inl same ↦ subst (λ (x : View W E D). P j x) same.1 (subst (λ (k : ℕ). P k next) (sym same.0) p)
            | inr other ↦ others j u other.1 other.0 alive
          ]

      pub steps : IsSeated whole by key (set views id next) (h ++ es)
      steps = record {
        owner = r.owner;
        staked = let sums = stakes-set views id v next at in omega (arith, r.staked);
        longest = (id, next, at_here views id v next at, live, refl);
        fits = each (Fits whole by key r.owner (h ++ es)) here (λ j u there ne alive. beside j u ne (r.fits j u there alive));
      }
