-- A seat is split: both views fit into the same history.
use Rattle.std.proofs.Common.{◌≡◌, ◌≢◌, refl, sym, ap, subst, ◌∙◌, ℕ, ◌+◌, ◌<◌, ◌≤◌, ◌&&◌, ◌⊎◌, inl, inr, ⊎_elim, Bool, true, false, nat_eq, if◌then◌else◌, List, [], ◌∷◌, ◌++◌, length, set, arith}
use Rattle.std.specs.Prelude.{nat_le, nat_lt}
use Rattle.std.proofs.lemmas.Bool.Decides.{eqb_tells}
use Rattle.std.proofs.lemmas.Grind.{common_steps}
use mathlib.Core.Option.{some, some-injective}
use lib.ListN.{get_elem?}
use Rattle.atomic_table.proofs.Lists.{at_set, set_here, set_else, at_longer, at_last}
use Rattle.list_facts.proofs.Lists.{nothing_in, within, at_end}
use Rattle.shared_seats.specs.declared.view.View.{View}
use Rattle.shared_seats.specs.declared.view.Kept.{Kept}
use Rattle.shared_seats.specs.Seats.{Role, calling, keeping, spare, Agrees, IsSound, Fits, HasLive, IsSeated, cut_left, cut_right}
use Rattle.shared_seats.proofs.Stakes.{stakes-set, stakes-push}

-- who has a number once the new seat has so many from the first on
abbrev pub in_range : ℕ → ℕ → ℕ → Bool
in_range first count n = nat_le first n && nat_lt n (first + count)

abbrev pub owner_cut : (ℕ → ℕ × Role) → ℕ → ℕ → ℕ → ℕ → ℕ × Role
owner_cut owner first count new n = if in_range first count n then (new, if nat_eq n first then calling else spare) else owner n

cut_first : (owner : ℕ → ℕ × Role) (first count new : ℕ) → 1 ≤ count → owner_cut owner first count new first ≡ (new, calling)
cut_first owner first count new some_numbers = grind (arith, common_steps)

cut_others : (owner : ℕ → ℕ × Role) (first count new n : ℕ) → first < n → n < first + count → owner_cut owner first count new n ≡ (new, spare)
cut_others owner first count new n low high = grind (arith, common_steps)

cut_else : (owner : ℕ → ℕ × Role) (first count new n : ℕ) → in_range first count n ≡ false → owner_cut owner first count new n ≡ owner n
cut_else owner first count new n out = ap (λ (b : Bool). if b then (new, if nat_eq n first then calling else spare) else owner n) out

in_range_means : (first count n : ℕ) → in_range first count n ≡ true → (first ≤ n) × (n < first + count)
in_range_means first count n h = (grind (arith, common_steps), grind (arith, common_steps))

-- an owner of a spare number is none of these
abbrev Apart : ℕ × Role → ℕ × Role → Type 0
Apart p q = p ≡ q → ⊥

not_calling : spare ≡ calling → ⊥
not_calling e = cc

not_keeping : spare ≡ keeping → ⊥
not_keeping e = cc

other_role : (id : ℕ) (r : Role) → (spare ≡ r → ⊥) → Apart (id, spare) (id, r)
other_role id r other e = other (ap (λ (p : ℕ × Role). p.1) e)

other_seat : (id j : ℕ) (r : Role) → j ≢ id → Apart (id, spare) (j, r)
other_seat id j r other e = other (sym (ap (λ (p : ℕ × Role). p.0) e))

module _ {W E D : Type 0} (whole : ℕ) (by : E → ℕ) where
  -- the calls of the two views
  agrees_left : (dues : D) (count stake : ℕ) (v : View W E D) (g : List E) → count ≤ v.left → Agrees by v g → Agrees by (cut_left dues count stake v) g
  agrees_left dues count stake v g numbers a = record {
    own = record { mine = a.own.mine; kept = a.own.kept };
    none = λ n u. a.none n (let low = u.0 in omega arith, let high = u.1 in omega arith);
  }

  agrees_right : (dues : D) (count stake : ℕ) (v : View W E D) (g : List E) → 1 ≤ count → count ≤ v.left → Agrees by v g → Agrees by (cut_right dues count stake v) g
  agrees_right dues count stake v g some_numbers numbers a = record {
    own = record { mine = a.none v.next (omega arith, omega arith); kept = λ (m : Kept E) h. absurd (nothing_in m h) };
    none = λ n u. a.none n (let low = u.0 in omega arith, let high = u.1 in omega arith);
  }

  -- the two views by themselves
  pub sound_left : (dues : D) (count stake : ℕ) (v : View W E D) → IsSound whole by v → count ≤ v.left → stake < v.stake → IsSound whole by (cut_left dues count stake v)
  sound_left dues count stake v K numbers less = record {
    live = omega arith;
    staked = let most = K.staked in omega arith;
    numbered = let most = K.numbered in omega arith;
    agrees = agrees_left dues count stake v v.front numbers K.agrees;
    olds = K.olds;
  }

  pub sound_right : (dues : D) (count stake : ℕ) (v : View W E D) → IsSound whole by v → 1 ≤ count → count ≤ v.left → 1 ≤ stake → stake < v.stake → IsSound whole by (cut_right dues count stake v)
  sound_right dues count stake v K some_numbers numbers some_stake less = record {
    live = omega arith;
    staked = let most = K.staked in omega arith;
    numbered = let most = K.numbered in omega arith;
    agrees = agrees_right dues count stake v v.front some_numbers numbers K.agrees;
    olds = λ f h. absurd (nothing_in f h);
  }

  module _ (key : W) (views : List (View W E D)) (h : List E) (r : IsSeated whole by key views h) (id : ℕ) (v : View W E D) (at : get_elem? views id ≡ some v)
      (parent child : D) (count stake : ℕ) (some_numbers : 1 ≤ count) (numbers : count ≤ v.left) (some_stake : 1 ≤ stake) (less : stake < v.stake) where
    live : 0 < v.stake
    live = omega arith

    old_fits : Fits whole by key r.owner h id v
    old_fits = r.fits id v at live

    abbrev pub left : View W E D
    left = cut_left parent count stake v

    abbrev pub right : View W E D
    right = cut_right child count stake v

    abbrev pub cut_views : List (View W E D)
    cut_views = set views id left ++ right ∷ []

    abbrev pub new : ℕ
    new = length (set views id left)

    abbrev owner : ℕ → ℕ × Role
    owner = owner_cut r.owner v.next count new

    -- the places of the views
    left_at : get_elem? cut_views id ≡ some left
    left_at = at_longer (set views id left) (right ∷ []) id left (set_here views id left (within views v id at))

    right_at : get_elem? cut_views new ≡ some right
    right_at = at_last (set views id left) right new refl

    else_at : (j : ℕ) (u : View W E D) → get_elem? views j ≡ some u → j ≢ id → get_elem? cut_views j ≡ some u
    else_at j u there other = at_longer (set views id left) (right ∷ []) j u (set_else views id j left other ∙ there)

    same_view : (u : View W E D) → get_elem? views id ≡ some u → u ≡ v
    same_view u there = some-injective u v (sym there ∙ at)

    -- a number that is not among the spare ones keeps its owner
    untouched : (n : ℕ) (p : ℕ × Role) → r.owner n ≡ p → Apart (id, spare) p → owner n ≡ p
    untouched n p is other = by_test (in_range v.next count n) refl
      where
        by_test : (b : Bool) → in_range v.next count n ≡ b → owner n ≡ p
        by_test true range =
            let ends = in_range_means v.next count n range in
            absurd (other (sym (old_fits.owns_unused n (ends.0, let high = ends.1 in omega arith)) ∙ is))
        by_test false range = cut_else r.owner v.next count new n range ∙ is

    here : Fits whole by key owner h id left
    here = record {
      sound = sound_left parent count stake v old_fits.sound numbers less;
      world_is = old_fits.world_is;
      front = old_fits.front;
      agrees = agrees_left parent count stake v h numbers old_fits.agrees;
      owns = untouched v.number (id, calling) old_fits.owns (other_role id calling not_calling);
      owns_kept = λ (m : Kept E) there. untouched m.number (id, keeping) (old_fits.owns_kept m there) (other_role id keeping not_keeping);
      owns_unused = λ n u.
          cut_else r.owner v.next count new n (out n u.0) ∙ old_fits.owns_unused n (let low = u.0 in omega arith, let high = u.1 in omega arith);
    }
      where
        out : (n : ℕ) → v.next + count ≤ n → in_range v.next count n ≡ false
        out n low = grind (arith, common_steps)

    new_fits : Fits whole by key owner h new right
    new_fits = record {
      sound = sound_right child count stake v old_fits.sound some_numbers numbers some_stake less;
      world_is = old_fits.world_is;
      front = old_fits.front;
      agrees = agrees_right child count stake v h some_numbers numbers old_fits.agrees;
      owns = cut_first r.owner v.next count new some_numbers;
      owns_kept = λ (m : Kept E) there. absurd (nothing_in m there);
      owns_unused = λ n u. cut_others r.owner v.next count new n (let low = u.0 in omega arith) (let high = u.1 in omega arith);
    }

    beside : (j : ℕ) (u : View W E D) → get_elem? views j ≡ some u → j ≢ id → 0 < u.stake → Fits whole by key owner h j u
    beside j u there other alive =
        let f = r.fits j u there alive in
        record {
          sound = f.sound;
          world_is = f.world_is;
          front = f.front;
          agrees = f.agrees;
          owns = untouched u.number (j, calling) f.owns (other_seat id j calling other);
          owns_kept = λ (m : Kept E) got. untouched m.number (j, keeping) (f.owns_kept m got) (other_seat id j keeping other);
          owns_unused = λ n free. untouched n (j, spare) (f.owns_unused n free) (other_seat id j spare other);
        }

    -- who stands at a place of the new list: the left one, another, or the right one
    which : (j : ℕ) (u : View W E D) → get_elem? cut_views j ≡ some u
        → ((j ≡ id) × (left ≡ u)) ⊎ (((j ≢ id) × (get_elem? views j ≡ some u)) ⊎ ((j ≡ new) × (right ≡ u)))
    which j u there =
        elim (at_end (set views id left) right u j there) [
          | inl before ↦ ⊎_elim (λ mine. inl mine) (λ other. inr (inl other)) (at_set views id j left u before)
          | inr last ↦ inr (inr last)
        ]

    -- what holds of the two and of the other live views holds of each live view
    pub each : (P : ℕ → View W E D → Type 0) → P id left → P new right → ((j : ℕ) (u : View W E D) → get_elem? views j ≡ some u → j ≢ id → 0 < u.stake → P j u)
        → (j : ℕ) (u : View W E D) → get_elem? cut_views j ≡ some u → 0 < u.stake → P j u
    each P p q others j u there alive =
        elim (which j u there) [
          | inl mine ↦ subst (λ (k : ℕ). P k u) (sym mine.0) (subst (λ (x : View W E D). P id x) mine.1 p)
          | inr rest ↦
              elim rest [
                | inl other ↦ others j u other.1 other.0 alive
                | inr last ↦ subst (λ (k : ℕ). P k u) (sym last.0) (subst (λ (x : View W E D). P new x) last.1 q)
              ]
        ]

    -- where a live view was so, one is so yet: of the two at least one is, if the old one was
    pub still : (P : View W E D → Type 0) → (P v → P left ⊎ P right) → HasLive views P → HasLive cut_views P
    still P keep (j, u, there, alive, has) =
        elim (eqb_tells j id) [
          | inl mine ↦ one_of (keep (subst P (same_view u (subst (λ (k : ℕ). get_elem? views k ≡ some u) mine.1 there)) has))
          | inr other ↦ (j, u, else_at j u there other.1, alive, has)
        ]
      where
        one_of : P left ⊎ P right → HasLive cut_views P
        one_of (inl has_left) = (id, left, left_at, omega arith, has_left)
        one_of (inr has_right) = (new, right, right_at, omega arith, has_right)

    pub cuts : IsSeated whole by key cut_views h
    cuts = record {
      owner = owner;
      staked = let a = stakes-push (set views id left) right in let b = stakes-set views id v left at in let c = r.staked in omega arith;
      longest = still (λ (u : View W E D). u.front ≡ h) (λ is. inl is) r.longest;
      fits = each (Fits whole by key owner h) here new_fits beside;
    }
