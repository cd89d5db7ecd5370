-- The first seat of a table.
use Rattle.std.proofs.Common.{◌≡◌, refl, sym, subst, ℕ, zero, suc, ◌<◌, ◌≤◌, nat_eq, if◌then◌else◌, [], ◌∷◌, arith}
use Rattle.std.proofs.lemmas.Grind.{common_steps}
use mathlib.Core.Option.{some, some-injective, some-ne-none}
use lib.ListN.{get_elem?}
use Rattle.list_facts.proofs.Lists.{nothing_in}
use Rattle.shared_seats.specs.declared.view.View.{View}
use Rattle.shared_seats.specs.declared.view.Kept.{Kept}
use Rattle.shared_seats.specs.Seats.{Role, calling, spare, Agrees, IsSound, Fits, IsSeated, first_view}

-- who has a number at first
abbrev first_owner : ℕ → ℕ × Role
first_owner n = (0, if nat_eq n 0 then calling else spare)

spare_above : (n : ℕ) → 1 ≤ n → first_owner n ≡ (0, spare)
spare_above zero low = absurd (omega arith)
spare_above (suc n) low = grind (arith, common_steps)

module _ {W E D : Type 0} (whole : ℕ) (by : E → ℕ) (key : W) (dues : D) (some_stake : 0 < whole) where
  abbrev one : View W E D
  one = first_view whole dues key

  agrees : Agrees by one []
  agrees = record { own = record { mine = refl; kept = λ (m : Kept E) there. absurd (nothing_in m there) }; none = λ n free. refl }

  pub first_sound : IsSound whole by one
  first_sound = record { live = some_stake; staked = omega arith; numbered = omega arith; agrees = agrees; olds = λ f there. absurd (nothing_in f there) }

  -- what holds of the first view holds of each
  pub each : (P : ℕ → View W E D → Type 0) → P 0 one → (id : ℕ) (v : View W E D) → get_elem? (one ∷ []) id ≡ some v → 0 < v.stake → P id v
  each P p zero v at live = subst (P 0) (some-injective one v at) p
  each P p (suc id) v at live = absurd (some-ne-none v (sym at))

  first_fits : Fits whole by key first_owner [] 0 one
  first_fits = record {
    sound = first_sound;
    world_is = refl;
    front = ([], refl);
    agrees = agrees;
    owns = refl;
    owns_kept = λ (m : Kept E) there. absurd (nothing_in m there);
    owns_unused = λ n free. spare_above n free.0;
  }

  pub opens : IsSeated whole by key (one ∷ []) []
  opens = record { owner = first_owner; staked = omega arith; longest = (0, one, refl, some_stake, refl); fits = each (Fits whole by key first_owner []) first_fits }
