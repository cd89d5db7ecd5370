-- Stakes, added up over a list of views.
use Rattle.std.proofs.Common.{◌≡◌, ◌≢◌, refl, sym, ap, ℕ, zero, suc, ◌+◌, ◌<◌, ◌≤◌, Bool, true, false, nat_eq, List, [], ◌∷◌, ◌++◌, set, eqb-true, arith}
use Rattle.std.proofs.lemmas.Grind.{common_steps}
use mathlib.Core.Option.{some, some-injective, some-ne-none}
use lib.ListN.{get_elem?}
use Rattle.shared_seats.specs.declared.view.View.{View}
use Rattle.shared_seats.specs.Seats.{stakes}

module _ {W E D : Type 0} where
  pub stakes-set : (views : List (View W E D)) (id : ℕ) (v w : View W E D) → get_elem? views id ≡ some v → stakes (set views id w) + v.stake ≡ stakes views + w.stake
  stakes-set [] id v w at = absurd (some-ne-none v (sym at))
  stakes-set (u ∷ us) zero v w at = let e : u.stake ≡ v.stake = ap (λ (x : View W E D). x.stake) (some-injective u v at) in omega arith
  stakes-set (u ∷ us) (suc id) v w at = let rest = stakes-set us id v w at in omega arith

  pub stakes-at : (views : List (View W E D)) (id : ℕ) (v : View W E D) → get_elem? views id ≡ some v → v.stake ≤ stakes views
  stakes-at [] id v at = absurd (some-ne-none v (sym at))
  stakes-at (u ∷ us) zero v at = let e : u.stake ≡ v.stake = ap (λ (x : View W E D). x.stake) (some-injective u v at) in omega arith
  stakes-at (u ∷ us) (suc id) v at = let rest = stakes-at us id v at in omega arith

  pub stakes-push : (views : List (View W E D)) (w : View W E D) → stakes (views ++ w ∷ []) ≡ stakes views + w.stake
  stakes-push [] w = omega arith
  stakes-push (u ∷ us) w = let rest = stakes-push us w in omega arith

  pub stakes-two : (views : List (View W E D)) (i j : ℕ) (v w : View W E D) → get_elem? views i ≡ some v → get_elem? views j ≡ some w → j ≢ i → v.stake + w.stake ≤ stakes views
  stakes-two [] i j v w p q n = absurd (some-ne-none v (sym p))
  stakes-two (u ∷ us) zero zero v w p q n = absurd (n refl)
  stakes-two (u ∷ us) zero (suc j) v w p q n = let e : u.stake ≡ v.stake = ap (λ (x : View W E D). x.stake) (some-injective u v p) in let rest = stakes-at us j w q in omega arith
  stakes-two (u ∷ us) (suc i) zero v w p q n = let e : u.stake ≡ w.stake = ap (λ (x : View W E D). x.stake) (some-injective u w q) in let rest = stakes-at us i v p in omega arith
  stakes-two (u ∷ us) (suc i) (suc j) v w p q n = let rest = stakes-two us i j v w p q (λ e. n (ap suc e)) in omega arith

  -- beside a view that has all stakes no other is live
  pub lone : (views : List (View W E D)) (i j : ℕ) (v w : View W E D) → get_elem? views i ≡ some v → get_elem? views j ≡ some w → v.stake ≡ stakes views → 0 < w.stake → j ≡ i
  lone views i j v w p q all live = by_test (nat_eq j i) refl
    where
      by_test : (b : Bool) → nat_eq j i ≡ b → j ≡ i
      by_test true is = eqb-true j i is
      by_test false is = let other : j ≢ i = λ e. grind (arith, common_steps) in let two = stakes-two views i j v w p q other in absurd (omega arith)
