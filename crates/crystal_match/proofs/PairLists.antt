-- Lists of pairs of codes.
use Rattle.std.proofs.Common.{◌≡◌, refl, sym, ap, ◌∙◌, ℕ, ◌<◌, true, ◌==◌, eqb-true, List, length, map, get_or, Contains, arith}
use Rattle.std.specs.Cmp.{IsEquivalence}
use Rattle.std.proofs.lemmas.Bool.{and_parts}
use Rattle.std.proofs.lemmas.Cmp.{nat_eq_equiv, on_equiv, and_equiv}
use Rattle.std.proofs.lemmas.List.{get_or_default, get_or-map, length-map}
use Rattle.std.proofs.lemmas.List.Elements.{Contains-get_or}
use Rattle.crystal_match.specs.Listings.{pair_at, pair_eq}

pub pair_equiv : IsEquivalence pair_eq
pair_equiv = and_equiv (on_equiv (λ (t : ℕ × ℕ). t.0) nat_eq_equiv) (on_equiv (λ (t : ℕ × ℕ). t.1) nat_eq_equiv)

pub same_pair : (x y : ℕ × ℕ) → x.0 ≡ y.0 → x.1 ≡ y.1 → x ≡ y
same_pair (a, b) (c, d) first second = rw (first, second) refl

pub pair_exact : (x y : ℕ × ℕ) → pair_eq x y ≡ true → x ≡ y
pair_exact x y is =
    let both = and_parts (x.0 == y.0) (x.1 == y.1) is in
    same_pair x y (eqb-true x.0 y.0 both.0) (eqb-true x.1 y.1 both.1)

-- a place of a pair
pub pair_place : (found : List (ℕ × ℕ)) (p : ℕ × ℕ) → Contains found p → (j : ℕ) × (j < length found) × (pair_at found j ≡ p)
pair_place found p (j, within, is) = (j, within, get_or_default found j (0, 0) p within ∙ is)

-- members of a list of first or second codes
pub in_map : (f : ℕ × ℕ → ℕ) (xs : List (ℕ × ℕ)) (p : ℕ × ℕ) → Contains xs p → Contains (map f xs) (f p)
in_map f xs p (k, low, is) = (k, omega (arith, low, length-map xs f), get_or-map f xs k p (f p) low ∙ ap f is)

pub from_map : (f : ℕ × ℕ → ℕ) (xs : List (ℕ × ℕ)) (c : ℕ) → Contains (map f xs) c → (p : ℕ × ℕ) × Contains xs p × (f p ≡ c)
from_map f xs c (k, low, is) =
    let within : k < length xs = omega (arith, low, length-map xs f) in
    (get_or xs k (0, 0), Contains-get_or xs k (0, 0) within, sym (get_or-map f xs k (0, 0) c within) ∙ is)
