-- The numbers of growers, at equal distances.
use Rattle.std.proofs.Common.{◌≡◌, sym, subst, ◌∙◌, ℕ, zero, suc, ◌+◌, ◌*◌, ◌<◌, inl, inr, nat_eq, false, refl, List, [], ◌∷◌, length, get_or, Contains, arith}
use Rattle.std.specs.List.{IsDistinct, AllByRecursion}
use Rattle.std.proofs.lemmas.Grind.{common_steps}
use Rattle.list_facts.proofs.Lists.{nothing_in, in_first, in_rest, in_cons}
use Rattle.graph_history.specs.Views.{Kept}
use Rattle.graph_history.specs.Views.{View}
use Rattle.graph_rule.specs.Rule.{IsUnused}
use Rattle.crystal_growers.specs.declared.grower.Start.{Start}
use Rattle.crystal_growers.specs.Gathering.{numbers, HasNumber, IsNumberOf}
use Rattle.crystal_growers.specs.Growth.{AreKept}

-- so many numbers from this one on
abbrev spaced : ℕ → ℕ → List ℕ
spaced n zero = []
spaced n (suc k) = n ∷ spaced (n + numbers) k

spaced_many : (n k : ℕ) → length (spaced n k) ≡ k
spaced_many n zero = refl
spaced_many n (suc k) = let e = spaced_many (n + numbers) k in omega arith

in_spaced : (n k m : ℕ) → Contains (spaced n k) m → (i : ℕ) × (i < k) × (m ≡ n + i * numbers)
in_spaced n zero m h = absurd (nothing_in m h)
in_spaced n (suc k) m h = elim (in_cons n (spaced (n + numbers) k) m h) [
  | inl e ↦ (0, omega arith, omega arith)
  | inr rest ↦ let r = in_spaced (n + numbers) k m rest in let below = r.1 in let is = r.2 in (suc r.0, omega arith, omega arith)
]

not_same : (n m : ℕ) → n < m → nat_eq n m ≡ false
not_same n m below = grind (arith, common_steps)

spaced_above : (n m k : ℕ) → n < m → AllByRecursion (λ y. nat_eq n y ≡ false) (spaced m k)
spaced_above n m zero below = tt
spaced_above n m (suc k) below = (not_same n m below, spaced_above n (m + numbers) k (omega arith))

spaced_once : (n k : ℕ) → IsDistinct nat_eq (spaced n k)
unfolding IsDistinct
spaced_once n zero = tt
spaced_once n (suc k) = (spaced_above n (n + numbers) k (omega arith), spaced_once (n + numbers) k)

number_at : {J : Type 0} (starts : List (Start J)) (first k : ℕ) → k < length starts → ((i : ℕ) (d : Start J) → i < length starts → (get_or starts i d).seat.view.number ≡ first + i * numbers) → IsNumberOf starts (first + k * numbers)
number_at [] first k below each = absurd (omega arith)
number_at (s ∷ starts) first zero below each = (s, in_first s starts, each 0 s (omega arith))
number_at {J} (s ∷ starts) first (suc k) below each =
    let rest : IsNumberOf starts (first + numbers + k * numbers) = number_at starts (first + numbers) k (omega arith) (λ i d under. each (suc i) d (omega arith) ∙ (let e : first + suc i * numbers ≡ first + numbers + i * numbers = omega arith in e)) in
    (rest.0, in_rest s starts rest.0 rest.1, let is = rest.2 in omega arith)

-- the numbers of growers that began at such numbers and came back
pub are_kept : {J : Type 0} (v : View) (starts : List (Start J)) (first growers : ℕ) (news : List Kept) → length starts ≡ growers → ((i : ℕ) (d : Start J) → i < length starts → (get_or starts i d).seat.view.number ≡ first + i * numbers)
    → ((n : ℕ) → IsNumberOf starts n → IsUnused v n) → ((n : ℕ) → IsNumberOf starts n → HasNumber news n) → AreKept v news growers
are_kept v starts first growers news count numbered fresh keeps = record {
  given = spaced first growers;
  many = spaced_many first growers;
  once = spaced_once first growers;
  each = λ n h.
      let r = in_spaced first growers n h in
      let mine = subst (λ (m : ℕ). IsNumberOf starts m) (sym r.2) (number_at starts first r.0 (let b = r.1 in omega arith) numbered) in
      (fresh n mine, keeps n mine);
}
