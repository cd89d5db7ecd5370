-- What a comparison of two pointed components answers.
use Rattle.std.specs.Prelude.{ℕ, ◌≡◌, ◌+◌, ◌<◌, ◌↔◌, nat_eq, List, [], ◌∷◌, length, Some, Contains}
use Rattle.std.specs.List.{IsDistinct}
use Rattle.std.specs.List.Sorted.{IsStrictlyIncreasing}
use Rattle.crystal_cartan.specs.declared.types.Arrow.{Arrow}
use Rattle.tensor_words.specs.Operators.{IsArrow, op}
use Rattle.tensor_words.specs.Reach.{IsPath, IsReachedFrom}
use Rattle.crystal_match.specs.declared.comparing.Verdict.{Verdict}
use Rattle.crystal_match.specs.declared.comparing.Verdict.TheVariants.{Same, Differs}
use Rattle.crystal_match.specs.Relabelling.{relabelled}
use Rattle.crystal_match.specs.Listings.{pair_eq, firsts, seconds}
use Rattle.crystal_match.specs.Telling.{PointedType, first_end, second_end, Tells, IsFirstTelling}

-- the pairs match the words reached from the first mark with those reached from the second
pub record IsMatching (m : PointedType) (pairs : List (ℕ × ℕ)) : Type 0 where
  -- the first codes are those of the words reached from the first mark, ascending, each once
  pub ascending : IsStrictlyIncreasing (firsts pairs)
  pub first : (c : ℕ) → Contains (firsts pairs) c ↔ IsReachedFrom m.space (m.first ∷ []) c
  -- their partners are those of the words reached from the second mark, each once
  pub distinct : IsDistinct nat_eq (seconds pairs)
  pub second : (c : ℕ) → Contains (seconds pairs) c ↔ IsReachedFrom m.space (m.second ∷ []) c
  -- the marks stand beside each other
  pub marks : Contains pairs (m.first, m.second)
  -- an arrow leads from one first code to another exactly where the relabelled arrow leads from partner to partner
  pub arrows :
      (a : Arrow) (x y u v : ℕ) → IsArrow m.space a → Contains pairs (x, y) → Contains pairs (u, v) →
      (op m.space a x ≡ Some u) ↔ (op m.space (relabelled m.relabel a) y ≡ Some v)

-- the components match, and no list of arrows tells the marks apart
pub record AreSame (m : PointedType) (pairs : List (ℕ × ℕ)) : Type 0 where
  pub matching : IsMatching m pairs
  pub never_apart : (path : List Arrow) → Tells m path → ⊥

abbrev pub IsVerdict : PointedType → Verdict → Type 0
IsVerdict m (Same pairs) = AreSame m pairs
IsVerdict m (Differs walk) = IsFirstTelling m walk

-- a list of arrows counts where no list that is first to tell the marks apart is as short
pub record IsCountedPath (m : PointedType) (path : List Arrow) : Type 0 where
  pub arrows : IsPath m.space path
  pub shorter : (first : List Arrow) → IsFirstTelling m first → length path < length first

-- a list that counts reaches the pair: both its walks are words, and the pair is their two ends
pub record IsCountedPair (m : PointedType) (pair : ℕ × ℕ) : Type 0 where
  pub path : List Arrow
  pub counts : IsCountedPath m path
  pub first : first_end m path ≡ Some pair.0
  pub second : second_end m path ≡ Some pair.1

-- the lists that count reach more pairs than the limit: some `limit + 1` different pairs are all reached
pub record PairsOutnumber (m : PointedType) (limit : ℕ) : Type 0 where
  pub pairs : List (ℕ × ℕ)
  pub many : length pairs ≡ limit + 1
  pub distinct : IsDistinct pair_eq pairs
  pub sound : (pair : ℕ × ℕ) → Contains pairs pair → IsCountedPair m pair
