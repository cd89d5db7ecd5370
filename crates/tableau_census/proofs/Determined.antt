-- What a census comes to is determined by the shape and the limit.
use Rattle.std.proofs.Common.{arith, ◌≡◌, ap, ℕ, List, length}
use Rattle.tableau_reading.specs.Shapes.{ShapeType}
use Rattle.tableau_census.specs.Outcomes.{IsListed, IsTooLarge}
use Rattle.tableau_census.proofs.Theorem.{census_is_unique}

pub list_unique : (shape : ShapeType) (limit : ℕ) (xs ys : List ℕ) → IsListed shape limit xs → IsListed shape limit ys → xs ≡ ys
list_unique shape limit xs ys p q = census_is_unique shape xs ys p.census q.census

pub not_both : (shape : ShapeType) (limit : ℕ) (xs : List ℕ) → IsListed shape limit xs → IsTooLarge shape limit → ⊥
not_both shape limit xs p q =
    let same : xs ≡ q.codes = census_is_unique shape xs q.codes p.census q.census in
    omega (arith, p.few, q.many, ap length same)
