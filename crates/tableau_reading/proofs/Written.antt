-- A word that is written place by place in the order of the reading.
use Rattle.std.proofs.Common.{◌≡◌, ◌∙◌, sym, ap, ℕ, ◌+◌, ◌≤◌, ◌<◌, List, length, map, set, get_or, inl, inr, arith}
use Rattle.std.proofs.lemmas.Bool.{cases_lt}
use Rattle.std.proofs.lemmas.List.{get_or-map, get_or-set_other, ext_get_or, length-map}
use Rattle.std.proofs.lemmas.Grind.{get_or-set_at}
use Rattle.tableau_reading.specs.Readings.{Box, box}

-- the first n places of the word have what belongs to the first n boxes
pub record IsWrittenTo (f : Box → ℕ) (bs : List Box) (n : ℕ) (w : List ℕ) : Type 0 where
  pub at : (k : ℕ) → k < n → get_or w k 0 ≡ f (get_or bs k (box 0 0))

pub written_more :
    (f : Box → ℕ) (bs : List Box) (n : ℕ) (w v : List ℕ) (x : ℕ) → n < length w → x ≡ f (get_or bs n (box 0 0)) → v ≡ set w n x →
    IsWrittenTo f bs n w → IsWrittenTo f bs (n + 1) v
written_more f bs n w v x lt here is before = record {
  at = λ k below. elim (cases_lt k n) [
    | inl less ↦ ap (λ u. get_or u k 0) is ∙ (get_or-set_other w n k x 0 (λ same. omega arith) ∙ before.at k less)
    | inr over ↦
        let same : k ≡ n = omega arith in
        ap (λ u. get_or u k 0) is ∙ (get_or-set_at w n k x 0 same lt ∙ (here ∙ ap (λ i. f (get_or bs i (box 0 0))) (sym same)))
  ];
}

pub written_all : (f : Box → ℕ) (bs : List Box) (n : ℕ) (w : List ℕ) → length w ≡ length bs → length bs ≤ n → IsWrittenTo f bs n w → w ≡ map f bs
written_all f bs n w size all before =
    ext_get_or 0 w (map f bs) (size ∙ sym (length-map bs f)) (λ k lt.
    before.at k (omega arith) ∙ sym (get_or-map f bs k (box 0 0) 0 (omega arith)))
