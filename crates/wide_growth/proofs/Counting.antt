-- Counts of arrows.
use Rattle.std.proofs.Common.{◌≡◌, refl, sym, ap, ap₂, subst, ◌∙◌, ℕ, zero, suc, ◌+◌, ◌*◌, ◌<◌, ◌≤◌, Bool, true, false, cond, is_some, List, [], ◌∷◌, ◌++◌, length, count_by, sum_by, take, get_or, arith}
use Rattle.std.specs.List.{range_with_len}
use Rattle.std.proofs.lemmas.List.Sums.{sum_by_push, count_by-le-length}
use Rattle.std.proofs.lemmas.List.FromFn.{length-range_with_len}
use Rattle.tensor_words.specs.Operators.{op}
use Rattle.tensor_words.specs.Spaces.{SpaceType}
use Rattle.wide_words.specs.WideSpaces.{WideSpaceType, whole, number}
use Rattle.wide_words.specs.WideCounts.{arrows_at}
use Rattle.wide_growth.specs.declared.drawing.OpenVertex.{OpenVertex}
use Rattle.wide_growth.specs.Drawing.{arrows_of}

-- one number more in a row
range_more : (a n : ℕ) → range_with_len a (n + 1) ≡ range_with_len a n ++ (a + n) ∷ []
range_more a zero = ap (λ (k : ℕ). k ∷ []) (omega arith)
range_more a (suc n) =
    let one : suc n + 1 ≡ suc (n + 1) = omega arith in
    let at : a + 1 + n ≡ a + suc n = omega arith in
    ap (range_with_len a) one ∙ ap (λ (l : List ℕ). a ∷ l) (range_more (a + 1) n) ∙ ap (λ (k : ℕ). a ∷ (range_with_len (a + 1) n ++ k ∷ [])) at

-- whether the lowering operator of an index gives a word
abbrev pub lowers : SpaceType → ℕ → ℕ → Bool
lowers s x i = is_some (op s (record { down = true; index = i }) x)

-- the lowering operators of the first indices that give a word
abbrev pub arrows_below : SpaceType → ℕ → ℕ → ℕ
arrows_below s x n = count_by (lowers s x) (range_with_len 1 n)

pub arrows_more : (s : SpaceType) (x n : ℕ) (leads : Bool) → leads ≡ lowers s x (n + 1) → arrows_below s x (n + 1) ≡ arrows_below s x n + cond leads 1 0
arrows_more s x n leads is =
    let at : 1 + n ≡ n + 1 = omega arith in
    ap (count_by (lowers s x)) (range_more 1 n) ∙ sum_by_push (λ (i : ℕ). cond (lowers s x i) 1 0) (range_with_len 1 n) (1 + n)
    ∙ ap (λ (i : ℕ). arrows_below s x n + cond (lowers s x i) 1 0) at ∙ ap (λ (b : Bool). arrows_below s x n + cond b 1 0) (sym is)

pub arrows_few : (s : SpaceType) (x n : ℕ) → arrows_below s x n ≤ n
arrows_few s x n = let c = count_by-le-length (lowers s x) (range_with_len 1 n) in let l = length-range_with_len 1 n in omega arith

pub arrows_of_few : (s : WideSpaceType) (v : OpenVertex) → arrows_of s v ≤ s.high.cartan.rank
arrows_of_few s v = arrows_few (whole s) (number s v.code) s.high.cartan.rank
