-- A list of at most n elements kept in an array of n, filled up with copies of one element.
use Rattle.std.specs.Prelude.{ℕ, ◌≡◌, ◌-◌, ◌≤◌, List, ◌++◌, length, take, drop, replicate}
use Rattle.std.proofs.Common.{sym, arith, length-take}
use Rattle.std.proofs.lemmas.List.{take-append-drop}

-- the elements of xs, and copies of `fill` up to n
abbrev pub padded : {E : Type 0} → E → ℕ → List E → List E
padded fill n xs = xs ++ replicate (n - length xs) fill

-- the first `count` of the n elements are kept, and every other is `fill`
pub record IsPadded {E : Type 0} (fill : E) (n count : ℕ) (xs : List E) : Type 0 where
  pub fits : count ≤ n
  pub whole : length xs ≡ n
  pub rest : drop count xs ≡ replicate (n - count) fill

pub length-take_padded : {E : Type 0} (fill : E) (n count : ℕ) (xs : List E) → IsPadded fill n count xs → length (take count xs) ≡ count
length-take_padded fill n count xs p = grind (arith, length-take)

pub padded-take : {E : Type 0} (fill : E) (n count : ℕ) (xs : List E) → IsPadded fill n count xs → padded fill n (take count xs) ≡ xs
padded-take fill n count xs p =
    let size : length (take count xs) ≡ count = length-take_padded fill n count xs p in
    rw size (rw (sym p.rest) (take-append-drop count xs))
