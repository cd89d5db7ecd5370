-- Reports line by line.
use Rattle.std.proofs.Common.{◌≡◌, ◌∙◌, sym, refl, ap, ℕ, zero, suc, ◌+◌, ◌<◌, List, [], ◌∷◌, ◌++◌, length, get_or, take, drop, Result, Err, append_assoc, append-nil, add-zero, arith}
use Rattle.std.specs.List.{flat_map, range_with_len}
use Rattle.std.proofs.lemmas.List.{take-append-le, take_all, take-append-drop, take_more}
use Rattle.std.proofs.lemmas.List.Concat.{flat_map-append}
use Rattle.crystal_characters.specs.Reports.{Appends}

-- a report that stopped behind its first part
pub stopped : {T E : Type 0} (text before behind old new : List ℕ) (r : Result T E) (e : E) → r ≡ Err e → text ≡ before ++ behind → new ≡ old ++ before
    → Appends text old new r
stopped text before behind old new r e failed is at =
    let cut : take (length before) text ≡ before =
    ap (take (length before)) is ∙ take-append-le (length before) before behind (omega arith) ∙ take_all (length before) before (omega arith) in
    record {
      whole = rw failed tt;
      part = length before;
      front = at ∙ ap (λ t. old ++ t) (sym cut);
    }

-- a list of lines, of which the first n are written
module _ {X : Type 0} (line : X → List ℕ) where
  pub lines_split : (xs : List X) (n : ℕ) → flat_map line xs ≡ flat_map line (take n xs) ++ flat_map line (drop n xs)
  lines_split xs n = ap (flat_map line) (sym (take-append-drop n xs)) ∙ flat_map-append line (take n xs) (drop n xs)

  pub lines_more : (xs : List X) (n : ℕ) (x : X) (old out new : List ℕ) → n < length xs → x ≡ get_or xs n x → out ≡ old ++ flat_map line (take n xs)
      → new ≡ out ++ line x → new ≡ old ++ flat_map line (take (n + 1) xs)
  lines_more xs n x old out new lt is so_far added =
      let front : take (n + 1) xs ≡ take n xs ++ x ∷ [] = take_more xs n x lt ∙ ap (λ y. take n xs ++ y ∷ []) (sym is) in
      let joined : flat_map line (take (n + 1) xs) ≡ flat_map line (take n xs) ++ line x =
      ap (flat_map line) front ∙ flat_map-append line (take n xs) (x ∷ []) ∙ ap (λ t. flat_map line (take n xs) ++ t) (append-nil (line x)) in
      added ∙ ap (λ t. t ++ line x) so_far ∙ append_assoc old (flat_map line (take n xs)) (line x) ∙ ap (λ t. old ++ t) (sym joined)

-- lines by index
pub indices_split : (line : ℕ → List ℕ) (a n m t : ℕ) → t ≡ n + m
    → flat_map line (range_with_len a t) ≡ flat_map line (range_with_len a n) ++ flat_map line (range_with_len (a + n) m)
indices_split line a zero m t is =
    let same : t ≡ m = omega arith in
    rw (same, add-zero) refl
indices_split line a (suc n) m t is =
    let more : t ≡ suc (n + m) = omega arith in
    let shift : a + 1 + n ≡ a + suc n = omega arith in
    let rest = indices_split line (a + 1) n m (n + m) refl in
    rw more (ap (λ u. line a ++ u) (rw shift at rest) ∙ sym (append_assoc (line a) (flat_map line (range_with_len (a + 1) n)) (flat_map line (range_with_len (a + suc n) m))))

pub indices_more : (line : ℕ → List ℕ) (a n j : ℕ) (old out new : List ℕ) → a + n ≡ j → out ≡ old ++ flat_map line (range_with_len a n)
    → new ≡ out ++ line j → new ≡ old ++ flat_map line (range_with_len a (n + 1))
indices_more line a n j old out new at so_far added =
    let last : flat_map line (range_with_len (a + n) 1) ≡ line j = append-nil (line (a + n)) ∙ ap line at in
    let joined : flat_map line (range_with_len a (n + 1)) ≡ flat_map line (range_with_len a n) ++ line j =
    indices_split line a n 1 (n + 1) refl ∙ ap (λ t. flat_map line (range_with_len a n) ++ t) last in
    added ∙ ap (λ t. t ++ line j) so_far ∙ append_assoc old (flat_map line (range_with_len a n)) (line j) ∙ ap (λ t. old ++ t) (sym joined)
