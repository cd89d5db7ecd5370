-- The tables of arrows.
use Rattle.std.proofs.Common.{◌≡◌, ◌∙◌, refl, ap, subst, ℕ, ◌+◌, ◌-◌, ◌*◌, ◌<◌, ◌≤◌, inl, inr, Bool, true, false, if◌then◌else◌, List, [], ◌∷◌, ◌++◌, length, map, get_or, Option, None, Some, is_some, append_assoc, arith}
use Rattle.std.specs.List.{range_with_len, sum_by, count_by}
use Rattle.std.proofs.lemmas.Bool.{cases_lt}
use Rattle.std.proofs.lemmas.List.{map-id, get_or_append_left, get_or-append_right, length-append}
use Rattle.std.proofs.lemmas.List.FromFn.{length-map-range_with_len, get_or-map-range_with_len, map-range_with_len_more, sum_by-map-range_with_len_more}
use Rattle.list_facts.proofs.Numbers.{in_row}
use Rattle.crystal_cartan.specs.Types.{HasIndex}
use Rattle.crystal_cartan.specs.declared.types.Arrow.{Arrow}
use Rattle.std.specs.Option.{option_and_then, option_map}
use Rattle.tensor_words.specs.Spaces.{SpaceType}
use Rattle.tensor_words.specs.Codes.{code_of, word_of}
use Rattle.tensor_words.specs.Operators.{IsArrow, acted, op}
use Rattle.canonical_graph.specs.Graphs.{FinishedType, IsFinished, code_at, rank_in, target_rank, lowering, arrows_from}
use Rattle.canonical_graph.specs.Tables.{entry_of, entry_at, arrow_to, rank_row, HasRows, AreLowered, KeepsTables}
use Rattle.canonical_graph.proofs.Ranks.{target_below}

pub no_rows : {X : Type 0} (d : X) (at : ℕ → ℕ → X) (r : ℕ) → HasRows d at r 0 []
no_rows d at r = record { size = omega arith; rows = λ k i below low high. absurd (omega arith) }

pub more_rows : {X : Type 0} (d : X) (at : ℕ → ℕ → X) (r n : ℕ) (xs new : List X) → HasRows d at r n xs → new ≡ xs ++ map (at n) (range_with_len 1 r)
    → HasRows d at r (n + 1) new
more_rows d at r n xs new t is = rw is (record { size = size; rows = rows })
  where
    size : length (xs ++ map (at n) (range_with_len 1 r)) ≡ (n + 1) * r
    size = omega (arith, t.size, length-append xs (map (at n) (range_with_len 1 r)), length-map-range_with_len (at n) 1 r)

    last : (i : ℕ) → 1 ≤ i → i ≤ r → get_or (xs ++ map (at n) (range_with_len 1 r)) (n * r + (i - 1)) d ≡ at n i
    last i low high =
        let shift : n * r + (i - 1) - n * r ≡ i - 1 = omega arith in
        let moved = get_or-append_right xs (map (at n) (range_with_len 1 r)) (n * r) (n * r + (i - 1)) d t.size (omega arith) in
        let here = get_or-map-range_with_len (at n) 1 r (i - 1) i d (omega arith) (omega arith) in
        rw shift at moved ∙ here

    rows : (k i : ℕ) → k < n + 1 → 1 ≤ i → i ≤ r → get_or (xs ++ map (at n) (range_with_len 1 r)) (k * r + (i - 1)) d ≡ at k i
    rows k i below low high = elim (cases_lt k n) [
      | inl before ↦
          let within : k * r + (i - 1) < length xs = omega (arith, t.size, in_row k n r (i - 1) before (omega arith)) in
          get_or_append_left xs (map (at n) (range_with_len 1 r)) d (k * r + (i - 1)) within ∙ t.rows k i before low high
      | inr after ↦ let same : k ≡ n = omega arith in rw same (last i low high)
    ]

pub same_rows : {X : Type 0} (d : X) (at bt : ℕ → ℕ → X) (r n : ℕ) (xs : List X) → ((k i : ℕ) → k < n → at k i ≡ bt k i) → HasRows d at r n xs → HasRows d bt r n xs
same_rows d at bt r n xs same t = record { size = t.size; rows = λ k i below low high. t.rows k i below low high ∙ same k i below }

-- one more entry
pub more_entries : {X : Type 0} (at : ℕ → X) (n j : ℕ) (old xs new : List X) → 1 + n ≡ j → xs ≡ old ++ map at (range_with_len 1 n)
    → new ≡ xs ++ at j ∷ [] → new ≡ old ++ map at (range_with_len 1 (n + 1))
more_entries at n j old xs new index before is =
    let more = map-range_with_len_more at 1 n j index in
    rw (is, before, more) (simp append_assoc)

sum_more : (g : ℕ → ℕ) (a n j : ℕ) → a + n ≡ j → sum_by g (range_with_len a (n + 1)) ≡ sum_by g (range_with_len a n) + g j
sum_more g a n j index =
    let more = sum_by-map-range_with_len_more g (λ x. x) a n j index in
    rw (map-id (range_with_len a (n + 1)), map-id (range_with_len a n)) at more

pub more_counted : (p : ℕ → Bool) (n j : ℕ) → 1 + n ≡ j → count_by p (range_with_len 1 (n + 1)) ≡ count_by p (range_with_len 1 n) + (if p j then 1 else 0)
more_counted p n j index = sum_more (λ i. if p i then 1 else 0) 1 n j index

pub more_arrows : (f : FinishedType) (n : ℕ) → sum_by (arrows_from f) (range_with_len 0 (n + 1)) ≡ sum_by (arrows_from f) (range_with_len 0 n) + arrows_from f n
more_arrows f n = sum_more (arrows_from f) 0 n n (omega arith)

pub none_lowered : (f : FinishedType) (xs : List ℕ) (arrows : ℕ) → xs ≡ [] → arrows ≡ 0 → AreLowered f 0 xs arrows
none_lowered f xs arrows empty none = rw empty (record { table = no_rows 0 (λ rank i. entry_at f rank true i) f.space.cartan.rank; counted = none })

pub more_lowered : (f : FinishedType) (n before arrows : ℕ) (xs new : List ℕ) → AreLowered f n xs before → new ≡ xs ++ rank_row f n true f.space.cartan.rank
    → arrows ≡ before + arrows_from f n → AreLowered f (n + 1) new arrows
more_lowered f n before arrows xs new have is counted = record {
  table = more_rows 0 (λ rank i. entry_at f rank true i) f.space.cartan.rank n xs new have.table is;
  counted = omega (arith, counted, more_arrows f n, have.counted);
}

pub all_lowered : (f : FinishedType) (n count arrows : ℕ) (xs : List ℕ) → n ≡ count → AreLowered f n xs arrows → AreLowered f count xs arrows
all_lowered f n count arrows xs all have = rw all at have

-- what stands in the table of a direction
pub entry_in : (f : FinishedType) (low high : List ℕ) (arrows rank : ℕ) (a : Arrow) → KeepsTables f low high arrows → rank < length f.codes → IsArrow f.space a
    → get_or (if a.down then low else high) (rank * f.space.cartan.rank + (a.index - 1)) 0 ≡ entry_of (target_rank f rank a)
entry_in f low high arrows rank a kept lt fits = by a.down a.index fits.index
  where
    by : (down : Bool) (i : ℕ) → HasIndex f.space.cartan i
        → get_or (if down then low else high) (rank * f.space.cartan.rank + (i - 1)) 0 ≡ entry_of (target_rank f rank (arrow_to down i))
    by true i index = kept.lowered.rows rank i lt index.low index.high
    by false i index = kept.raised.rows rank i lt index.low index.high

pub no_target : (f : FinishedType) (rank t : ℕ) (a : Arrow) → IsFinished f → t ≡ entry_of (target_rank f rank a) → t ≡ 4294967295 → None ≡ target_rank f rank a
no_target f rank t a finished read last =
    elim (target_rank f rank a) as (λ o. target_rank f rank a ≡ o → t ≡ entry_of o → None ≡ o) [
      | None ↦ λ is at. refl
      | Some u ↦ λ is at. absurd (omega (arith, finished.few, target_below f rank a u is))
    ] refl read

pub some_target : (f : FinishedType) (rank t : ℕ) (a : Arrow) → t ≡ entry_of (target_rank f rank a) → (t ≡ 4294967295 → ⊥) → Some t ≡ target_rank f rank a
some_target f rank t a read other =
    elim (target_rank f rank a) as (λ o. t ≡ entry_of o → Some t ≡ o) [
      | None ↦ λ at. absurd (other at)
      | Some u ↦ λ at. ap Some at
    ] read

pub one_at_most : (b : Bool) → (if b then 1 else 0) ≤ 1
one_at_most true = omega arith
one_at_most false = omega arith

pub entry_read : (f : FinishedType) (low high : List ℕ) (arrows rank t r : ℕ) (a : Arrow) → KeepsTables f low high arrows → rank < length f.codes
    → IsArrow f.space a → r ≡ f.space.cartan.rank → t ≡ get_or (if a.down then low else high) (rank * r + (a.index - 1)) 0 → t ≡ entry_of (target_rank f rank a)
entry_read f low high arrows rank t r a kept lt fits width read = rw width at read ∙ entry_in f low high arrows rank a kept lt fits

-- the same, read through the view of a graph
pub entry_seen : (g f : FinishedType) (low high : List ℕ) (arrows rank t r : ℕ) (a : Arrow) → KeepsTables g low high arrows → g ≡ f → rank < length f.codes
    → IsArrow f.space a → r ≡ g.space.cartan.rank → t ≡ get_or (if a.down then low else high) (rank * r + (a.index - 1)) 0 → t ≡ entry_of (target_rank f rank a)
entry_seen g f low high arrows rank t r a kept same lt fits width read =
    entry_read f low high arrows rank t r a (subst (λ (h : FinishedType). KeepsTables h low high arrows) same kept) lt fits
    (width ∙ ap (λ (h : FinishedType). h.space.cartan.rank) same) read

-- an operator on a code, by its word
pub op_at : (s : SpaceType) (a : Arrow) (code : ℕ) (w : List ℕ) → w ≡ word_of s code → option_map (code_of s) (acted s a w) ≡ op s a code
unfolding op
op_at s a code w is = rw is refl

-- the target, from what the operator gives
pub target_is : (f : FinishedType) (rank : ℕ) (a : Arrow) (o t : Option ℕ) → o ≡ op f.space a (code_at f rank) → t ≡ option_and_then (rank_in f.codes) o
    → t ≡ target_rank f rank a
unfolding target_rank
target_is f rank a o t gives is = rw gives at is

pub entry_on : (f : FinishedType) (rank : ℕ) (down : Bool) (n : ℕ) (t : Option ℕ) (old xs new : List ℕ) → t ≡ target_rank f rank (arrow_to down (n + 1))
    → xs ≡ old ++ rank_row f rank down n → new ≡ xs ++ entry_of t ∷ [] → new ≡ old ++ rank_row f rank down (n + 1)
entry_on f rank down n t old xs new leads before is =
    more_entries (λ i. entry_at f rank down i) n (n + 1) old xs new (omega arith) before (is ∙ ap (λ t. xs ++ entry_of t ∷ []) leads)

pub arrows_on : (f : FinishedType) (rank n : ℕ) (t : Option ℕ) (before total after : ℕ) → t ≡ target_rank f rank (arrow_to true (n + 1))
    → total ≡ before + count_by (λ i. is_some (target_rank f rank (lowering i))) (range_with_len 1 n)
    → after ≡ total + (if is_some t then 1 else 0)
    → after ≡ before + count_by (λ i. is_some (target_rank f rank (lowering i))) (range_with_len 1 (n + 1))
arrows_on f rank n t before total after leads so_far is =
    let one = ap {B = ℕ} (λ t. if is_some t then 1 else 0) leads in
    let counted = more_counted (λ i. is_some (target_rank f rank (lowering i))) n (n + 1) (omega arith) in
    omega (arith, is, one, so_far, counted)
