-- Reflections of vertices.
use Rattle.std.proofs.Common.{◌≡◌, sym, refl, ap, ℕ, suc, ◌<◌, length, Option, Some, None}
use Rattle.std.specs.Option.{option_and_then}
use Rattle.crystal_cartan.specs.declared.types.Arrow.{Arrow}
use Rattle.tensor_words.specs.Operators.{IsArrow, op}
use Rattle.canonical_graph.specs.Graphs.{FinishedType, IsFinished, code_at, rank_in, target_rank}
use Rattle.canonical_graph.proofs.Ranks.{place_of_rank, rank_of_code, zero_of_target}
use Rattle.crystal_characters.specs.Reflections.{repeated, repeated_rank}

pub repeat_more : (f : FinishedType) (a : Arrow) (n m rank t : ℕ) → n ≡ suc m → target_rank f rank a ≡ Some t → repeated_rank f a n rank ≡ repeated_rank f a m t
unfolding repeated_rank repeated target_rank
repeat_more f a n m rank t count leads = rw count (by (op f.space a (code_at f rank)) leads)
  where
    by : (o : Option ℕ) → option_and_then (rank_in f.codes) o ≡ Some t
        → option_and_then (rank_in f.codes) (option_and_then (repeated f.space a m) o) ≡ option_and_then (rank_in f.codes) (repeated f.space a m (code_at f t))
    by None none = cc
    by (Some d) some = ap (λ c. option_and_then (rank_in f.codes) (repeated f.space a m c)) (sym (place_of_rank f.codes d t some).1)

pub repeat_stopped : (f : FinishedType) (a : Arrow) (n m rank : ℕ) → IsFinished f → rank < length f.codes → IsArrow f.space a → n ≡ suc m
    → target_rank f rank a ≡ None → repeated_rank f a n rank ≡ None
unfolding repeated_rank repeated
repeat_stopped f a n m rank finished lt fits count none = rw (count, zero_of_target f rank a finished lt fits none) refl

pub repeat_ended : (f : FinishedType) (a : Arrow) (n rank : ℕ) → IsFinished f → rank < length f.codes → n ≡ 0 → repeated_rank f a n rank ≡ Some rank
unfolding repeated_rank repeated
repeat_ended f a n rank finished lt count = rw count (rank_of_code f rank finished lt)
