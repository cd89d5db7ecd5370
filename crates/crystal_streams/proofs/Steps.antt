-- Steps of the loops and of a read from memory.
use Rattle.std.proofs.Common.{◌≡◌, ℕ, ◌+◌, ◌-◌, ◌<◌, ◌≤◌, min, List, [], ◌++◌, length, take, drop, sym, ap, ◌∙◌, arith, Option}
use Rattle.std.proofs.Math.Seq.{take-append_seam}
use Rattle.std.proofs.lemmas.List.{take-append-drop, drop-drop, length-take, length-append, length-drop, drop_all}
use Rattle.std.proofs.KnownBytes.{Consumes-trans}
use Rattle.std.specs.Io.KnownBytes.{Consumes}
use Rattle.crystal_streams.specs.Reads.{TakesAtMost}

-- a read put a front of what is left into the buffer, and left the rest of it
pub read_front : (bytes piece rest : List ℕ) (at count : ℕ) → piece ≡ take count (drop at bytes) → count ≤ length bytes - at
    → drop at bytes ≡ take count (piece ++ rest) ++ drop (at + count) bytes
read_front bytes piece rest at count is bound =
    let long : length piece ≡ count = ap length is ∙ length-take count (drop at bytes) ∙ omega (arith, length-drop at bytes) in
    let front : take count (piece ++ rest) ≡ take count (drop at bytes) = ap (λ n. take n (piece ++ rest)) (sym long) ∙ take-append_seam piece rest ∙ is in
    let back : drop (at + count) bytes ≡ drop count (drop at bytes) = sym (drop-drop count at bytes) in
    rw (front, back) (sym (take-append-drop count (drop at bytes)))

-- a read that could give something and gave nothing was at the end
pub read_end : (bytes : List ℕ) (at count space most : ℕ) → count ≡ min (min space most) (length bytes - at) → 0 < space → 1 ≤ most → count ≡ 0 → drop (at + count) bytes ≡ []
read_end bytes at count space most is some_space some_most none = drop_all (at + count) bytes (omega arith)

-- what was taken before and in one more read
pub takes_more : (before middle after : Option (List ℕ)) (taken piece : List ℕ) (limit most count : ℕ)
    → Consumes before middle taken → Consumes middle after (take count piece) → length taken ≤ limit → count ≤ most → most ≤ limit + 1 - length taken
    → TakesAtMost (limit + 1) before after
takes_more before middle after taken piece limit most count first second within bound small = record {
  taken = taken ++ take count piece;
  many = omega (arith, length-append taken (take count piece), length-take count piece);
  gone = Consumes-trans before middle after taken (take count piece) first second;
}
