-- What a growth notes of the operators, and the ranks that come of it.
use Rattle.std.proofs.Common.{◌≡◌, ◌∙◌, refl, sym, ap, subst, ℕ, ◌+◌, ◌-◌, ◌*◌, ◌<◌, ◌==◌, inl, inr, suc, Bool, true, false, if◌then◌else◌, List, [], ◌∷◌, ◌++◌, length, map, get_or, Option, None, Some, arith}
use Rattle.std.specs.Option.{option_and_then}
use Rattle.std.proofs.lemmas.List.{get_or_append_left, get_or-map, length-append, length-map, map-append}
use Rattle.std.proofs.lemmas.List.Elements.{All-push}
use Rattle.tensor_words.specs.Spaces.{SpaceType}
use Rattle.tensor_words.specs.Operators.{op}
use Rattle.canonical_graph.specs.Graphs.{FinishedType, code_at, rank_in, target_rank}
use Rattle.canonical_graph.specs.Tables.{arrow_to}
use Rattle.plain_growth.specs.Growth.{noted_in, IsNote, AreNotes, next_row, AddsNotes, HasNexts, AreRanks}
use Rattle.list_facts.proofs.Numbers.{in_row}
use Rattle.canonical_graph.proofs.Rows.{no_rows, more_rows, same_rows, more_entries, target_is}

-- a note still stands for the same where more codes are found
pub later_note : (old more new : List ℕ) (note : ℕ) → new ≡ old ++ more → IsNote (length old) note → IsNote (length new) note
later_note old more new note is (inl zero_is) = inl zero_is
later_note old more new note is (inr lt) =
    let longer : length new ≡ length old + length more = ap length is ∙ length-append old more in
    inr (omega (arith, longer, lt))

pub same_note : (old more new : List ℕ) (note : ℕ) → new ≡ old ++ more → IsNote (length old) note → noted_in new note ≡ noted_in old note
same_note old more new note is (inl zero_is) = rw zero_is refl
same_note old more new note is (inr lt) =
    ap (λ c. if note == 4294967295 then None else Some c) (ap (λ (xs : List ℕ). get_or xs note 0) is ∙ get_or_append_left old more 0 note lt)

later_notes : (old more new notes : List ℕ) → new ≡ old ++ more → AreNotes old notes → AreNotes new notes
later_notes old more new notes is placed = λ k d lt. later_note old more new (get_or notes k d) is (placed k d lt)

same_notes : (old more new notes : List ℕ) → new ≡ old ++ more → AreNotes old notes → map (noted_in new) notes ≡ map (noted_in old) notes
same_notes old more new [] is placed = refl
same_notes old more new (note ∷ rest) is placed =
    let one : noted_in new note ≡ noted_in old note = same_note old more new note is (placed 0 0 (omega arith)) in
    let others : map (noted_in new) rest ≡ map (noted_in old) rest = same_notes old more new rest is (λ k d lt. placed (suc k) d (omega (arith, lt))) in
    rw (one, others) refl

-- the note of the next index
pub next_on : (s : SpaceType) (n code note : ℕ) (old notes mid more new xs later : List ℕ) → AddsNotes s n code old notes mid xs
    → new ≡ mid ++ more → IsNote (length new) note → noted_in new note ≡ op s (arrow_to true (n + 1)) code → later ≡ xs ++ note ∷ []
    → AddsNotes s (n + 1) code old notes new later
next_on s n code note old notes mid more new xs later before grown placed gives is = record {
  placed = subst (λ ys. AreNotes new ys) (sym is) (All-push (IsNote (length new)) xs note (later_notes mid more new xs grown before.placed) placed);
  is = more_entries (λ i. op s (arrow_to true i) code) n (n + 1) (map (noted_in old) notes) (map (noted_in mid) xs) (map (noted_in new) later) (omega arith) before.is one_more;
}
  where
    one_more : map (noted_in new) later ≡ map (noted_in mid) xs ++ op s (arrow_to true (n + 1)) code ∷ []
    one_more =
        let front : map (noted_in new) xs ≡ map (noted_in mid) xs = same_notes mid more new xs grown before.placed in
        ap (λ ys. map (noted_in new) ys) is ∙ map-append (noted_in new) xs (note ∷ []) ∙ ap (λ ys. ys ++ noted_in new note ∷ []) front
        ∙ ap (λ o. map (noted_in mid) xs ++ o ∷ []) gives

-- the notes where more codes are found
pub adds_later : (s : SpaceType) (n code : ℕ) (old notes mid more new xs : List ℕ) → AddsNotes s n code old notes mid xs → new ≡ mid ++ more
    → AddsNotes s n code old notes new xs
adds_later s n code old notes mid more new xs before grown = record {
  placed = later_notes mid more new xs grown before.placed;
  is = same_notes mid more new xs grown before.placed ∙ before.is;
}

pub no_nexts : (s : SpaceType) (found notes : List ℕ) → notes ≡ [] → HasNexts s found 0 notes
no_nexts s found notes empty = rw empty (record {
  placed = λ k d lt. absurd (omega (arith, lt));
  rows = no_rows None (λ k i. op s (arrow_to true i) (get_or found k 0)) s.cartan.rank;
})

-- one more expanded code
pub more_nexts : (s : SpaceType) (n code : ℕ) (found more new notes later : List ℕ) → n < length found → code ≡ get_or found n 0 → new ≡ found ++ more
    → HasNexts s found n notes → AddsNotes s s.cartan.rank code found notes new later → HasNexts s new (n + 1) later
more_nexts s n code found more new notes later at here grown have added = record {
  placed = added.placed;
  rows =
      same_rows None (λ k i. op s (arrow_to true i) (get_or found k 0)) (λ k i. op s (arrow_to true i) (get_or new k 0)) s.cartan.rank (n + 1) (map (noted_in new) later)
      (λ k i below. ap (λ c. op s (arrow_to true i) c) (sym (kept k (omega arith))))
      (more_rows None (λ k i. op s (arrow_to true i) (get_or found k 0)) s.cartan.rank n (map (noted_in found) notes) (map (noted_in new) later) have.rows
      (added.is ∙ ap (λ c. map (noted_in found) notes ++ next_row s c s.cartan.rank) here));
}
  where
    kept : (k : ℕ) → k < length found → get_or new k 0 ≡ get_or found k 0
    kept k lt = ap (λ (xs : List ℕ). get_or xs k 0) grown ∙ get_or_append_left found more 0 k lt

-- the row of a code that was found
pub row_within : (s : SpaceType) (found notes : List ℕ) (place r j : ℕ) → HasNexts s found (length found) notes → r ≡ s.cartan.rank
    → place < length found → j < r → place * r + j < length notes
row_within s found notes place r j have width lt below =
    let rows : place * s.cartan.rank + j < length found * s.cartan.rank = in_row place (length found) s.cartan.rank j lt (omega (arith, width, below)) in
    let size : length notes ≡ length found * s.cartan.rank = sym (length-map notes (noted_in found)) ∙ have.rows.size in
    rw width (omega (arith, rows, size))

noted_op : (s : SpaceType) (found notes : List ℕ) (place r j : ℕ) → HasNexts s found (length found) notes → r ≡ s.cartan.rank
    → place < length found → j < r → noted_in found (get_or notes (place * r + j) 0) ≡ op s (arrow_to true (j + 1)) (get_or found place 0)
noted_op s found notes place r j have width lt below =
    let back : j + 1 - 1 ≡ j = omega arith in
    let row : get_or (map (noted_in found) notes) (place * s.cartan.rank + (j + 1 - 1)) None ≡ op s (arrow_to true (j + 1)) (get_or found place 0) =
    have.rows.rows place (j + 1) lt (omega arith) (omega (arith, width, below)) in
    let read : get_or (map (noted_in found) notes) (place * r + j) None ≡ noted_in found (get_or notes (place * r + j) 0) =
    get_or-map (noted_in found) notes (place * r + j) 0 None (row_within s found notes place r j have width lt below) in
    sym read ∙ ap (λ w. get_or (map (noted_in found) notes) (place * w + j) None) width ∙ ap (λ k. get_or (map (noted_in found) notes) (place * s.cartan.rank + k) None) (sym back) ∙ row

note_at : (s : SpaceType) (found notes : List ℕ) (place r j note : ℕ) → HasNexts s found (length found) notes → r ≡ s.cartan.rank
    → place < length found → j < r → note ≡ get_or notes (place * r + j) 0 → IsNote (length found) note
note_at s found notes place r j note have width lt below read =
    subst (λ e. IsNote (length found) e) (sym read) (have.placed (place * r + j) 0 (row_within s found notes place r j have width lt below))

-- the rank for which a note stands
pub ranked : (codes found ranks : List ℕ) (note : ℕ) → AreRanks codes found ranks → IsNote (length found) note
    → noted_in ranks note ≡ option_and_then (rank_in codes) (noted_in found note)
ranked codes found ranks note are (inl zero_is) = rw zero_is refl
ranked codes found ranks note are (inr lt) = by (note == 4294967295)
  where
    by : (b : Bool) → (if b then None else Some (get_or ranks note 0)) ≡ option_and_then (rank_in codes) (if b then None else Some (get_or found note 0))
    by true = refl
    by false = sym (are.rank note lt)

-- the target, from a note
pub noted_target : (f : FinishedType) (found notes ranks : List ℕ) (rank place r j note : ℕ) (t : Option ℕ)
    → HasNexts f.space found (length found) notes → AreRanks f.codes found ranks → r ≡ f.space.cartan.rank → place < length found → get_or found place 0 ≡ code_at f rank
    → j < r → note ≡ get_or notes (place * r + j) 0 → t ≡ noted_in ranks note → t ≡ target_rank f rank (arrow_to true (j + 1))
noted_target f found notes ranks rank place r j note t have are width lt here below read is =
    target_is f rank (arrow_to true (j + 1)) (noted_in found note) t
    (ap (λ e. noted_in found e) read ∙ noted_op f.space found notes place r j have width lt below ∙ ap (λ c. op f.space (arrow_to true (j + 1)) c) here)
    (is ∙ ranked f.codes found ranks note are placed)
  where
    placed : IsNote (length found) note
    placed = note_at f.space found notes place r j note have width lt below read

pub note_placed : (s : SpaceType) (codes found notes ranks : List ℕ) (place r j note : ℕ) → HasNexts s found (length found) notes
    → AreRanks codes found ranks → r ≡ s.cartan.rank → place < length found → j < r → note ≡ get_or notes (place * r + j) 0 → IsNote (length ranks) note
note_placed s codes found notes ranks place r j note have are width lt below read =
    rw are.size (note_at s found notes place r j note have width lt below read)
