-- The table of the raising operators, from that of the lowering ones: the arrows of a graph turned around.
use Rattle.std.proofs.Common.{◌≡◌, ◌∙◌, refl, sym, ap, ℕ, ◌+◌, ◌-◌, ◌*◌, ◌^◌, ◌<◌, ◌≤◌, ◌⊎◌, inl, inr, true, false, List, length, get_or, Option, None, Some, arith}
use Rattle.std.specs.Option.{option_and_then}
use Rattle.std.proofs.Math.Nat.{mul-le-mul_right}
use Rattle.std.proofs.lemmas.Bool.{cases_lt}
use Rattle.crystal_cartan.specs.Types.{HasIndex}
use Rattle.crystal_cartan.specs.declared.types.Arrow.{Arrow}
use Rattle.tensor_words.specs.Spaces.{SpaceType, IsSpace, size}
use Rattle.tensor_words.specs.Operators.{IsArrow, op}
use Rattle.tensor_words.proofs.Keeps.{op_below}
use Rattle.tensor_words.proofs.KeptWords.{factors_of_space}
use Rattle.tensor_words.proofs.Strings.{arrows_lead_back}
use Rattle.canonical_graph.specs.Graphs.{FinishedType, IsFinished, code_at, rank_in, target_rank, arrow_count}
use Rattle.canonical_graph.specs.Tables.{entry_of, entry_at, arrow_to, IsTable, AreLowered, KeepsTables}
use Rattle.canonical_graph.specs.Turning.{AreArrows, LeadsBack, AreTurned}
use Rattle.canonical_graph.proofs.Ranks.{code_below, place_of_rank, rank_of_code, target_below}
use Rattle.list_facts.proofs.Numbers.{in_row}

-- on codes the two operators of an index undo each other
pub raised_from_lowered : (s : SpaceType) (i c d : ℕ) → IsSpace s → HasIndex s.cartan i → c < size s → op s (arrow_to true i) c ≡ Some d → op s (arrow_to false i) d ≡ Some c
raised_from_lowered s i c d space index lt is =
    let fits : IsArrow s (arrow_to true i) = record { index = index } in
    (arrows_lead_back s (arrow_to true i) c d (factors_of_space s space) fits lt (op_below s (arrow_to true i) c d space fits lt is)).0 is

lowered_from_raised : (s : SpaceType) (i c d : ℕ) → IsSpace s → HasIndex s.cartan i → c < size s → op s (arrow_to false i) c ≡ Some d → op s (arrow_to true i) d ≡ Some c
lowered_from_raised s i c d space index lt is =
    let fits : IsArrow s (arrow_to false i) = record { index = index } in
    (arrows_lead_back s (arrow_to false i) c d (factors_of_space s space) fits lt (op_below s (arrow_to false i) c d space fits lt is)).0 is

-- the operator on the codes, from the target, and the target from the operator
target_leads : (f : FinishedType) (rank t : ℕ) (a : Arrow) → target_rank f rank a ≡ Some t → op f.space a (code_at f rank) ≡ Some (code_at f t)
unfolding target_rank
target_leads f rank t a is = by (op f.space a (code_at f rank)) is
  where
    by : (o : Option ℕ) → option_and_then (rank_in f.codes) o ≡ Some t → o ≡ Some (code_at f t)
    by None none = cc
    by (Some d) some = ap Some (sym (place_of_rank f.codes d t some).1)

target_from : (f : FinishedType) (rank t : ℕ) (a : Arrow) → IsFinished f → t < length f.codes → op f.space a (code_at f rank) ≡ Some (code_at f t) → target_rank f rank a ≡ Some t
unfolding target_rank
target_from f rank t a finished lt leads = rw leads (rank_of_code f t finished lt)

-- the arrows of a graph turned around are its arrows
turned_target : (f : FinishedType) (k t i : ℕ) → IsFinished f → HasIndex f.space.cartan i → k < length f.codes → target_rank f k (arrow_to true i) ≡ Some t
    → target_rank f t (arrow_to false i) ≡ Some k
turned_target f k t i finished index lt is =
    target_from f t k (arrow_to false i) finished lt
    (raised_from_lowered f.space i (code_at f k) (code_at f t) finished.space index (code_below f k finished lt) (target_leads f k t (arrow_to true i) is))

returned_target : (f : FinishedType) (k t i : ℕ) → IsFinished f → HasIndex f.space.cartan i → k < length f.codes → target_rank f k (arrow_to false i) ≡ Some t
    → target_rank f t (arrow_to true i) ≡ Some k
returned_target f k t i finished index lt is =
    target_from f t k (arrow_to true i) finished lt
    (lowered_from_raised f.space i (code_at f k) (code_at f t) finished.space index (code_below f k finished lt) (target_leads f k t (arrow_to false i) is))

-- what an entry stands for
entry_kind : (n : ℕ) (o : Option ℕ) → ((t : ℕ) → o ≡ Some t → t < n) → (entry_of o ≡ 4294967295) ⊎ (entry_of o < n)
entry_kind n None below = inl refl
entry_kind n (Some t) below = inr (below t refl)

entry_some : (n : ℕ) (o : Option ℕ) → n < 2 ^ 32 → entry_of o < n → o ≡ Some (entry_of o)
entry_some n None few lt = absurd (omega arith)
entry_some n (Some t) few lt = refl

-- all that is kept of a graph, from its lowering half
module _ (f : FinishedType) (low : List ℕ) (finished : IsFinished f) (table : IsTable f true (length f.codes) low) where
  index_of : (j : ℕ) → j < f.space.cartan.rank → HasIndex f.space.cartan (j + 1)
  index_of j lt = record { low = omega arith; high = omega (arith, lt) }

  entry_read : (k j : ℕ) → k < length f.codes → j < f.space.cartan.rank → get_or low (k * f.space.cartan.rank + j) 0 ≡ entry_at f k true (j + 1)
  entry_read k j below within =
      let back : j + 1 - 1 ≡ j = omega arith in
      ap (λ x. get_or low (k * f.space.cartan.rank + x) 0) (sym back) ∙ table.rows k (j + 1) below (omega arith) (omega (arith, within))

  leads_to : (k j : ℕ) → k < length f.codes → j < f.space.cartan.rank → get_or low (k * f.space.cartan.rank + j) 0 < length f.codes
      → target_rank f k (arrow_to true (j + 1)) ≡ Some (get_or low (k * f.space.cartan.rank + j) 0)
  leads_to k j below within lt =
      let read = entry_read k j below within in
      entry_some (length f.codes) (target_rank f k (arrow_to true (j + 1))) finished.few (rw (← read) lt) ∙ ap Some (sym read)

  pub arrows_of_table : AreArrows f.space.cartan.rank (length f.codes) low
  arrows_of_table = record { size = table.size; few = finished.few; below = below; apart = apart }
    where
      below : (k j : ℕ) → k < length f.codes → j < f.space.cartan.rank
          → (get_or low (k * f.space.cartan.rank + j) 0 ≡ 4294967295) ⊎ (get_or low (k * f.space.cartan.rank + j) 0 < length f.codes)
      below k j lower within =
          rw (entry_read k j lower within)
          (entry_kind (length f.codes) (target_rank f k (arrow_to true (j + 1))) (target_below f k (arrow_to true (j + 1))))

      apart : (k l j : ℕ) → k < length f.codes → l < length f.codes → j < f.space.cartan.rank → get_or low (k * f.space.cartan.rank + j) 0 < length f.codes
          → get_or low (k * f.space.cartan.rank + j) 0 ≡ get_or low (l * f.space.cartan.rank + j) 0 → k ≡ l
      apart k l j lower other within lt same =
          let t : ℕ = get_or low (k * f.space.cartan.rank + j) 0 in
          let first = turned_target f k t (j + 1) finished (index_of j within) lower (leads_to k j lower within lt) in
          let second = turned_target f l t (j + 1) finished (index_of j within) other (leads_to l j other within (rw (← same) lt) ∙ ap Some (sym same)) in
          cc

  pub table_turned : (high : List ℕ) → AreTurned f.space.cartan.rank (length f.codes) (length f.codes * f.space.cartan.rank) low high → IsTable f false (length f.codes) high
  table_turned high turned = record { size = turned.size; rows = rows }
    where
      r : ℕ
      r = f.space.cartan.rank

      n : ℕ
      n = length f.codes

      place_below : (k j : ℕ) → k * f.space.cartan.rank + j < length f.codes * f.space.cartan.rank → k < length f.codes
      place_below k j lt = elim (cases_lt k (length f.codes)) [
        | inl below ↦ below
        | inr over ↦ let rows : length f.codes * f.space.cartan.rank ≤ k * f.space.cartan.rank = mul-le-mul_right f.space.cartan.rank over in absurd (omega (arith, rows, lt))
      ]

      by : (k j x : ℕ) → k < length f.codes → j < f.space.cartan.rank → x ≡ get_or high (k * f.space.cartan.rank + j) 0
          → LeadsBack f.space.cartan.rank (length f.codes * f.space.cartan.rank) low k j x → x ≡ entry_of (target_rank f k (arrow_to false (j + 1)))
      by k j x below within read (inl none) =
          elim (target_rank f k (arrow_to false (j + 1))) as (λ o. target_rank f k (arrow_to false (j + 1)) ≡ o → x ≡ entry_of o) [
            | None ↦ λ is. none
            | Some t ↦ λ is.
                let there : t < length f.codes = target_below f k (arrow_to false (j + 1)) t is in
                let leads : get_or low (t * f.space.cartan.rank + j) 0 ≡ k =
                entry_read t j there within ∙ ap entry_of (returned_target f k t (j + 1) finished (index_of j within) below is) in
                let place : t * f.space.cartan.rank + j < length f.codes * f.space.cartan.rank = in_row t (length f.codes) f.space.cartan.rank j there within in
                read ∙ turned.all t j k there within below place leads
          ] refl
      by k j x below within read (inr (place, leads)) =
          let there : x < length f.codes = place_below x j place in
          let to : target_rank f x (arrow_to true (j + 1)) ≡ Some k = leads_to x j there within (rw leads below) ∙ ap Some leads in
          sym (ap entry_of (turned_target f x k (j + 1) finished (index_of j within) there to))

      rows : (k i : ℕ) → k < length f.codes → 1 ≤ i → i ≤ f.space.cartan.rank → get_or high (k * f.space.cartan.rank + (i - 1)) 0 ≡ entry_at f k false i
      rows k i below low_index high_index =
          let within : i - 1 < f.space.cartan.rank = omega arith in
          let next : i - 1 + 1 ≡ i = omega arith in
          let entry_is = by k (i - 1) (get_or high (k * f.space.cartan.rank + (i - 1)) 0) below within refl (turned.only k (i - 1) below within) in
          rw next at entry_is

pub arrows_lowered : (f : FinishedType) (r arrows : ℕ) (low xs : List ℕ) → IsFinished f → AreLowered f (length f.codes) low arrows → r ≡ f.space.cartan.rank → xs ≡ low
    → AreArrows r (length f.codes) xs
arrows_lowered f r arrows low xs finished have width is = rw (width, is) (arrows_of_table f low finished have.table)

pub kept_turned : (f : FinishedType) (r arrows : ℕ) (low xs high : List ℕ) → IsFinished f → AreLowered f (length f.codes) low arrows → r ≡ f.space.cartan.rank → xs ≡ low
    → AreTurned r (length f.codes) (length f.codes * r) xs high → KeepsTables f low high arrows
unfolding arrow_count
kept_turned f r arrows low xs high finished have width is turned = record {
  finished = finished;
  lowered = have.table;
  raised = table_turned f low finished have.table high (rw (width, is) at turned);
  counted = have.counted;
}
