-- How what several calls printed comes together.
use Rattle.std.proofs.Common.{◌≡◌, ◌∙◌, refl, sym, ap, subst, ℕ, ◌≤◌, List, [], ◌++◌, length, take, drop, append_assoc, append-nil, Option, Result, Ok, Err, OnOk, IsErrAnd, arith}
use Rattle.std.proofs.Math.Seq.{take-append_seam}
use Rattle.std.proofs.lemmas.List.{take-append-drop, length-append}
use Rattle.std.proofs.KnownBytes.{Appends-trans, Appends-nil}
use Rattle.std.specs.Io.KnownBytes.{Appends}
use Rattle.crystal_streams.proofs.Written.{then_fault}
use Rattle.crystal_streams.specs.Writes.{Writes}
use Rattle.answer_text.specs.Prints.{Prints}

-- nothing was printed yet
pub prints_nothing : {T E : Type 0} (value : T) (taken : Option (List ℕ)) (faults : ℕ) (page : List ℕ) → Prints {T = T} {E = E} taken taken faults faults page page [] (Ok value)
prints_nothing value taken faults page = record {
  given = [];
  rest = page;
  taken = Appends-nil taken;
  whole = sym (append-nil page);
  kept = refl;
  fault = tt;
  later = omega arith;
}

-- a call that came to no fault may answer any value
pub prints_value : {T E T' E' : Type 0} {value : T} {other : T'} {before after : Option (List ℕ)} {faults faults_after : ℕ} {page page_after text : List ℕ}
    → Prints {T = T} {E = E} before after faults faults_after page page_after text (Ok value)
    → Prints {T = T'} {E = E'} before after faults faults_after page page_after text (Ok other)
prints_value first = record {
  given = first.given;
  rest = first.rest;
  taken = first.taken;
  whole = first.whole;
  kept = first.kept;
  fault = tt;
  later = first.later;
}

-- the same text, spelled otherwise
pub prints_as : {T E : Type 0} {before after : Option (List ℕ)} {faults faults_after : ℕ} {page page_after text other : List ℕ} {result : Result T E}
    → text ≡ other → Prints before after faults faults_after page page_after text result → Prints before after faults faults_after page page_after other result
prints_as {before = before} {after = after} {faults = faults} {faults_after = faults_after} {page = page} {page_after = page_after} {result = result} same first =
    subst (λ (t : List ℕ). Prints before after faults faults_after page page_after t result) same first

joined : (given given' rest rest' page page' text more : List ℕ) → given ++ rest ≡ page ++ text → page' ≡ rest → given' ++ rest' ≡ page' ++ more
    → (given ++ given') ++ rest' ≡ page ++ (text ++ more)
joined given given' rest rest' page page' text more first kept second =
    append_assoc given given' rest' ∙ ap (λ (l : List ℕ). given ++ l) second ∙ sym (append_assoc given page' more)
    ∙ ap (λ (l : List ℕ). (given ++ l) ++ more) kept ∙ ap (λ (l : List ℕ). l ++ more) first ∙ append_assoc page text more

-- a text was printed, and then a further one with this result
pub prints_then : {T E T' E' : Type 0} {value : T} {before middle after : Option (List ℕ)} {faults faults_middle faults_after : ℕ} {page page_middle page_after text more : List ℕ} {result : Result T' E'}
    → Prints {T = T} {E = E} before middle faults faults_middle page page_middle text (Ok value)
    → Prints middle after faults_middle faults_after page_middle page_after more result
    → Prints before after faults faults_after page page_after (text ++ more) result
prints_then {before = before} {middle = middle} {after = after} {faults = faults} {faults_middle = faults_middle} {faults_after = faults_after} {page = page} {page_middle = page_middle} {text = text} {more = more} {result = result} first second =
    record {
      given = first.given ++ second.given;
      rest = second.rest;
      taken = Appends-trans before middle after first.given second.given first.taken second.taken;
      whole = joined first.given second.given first.rest second.rest page page_middle text more first.whole first.kept second.whole;
      kept = second.kept;
      fault = then_fault faults faults_middle faults_after result first.later second.fault;
      later = omega (arith, first.later, second.later);
    }

-- a text was not printed whole, and a further one was not begun
pub prints_short : {T E : Type 0} {error : E} {before after : Option (List ℕ)} {faults faults_after : ℕ} {page page_after text : List ℕ} (more : List ℕ)
    → Prints {T = T} {E = E} before after faults faults_after page page_after text (Err error)
    → Prints {T = T} {E = E} before after faults faults_after page page_after (text ++ more) (Err error)
prints_short {page = page} {text = text} more first = record {
  given = first.given;
  rest = first.rest ++ more;
  taken = first.taken;
  whole = sym (append_assoc first.given first.rest more) ∙ ap (λ (l : List ℕ). l ++ more) first.whole ∙ append_assoc page text more;
  kept = tt;
  fault = first.fault;
  later = first.later;
}

-- a call that gives a fault on
pub prints_failed : {T E T' E' : Type 0} {error : E} {before after : Option (List ℕ)} {faults faults_after : ℕ} {page page_after page_end text : List ℕ} {result : Result T' E'} (Q : E' → Type 0)
    → IsErrAnd result Q → Prints {T = T} {E = E} before after faults faults_after page page_after text (Err error)
    → Prints before after faults faults_after page page_end text result
prints_failed {result = Ok value} Q fails first = absurd fails
prints_failed {result = Err error} Q fails first = record {
  given = first.given;
  rest = first.rest;
  taken = first.taken;
  whole = first.whole;
  kept = tt;
  fault = first.fault;
  later = first.later;
}

-- a further piece was put on the page
pub prints_added : {T E T' E' : Type 0} {value : T} {other : T'} {before after : Option (List ℕ)} {faults faults_after : ℕ} {page page_middle page_after text : List ℕ} (more : List ℕ)
    → page_after ≡ page_middle ++ more → Prints {T = T} {E = E} before after faults faults_after page page_middle text (Ok value)
    → Prints {T = T'} {E = E'} before after faults faults_after page page_after (text ++ more) (Ok other)
prints_added {page = page} {text = text} more added first = record {
  given = first.given;
  rest = first.rest ++ more;
  taken = first.taken;
  whole = sym (append_assoc first.given first.rest more) ∙ ap (λ (l : List ℕ). l ++ more) first.whole ∙ append_assoc page text more;
  kept = added ∙ ap (λ (l : List ℕ). l ++ more) first.kept;
  fault = tt;
  later = first.later;
}

-- a text was written past the page, or the page itself was written
pub writes_prints : {T E : Type 0} {before after : Option (List ℕ)} {faults faults_after : ℕ} {page page_after text written : List ℕ} (result : Result T E)
    → Writes before after faults faults_after written result → written ≡ page ++ text → page_after ≡ []
    → Prints before after faults faults_after page page_after text result
writes_prints {written = written} (Ok value) writes is empty = record {
  given = written;
  rest = [];
  taken = writes.whole;
  whole = append-nil written ∙ is;
  kept = empty;
  fault = tt;
  later = writes.later;
}
writes_prints {written = written} (Err error) writes is empty = record {
  given = take writes.part written;
  rest = drop writes.part written;
  taken = writes.front;
  whole = take-append-drop writes.part written ∙ is;
  kept = tt;
  fault = writes.fault;
  later = writes.later;
}

within_whole : (given rest text : List ℕ) → given ++ rest ≡ text → length given ≤ length text
within_whole given rest text is = omega (arith, ap length is, length-append given rest)

front_is : (given rest text : List ℕ) → given ++ rest ≡ text → given ≡ take (length given) text
front_is given rest text is = sym (take-append_seam given rest) ∙ ap (take (length given)) is

whole_is : {T E : Type 0} (before after : Option (List ℕ)) (given rest page text : List ℕ) (result : Result T E)
    → Appends before after given → given ++ rest ≡ text → OnOk result (page ≡ rest) → OnOk result (page ≡ []) → OnOk result (Appends before after text)
whole_is before after given rest page text (Ok value) taken is kept empty =
    let all : given ≡ text = sym (append-nil given) ∙ ap (λ (l : List ℕ). given ++ l) (sym empty ∙ kept) ∙ is in
    subst (λ (t : List ℕ). Appends before after t) all taken
whole_is before after given rest page text (Err error) taken is kept empty = tt

to_writes : {T E : Type 0} (before after : Option (List ℕ)) (faults faults_after : ℕ) (page page_after text : List ℕ) (result : Result T E)
    → page ≡ [] → OnOk result (page_after ≡ []) → Prints before after faults faults_after page page_after text result → Writes before after faults faults_after text result
to_writes before after faults faults_after page page_after text result bare empty first =
    let is : first.given ++ first.rest ≡ text = first.whole ∙ ap (λ (l : List ℕ). l ++ text) bare in
    record {
      whole = whole_is before after first.given first.rest page_after text result first.taken is first.kept empty;
      part = length first.given;
      within = within_whole first.given first.rest text is;
      front = subst (λ (t : List ℕ). Appends before after t) (front_is first.given first.rest text is) first.taken;
      fault = first.fault;
      later = first.later;
    }

on_ok : {T E P : Type 0} (result : Result T E) → P → OnOk result P
on_ok (Ok value) fact = fact
on_ok (Err error) fact = tt

-- a text was printed by way of a page that was empty before and is empty again
pub prints_whole : {T E : Type 0} {before after : Option (List ℕ)} {faults faults_after : ℕ} {page page_after text : List ℕ} {result : Result T E}
    → page ≡ [] → page_after ≡ [] → Prints before after faults faults_after page page_after text result → Writes before after faults faults_after text result
prints_whole {before = before} {after = after} {faults = faults} {faults_after = faults_after} {page = page} {page_after = page_after} {text = text} {result = result} bare empty first =
    to_writes before after faults faults_after page page_after text result bare (on_ok result empty) first

-- a text was not printed whole by way of a page that was empty before
pub prints_cut : {T E T' E' : Type 0} {error : E} {before after : Option (List ℕ)} {faults faults_after : ℕ} {page page_after text : List ℕ} {result : Result T' E'} (Q : E' → Type 0)
    → IsErrAnd result Q → page ≡ [] → Prints {T = T} {E = E} before after faults faults_after page page_after text (Err error)
    → Writes before after faults faults_after text result
prints_cut {result = Ok value} Q fails bare first = absurd fails
prints_cut {before = before} {after = after} {faults = faults} {faults_after = faults_after} {page = page} {page_after = page_after} {text = text} {result = Err error} Q fails bare first =
    to_writes before after faults faults_after page page_after text (Err error) bare tt (prints_failed Q fails first)
