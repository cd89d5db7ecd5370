-- How a run comes to its end.
use Rattle.std.proofs.Common.{◌≡◌, ◌+◌, ◌≤◌, ℕ, true, false, List, [], Option, Some, None, Result, Ok, Err, IfOk, IsOk, IsErrOf, inl, inr, refl, sym, ap, subst, ◌∙◌, true≢false, arith}
use Rattle.crystal_streams.specs.Reads.{TakesAtMost}
use Rattle.graph_history.specs.declared.event.Event.{Event}
use Rattle.graph_runs.specs.declared.run.Held.{Held}
use Rattle.command_words.specs.declared.settings.Relabelling.{Relabelling}
use Rattle.tableau_reading.specs.Shapes.{ShapeType}
use Rattle.job_text.specs.Jobs.{most_job_bytes}
use Rattle.answer_text.specs.Answers.{answer_bytes}
use Rattle.answer_text.specs.Texts.{words_refusal}
use Rattle.crystal_shell.specs.Statistics.{Reporter, names_of}
use Rattle.crystal_shell.specs.Inputs.{IsInput, judged_input}
use Rattle.crystal_shell.specs.Modes.{CallsFor, asks_for_job, call_census, call_grow, call_match, call_refused, call_sample, call_wide}
use Rattle.crystal_shell.specs.Statuses.{status_number}
use Rattle.crystal_shell.specs.Modes.Census.{CallsForCensus}
use Rattle.crystal_shell.specs.Modes.Grow.{CallsForGraph}
use Rattle.crystal_shell.specs.Modes.Match.{CallsForMatch}
use Rattle.crystal_shell.specs.Modes.Sample.{CallsForSample}
use Rattle.crystal_shell.specs.Modes.Wide.{CallsForWide}
use Rattle.crystal_shell.specs.Runs.{Called, HasRead, IsRun, IsWritten}
use Rattle.command_words.specs.Fault.{fault_number}
use Rattle.command_words.specs.Judge.{judge_words}
use Rattle.command_words.specs.declared.fault.WordsFault.{WordsFault}
use Rattle.command_words.specs.declared.settings.Settings.{Settings}
use Rattle.command_words.specs.declared.settings.Settings.TheVariants.{Census, Grow, Match, Sample, Wide}
use Rattle.crystal_shell.specs.declared.inputs.Input.{Input}
use Rattle.crystal_shell.specs.declared.outcomes.Answered.{Answered}
use Rattle.crystal_shell.specs.declared.outcomes.Outcome.{Outcome}
use Rattle.crystal_shell.specs.declared.outcomes.Status.{Status}
use Rattle.crystal_shell.specs.declared.outcomes.Status.TheVariants.{Done, Full, JobRefused, WordsRefused}

-- ---- what was called for

some_input : (left : Option (List ℕ)) → (input : List ℕ) × IsInput left input
some_input None = ([], tt)
some_input (Some left) = (left, refl)

module _ (reporters : List Reporter) (left : Option (List ℕ)) where
  -- refused words
  pub called_refused : (judged : Result Settings WordsFault) (fault : WordsFault) (number : ℕ) (s : Status) (f : List Event) (k : Option Held) (x : List ℕ) → Err fault ≡ judged
      → fault_number fault ≡ Some number → s ≡ WordsRefused → f ≡ [] → k ≡ None → x ≡ words_refusal number → Called reporters judged left s f k x
  called_refused judged fault number s f k x is numbered status front none text =
      let some = some_input left in
      let base : CallsFor reporters some.0 (Err fault) WordsRefused [] None (words_refusal number) = call_refused fault number numbered in
      let own : CallsFor reporters some.0 judged WordsRefused [] None (words_refusal number) =
      subst (λ (j : Result Settings WordsFault). CallsFor reporters some.0 j WordsRefused [] None (words_refusal number)) is base in
      record { input = some.0; had = some.1; called_for = rw (status, front, none, text) own }

  module _ (settings : Settings) where
    called : (asked : Settings) (s : Status) (f : List Event) (k : Option Held) (x input : List ℕ) → settings ≡ asked → IsInput left input → CallsFor reporters input (Ok asked) s f k x
        → Called reporters (Ok settings) left s f k x
    called asked s f k x input is had answer =
        record { input = input; had = had; called_for = subst (λ (a : Settings). CallsFor reporters input (Ok a) s f k x) (sym is) answer }

    pub called_grown : (growers : ℕ) (places : List ℕ) (input : Input) (s : Status) (f : List Event) (k : Option Held) (x : List ℕ) → settings ≡ Grow growers places
        → ((xs : List ℕ) × IsInput left xs × (input ≡ judged_input xs)) → CallsForGraph reporters places input s f k x → Called reporters (Ok settings) left s f k x
    called_grown growers places input s f k x this (xs, had, judged) grows =
        called (Grow growers places) s f k x xs this had
        (call_grow growers places s f k x (subst (λ (i : Input). CallsForGraph reporters places i s f k x) judged grows))

    pub called_sampled : (growers number : ℕ) (s : Status) (f : List Event) (k : Option Held) (x : List ℕ) → settings ≡ Sample growers number → CallsForSample number s f k x
        → Called reporters (Ok settings) left s f k x
    called_sampled growers number s f k x this samples =
        let some = some_input left in called (Sample growers number) s f k x some.0 this some.1 (call_sample growers number s f k x samples)

    pub called_counted : (shape : ShapeType) (s : Status) (f : List Event) (k : Option Held) (x : List ℕ) → settings ≡ Census shape → f ≡ [] → k ≡ None → CallsForCensus shape s x
        → Called reporters (Ok settings) left s f k x
    called_counted shape s f k x this front none counts =
        let some = some_input left in
        let base : CallsFor reporters some.0 (Ok (Census shape)) s [] None x = call_census shape s x counts in
        called (Census shape) s f k x some.0 this some.1 (rw (front, none) base)

    pub called_compared : (r : Relabelling) (input : Input) (s : Status) (f : List Event) (k : Option Held) (x : List ℕ) → settings ≡ Match r → f ≡ [] → k ≡ None
        → ((xs : List ℕ) × IsInput left xs × (input ≡ judged_input xs)) → CallsForMatch r input s x → Called reporters (Ok settings) left s f k x
    called_compared r input s f k x this front none (xs, had, judged) compares =
        let base : CallsFor reporters xs (Ok (Match r)) s [] None x = call_match r s x (subst (λ (i : Input). CallsForMatch r i s x) judged compares) in
        called (Match r) s f k x xs this had (rw (front, none) base)

    pub called_widened : (growers : ℕ) (input : Input) (s : Status) (f : List Event) (k : Option Held) (x : List ℕ) → settings ≡ Wide growers → f ≡ [] → k ≡ None
        → ((xs : List ℕ) × IsInput left xs × (input ≡ judged_input xs)) → CallsForWide input s x → Called reporters (Ok settings) left s f k x
    called_widened growers input s f k x this front none (xs, had, judged) widens =
        let base : CallsFor reporters xs (Ok (Wide growers)) s [] None x = call_wide growers s x (subst (λ (i : Input). CallsForWide i s x) judged widens) in
        called (Wide growers) s f k x xs this had (rw (front, none) base)

-- the same for other words for what was judged
pub called_as : {E : Type 0} (reporters : List Reporter) (left : Option (List ℕ)) (own judged : Result Settings WordsFault) (result : Result Answered E) → own ≡ judged
    → IfOk result (λ a. Called reporters own left a.status a.front a.held (answer_bytes a.answer)) → IfOk result (λ a. Called reporters judged left a.status a.front a.held (answer_bytes a.answer))
called_as reporters left own judged result is called =
    subst (λ (j : Result Settings WordsFault). IfOk result (λ a. Called reporters j left a.status a.front a.held (answer_bytes a.answer))) is called

-- ---- what was read

none_taken : (n : ℕ) (left : Option (List ℕ)) → TakesAtMost n left left
none_taken n None = record { taken = []; many = omega arith; gone = tt }
none_taken n (Some left) = record { taken = []; many = omega arith; gone = refl }

-- a source that is as it was, where the words ask for no job, or the call came to nothing
module _ {S : Type 0} (left : S → Option (List ℕ)) (faults : S → ℕ) (judged : Result Settings WordsFault) (before after : S) (done failed : Type 0) where
  pub read_nothing : after ≡ before → (asks_for_job judged ≡ true → done → ⊥) → (failed → ⊥) → HasRead left faults judged before after done failed
  read_nothing same undone never = record {
    alone = λ _. same;
    whole = λ asked is_done. absurd (undone asked is_done);
    most = rw same (none_taken (most_job_bytes + 1) (left before));
    fault = λ f. absurd (never f);
    later = rw same (omega arith);
  }

  pub read_unasked : asks_for_job judged ≡ false → after ≡ before → (failed → ⊥) → HasRead left faults judged before after done failed
  read_unasked unasked same never = read_nothing same (λ asked is_done. true≢false (sym asked ∙ unasked)) never

-- an answer is no fault
no_fault : {T E : Type 0} (answer : T) (fault : E) → IsErrOf (Ok answer) fault → ⊥
no_fault answer fault is = cc

-- refused words ask for no job
pub read_refused : {T E S : Type 0} (left : S → Option (List ℕ)) (faults : S → ℕ) (fault : WordsFault) (judged : Result Settings WordsFault) (source : S) (answer : T) (failed : E)
    → Err fault ≡ judged → HasRead left faults judged source source (IsOk {E = E} (Ok answer)) (IsErrOf (Ok answer) failed)
read_refused {E = E} left faults fault judged source answer failed is =
    read_unasked left faults judged source source (IsOk {E = E} (Ok answer)) (IsErrOf (Ok answer) failed) (ap asks_for_job (sym is)) refl (no_fault answer failed)

-- ---- the end

low : (s : Status) → status_number s ≤ 3
low Done = omega arith
low WordsRefused = omega arith
low JobRefused = omega arith
low Full = omega arith

module _ {S K : Type 0} (left : S → Option (List ℕ)) (read_faults : S → ℕ) (kept : K → Option (List ℕ)) (write_faults : K → ℕ)
    (reporters : List Reporter) (words : List (List ℕ)) (source source' : S) (sink sink' : K) (outcome : Outcome) where
  pub run_answered : (status : Status) (front : List Event) (held : Option Held) (text : List ℕ) (done failed : Type 0) → Called reporters (judge_words words (names_of reporters)) (left source) status front held text
      → HasRead left read_faults (judge_words words (names_of reporters)) source source' done failed → done
      → outcome.front ≡ front → outcome.held ≡ held → IsWritten (kept sink) (kept sink') (write_faults sink) (write_faults sink') status text outcome.status → write_faults sink ≤ write_faults sink'
      → IsRun left read_faults kept write_faults reporters words source source' sink sink' outcome
  run_answered status front held text done failed called read is_done same own_held ending later =
      let own : Called reporters (judge_words words (names_of reporters)) (left source) status outcome.front outcome.held text =
      subst (λ (h : Option Held). Called reporters (judge_words words (names_of reporters)) (left source) status outcome.front h text) (sym own_held)
      (subst (λ (f : List Event). Called reporters (judge_words words (names_of reporters)) (left source) status f held text) (sym same) called) in
      let range = low status in
      record {
        written = λ three. elim ending [
          | inl (is, all) ↦ (status, text, is, own, all)
          | inr cut ↦ absurd (omega (arith, three, cut.0))
        ];
        cut = λ five. elim ending [
          | inl whole ↦ absurd (omega (arith, five, whole.0, range))
          | inr (is, rose, n, some) ↦ (rose, status, text, n, own, some)
        ];
        unwritten = λ bad. absurd (elim ending [
          | inl whole ↦ elim bad [ inl four ↦ omega (arith, four, whole.0, range) | inr six ↦ omega (arith, six, whole.0, range) ]
          | inr cut ↦ elim bad [ inl four ↦ omega (arith, four, cut.0) | inr six ↦ omega (arith, six, cut.0) ]
        ]);
        statuses = elim ending [ inl whole ↦ omega (arith, whole.0, range) | inr cut ↦ omega (arith, cut.0) ];
        read = record {
          alone = read.alone;
          whole = λ asked _. read.whole asked is_done;
          most = read.most;
          fault = λ four. absurd (elim ending [ inl whole ↦ omega (arith, four, whole.0, range) | inr cut ↦ omega (arith, four, cut.0) ]);
          later = read.later;
        };
        later = later;
      }
