-- How far the text of a sample is written.
use Rattle.std.proofs.Common.{◌≡◌, ◌∙◌, refl, sym, ap, subst, ℕ, zero, suc, ◌+◌, ◌*◌, List, [], ◌∷◌, ◌++◌, map, get_or, append_assoc, Result, Ok, Err, arith}
use Rattle.std.specs.Prelude.{codes, is_ok, IsOk, IfOk}
use Rattle.std.specs.List.{flat_map, range_with_len}
use Rattle.std.proofs.lemmas.List.{append-nil, flat_map_more}
use Rattle.std.proofs.lemmas.Grind.{flat_map-append}
use Rattle.std.proofs.lemmas.List.FromFn.{map-range_with_len_more}
use Rattle.crystal_streams.specs.Lines.{ended}
use Rattle.tensor_words.specs.Spaces.{SpaceType}
use Rattle.tensor_words.specs.Codes.{IsWord, code_of, word_of}
use Rattle.tensor_words.proofs.SpaceWords.{word_back}
use Rattle.job_text.specs.declared.jobs.Job.{Job}
use Rattle.job_text.specs.Judge.{judge}
use Rattle.sample_jobs.specs.Samples.{sample_head, next_number, number_behind, index_chosen, lowered, word_at, command_line, session_command, session_lines, sample_session, sample_lines, sample, IsSampleJob}
use Rattle.sample_jobs.proofs.Sessions.{number_goes_on}
use Rattle.sample_jobs.proofs.Heads.{head_is}
use Rattle.sample_jobs.proofs.Jobs.{IsHeadJob, head_judged, samples_judged}

-- ---- a session: its first n commands

pub record IsSessionTo (s : SpaceType) (start : List ℕ) (before : ℕ) (old out w : List ℕ) (x n : ℕ) : Type 0 where
  pub text : out ≡ (old ++ ended (codes "session")) ++ flat_map ended (map (session_command s start before) (range_with_len 0 n))
  pub number : x ≡ number_behind n before
  pub word : w ≡ word_at s start before n
  pub kept : IsWord s w

pub session_begins : (s : SpaceType) (start : List ℕ) (before : ℕ) (old out : List ℕ) → out ≡ old ++ ended (codes "session") → IsWord s start →
    IsSessionTo s start before old out start before 0
unfolding number_behind word_at
session_begins s start before old out is word = record {
  text = is ∙ sym (append-nil (old ++ ended (codes "session")));
  number = refl;
  word = refl;
  kept = word;
}

pub command_written :
    (s : SpaceType) (start : List ℕ) (before : ℕ) (old out w : List ℕ) (x n : ℕ) (line new v : List ℕ) (y : ℕ) →
    IsSessionTo s start before old out w x n → y ≡ next_number x → line ≡ command_line s y w → new ≡ out ++ ended line →
    v ≡ lowered s (index_chosen s.cartan y) w → IsWord s v → IsSessionTo s start before old new v y (n + 1)
unfolding number_behind word_at session_command
command_written s start before old out w x n line new v y so_far next same added moved kept =
    let base = old ++ ended (codes "session") in
    let lines = map (session_command s start before) (range_with_len 0 n) in
    let one : suc n ≡ n + 1 = omega arith in
    let number : y ≡ number_behind (suc n) before = next ∙ ap next_number so_far.number in
    let here : line ≡ session_command s start before n =
    same ∙ ap (λ a. command_line s a w) number ∙ ap (λ u. command_line s (number_behind (suc n) before) u) so_far.word in
    record {
      text =
          added ∙ ap (λ text. text ++ ended line) so_far.text ∙ ap (λ l. (base ++ flat_map ended lines) ++ ended l) here
          ∙ flat_map_more ended base lines (session_command s start before n)
          ∙ ap (λ (ls : List (List ℕ)). base ++ flat_map ended ls) (sym (map-range_with_len_more (session_command s start before) 0 n n (omega arith)));
      number = number ∙ ap (λ k. number_behind k before) one;
      word =
          moved ∙ ap (λ a. lowered s (index_chosen s.cartan a) w) number
          ∙ ap (λ u. lowered s (index_chosen s.cartan (number_behind (suc n) before)) u) so_far.word
          ∙ ap (λ k. word_at s start before k) one;
      kept = kept;
    }

pub session_ends : (s : SpaceType) (start : List ℕ) (before : ℕ) (old out w : List ℕ) (x n : ℕ) → IsSessionTo s start before old out w x n → n ≡ 64 →
    out ≡ old ++ flat_map ended (session_lines s start before)
unfolding session_lines
session_ends s start before old out w x n so_far all =
    so_far.text
    ∙ append_assoc old (ended (codes "session")) (flat_map ended (map (session_command s start before) (range_with_len 0 n)))
    ∙ ap (λ k. old ++ flat_map ended (codes "session" ∷ map (session_command s start before) (range_with_len 0 k))) all

-- ---- a sample: its first n sessions

abbrev pub lines_to : ℕ → ℕ → List (List ℕ)
lines_to number n =
    (codes "crystal-job 1" ∷ (sample_head number).lines) ++ flat_map (sample_session (sample_head number) number) (range_with_len 0 n)

pub record IsSampleTo (number : ℕ) (out : List ℕ) (last n : ℕ) : Type 0 where
  pub text : out ≡ flat_map ended (lines_to number n)
  pub reached : last ≡ number_behind (64 * n) number

pub sample_begins : (number : ℕ) (out : List ℕ) → out ≡ flat_map ended (codes "crystal-job 1" ∷ (sample_head number).lines) → IsSampleTo number out number 0
unfolding number_behind
sample_begins number out is = record {
  text = is ∙ ap (λ (ls : List (List ℕ)). flat_map ended ls) (sym (append-nil (codes "crystal-job 1" ∷ (sample_head number).lines)));
  reached = refl;
}

range_more : (a n j : ℕ) → a + n ≡ j → range_with_len a (n + 1) ≡ range_with_len a n ++ j ∷ []
range_more a zero j at = let same : a ≡ j = omega arith in ap (λ k. k ∷ []) same
range_more a (suc n) j at =
    let next : suc n + 1 ≡ suc (n + 1) = omega arith in
    ap (λ k. range_with_len a k) next ∙ ap (λ rest. a ∷ rest) (range_more (a + 1) n j (omega arith))

pub session_written :
    (number : ℕ) (out : List ℕ) (last n : ℕ) (s : SpaceType) (start new : List ℕ) (after : ℕ) → IsSampleTo number out last n →
    s ≡ (sample_head number).space → start ≡ (sample_head number).start → new ≡ out ++ flat_map ended (session_lines s start last) →
    after ≡ number_behind 64 last → IsSampleTo number new after (n + 1)
unfolding sample_session
session_written number out last n s start new after so_far space word added goes =
    let h = sample_head number in
    let S : ℕ → List (List ℕ) = sample_session h number in
    let A : List (List ℕ) = codes "crystal-job 1" ∷ h.lines in
    let count : 64 + 64 * n ≡ 64 * (n + 1) = omega arith in
    let lines : session_lines s start last ≡ S n =
    ap (λ (t : SpaceType). session_lines t start last) space
    ∙ ap (λ (u : List ℕ). session_lines h.space u last) word
    ∙ ap (λ k. session_lines h.space h.start k) so_far.reached in
    record {
      text =
          added ∙ ap (λ (text : List ℕ). text ++ flat_map ended (session_lines s start last)) so_far.text
          ∙ ap (λ (ls : List (List ℕ)). flat_map ended (lines_to number n) ++ flat_map ended ls) lines
          ∙ sym (flat_map-append ended (lines_to number n) (S n))
          ∙ ap (λ (ls : List (List ℕ)). flat_map ended ls)
          (flat_map_more S A (range_with_len 0 n) n ∙ ap (λ (ks : List ℕ). A ++ flat_map S ks) (sym (range_more 0 n n (omega arith))));
      reached = goes ∙ ap (λ k. number_behind 64 k) so_far.reached ∙ number_goes_on 64 (64 * n) number ∙ ap (λ k. number_behind k number) count;
    }

pub sample_ends : (number : ℕ) (out : List ℕ) (last n : ℕ) → IsSampleTo number out last n → n ≡ 4 → out ≡ sample number
unfolding sample sample_lines
sample_ends number out last n so_far all = so_far.text ∙ ap (λ k. flat_map ended (lines_to number k)) all

-- ---- the head, read as a job

pub head_known : (number : ℕ) (bytes : List ℕ) (j : Job) → bytes ≡ flat_map ended (codes "crystal-job 1" ∷ (sample_head number).lines) → judge bytes ≡ Ok j →
    IsHeadJob number j
head_known number bytes j is told =
    let (k, known) = head_judged number in
    let same : Ok k ≡ Ok j = sym known.judged ∙ ap judge (sym is) ∙ told in
    let job : k ≡ j = cc in
    subst (IsHeadJob number) job known

pub head_ok : (number : ℕ) (bytes : List ℕ) → bytes ≡ flat_map ended (codes "crystal-job 1" ∷ (sample_head number).lines) → IsOk (judge bytes)
head_ok number bytes is = let (j, known) = head_judged number in ap is_ok (ap judge is ∙ known.judged)

pub start_known : (number : ℕ) (j : Job) (code : ℕ) (w : List ℕ) → IsHeadJob number j → code ≡ get_or j.starts 0 0 → w ≡ word_of j.world.space code →
    w ≡ (sample_head number).start
start_known number j code w known at is =
    let h = sample_head number in
    let first : code ≡ code_of h.space h.start = at ∙ ap (λ (cs : List ℕ). get_or cs 0 0) known.start in
    is ∙ ap (λ k. word_of j.world.space k) first ∙ ap (λ (s : SpaceType). word_of s (code_of h.space h.start)) known.space
    ∙ word_back h.space h.start (head_is number).word

-- ---- a sample, read as a job

pub sample_ok : (number : ℕ) (bytes : List ℕ) → bytes ≡ sample number → IsOk (judge bytes)
sample_ok number bytes is = let (j, known) = samples_judged number in ap is_ok (ap judge is ∙ known.judged)

sample_known : (number : ℕ) (bytes : List ℕ) (j : Job) → bytes ≡ sample number → judge bytes ≡ Ok j → IsSampleJob number j
sample_known number bytes j is told =
    let (k, known) = samples_judged number in
    let same : Ok k ≡ Ok j = sym known.judged ∙ ap judge (sym is) ∙ told in
    let job : k ≡ j = cc in
    subst (IsSampleJob number) job known

pub sample_read : {E : Type 0} (number : ℕ) (bytes : List ℕ) (r : Result Job E) → bytes ≡ sample number → IfOk r (λ j. judge bytes ≡ Ok j) →
    IfOk r (IsSampleJob number)
sample_read number bytes (Ok j) is told = sample_known number bytes j is told
sample_read number bytes (Err e) is told = tt
