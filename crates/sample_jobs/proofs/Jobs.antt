-- Every sample is a job.
use Rattle.std.proofs.Common.{◌≡◌, ◌∙◌, refl, ap, ℕ, ◌*◌, ◌≤◌, true, List, [], ◌∷◌, ◌++◌, length, length-append, Ok, arith}
use Rattle.std.proofs.lemmas.List.Elements.{All-nil, All-cons}
use Rattle.std.specs.Prelude.{codes}
use Rattle.std.specs.List.{flat_map, list_all}
use Rattle.crystal_streams.specs.Lines.{ended}
use Rattle.tensor_words.specs.Codes.{code_of}
use Rattle.job_text.specs.declared.commands.Command.{Command}
use Rattle.job_text.specs.declared.drafts.Stage.{Stage}
use Rattle.job_text.specs.declared.drafts.Stage.TheVariants.{Unread, Headed}
use Rattle.job_text.specs.declared.keys.JobPart.{JobPart}
use Rattle.job_text.specs.declared.keys.JobPart.TheVariants as part
use Rattle.job_text.specs.declared.jobs.Job.{Job}
use Rattle.job_text.specs.Drafts.{job_of}
use Rattle.job_text.specs.Jobs.{most_job_bytes}
use Rattle.job_text.specs.Judge.{judge, at_end}
use Rattle.sample_jobs.specs.Samples.{SampleHead, sample_head, number_behind, session_lines, sample_session, sample_lines, sample, SamplesAreJobs, SamplesAreShort}
use Rattle.sample_jobs.proofs.Lines.{after_lines, after_append, is_plain, text_judged, text_length, plain_append}
use Rattle.sample_jobs.proofs.Commands.{progress}
use Rattle.sample_jobs.proofs.Sessions.{scripted, session_script, script_length, four_lead, session_plain, session_length}
use Rattle.sample_jobs.proofs.Heads.{IsHead, head_draft, head_is}

-- a draft with a start ends in its job
ends : (h : SampleHead) (is : IsHead h) (scripts : List (List Command)) (p : JobPart) →
    at_end (Headed (progress p (scripted (head_draft h is.top is.starts is.cells) scripts))) ≡ Ok (job_of (scripted (head_draft h is.top is.starts is.cells) scripts))
unfolding at_end
ends h is scripts p = rw is.begun refl

-- the job of a head alone
pub record IsHeadJob (number : ℕ) (j : Job) : Type 0 where
  pub judged : judge (flat_map ended (codes "crystal-job 1" ∷ (sample_head number).lines)) ≡ Ok j
  pub space : j.world.space ≡ (sample_head number).space
  pub start : j.starts ≡ code_of (sample_head number).space (sample_head number).start ∷ []

pub head_judged : (number : ℕ) → (j : Job) × IsHeadJob number j
head_judged number =
    let h = sample_head number in
    let is = head_is number in
    let d = head_draft h is.top is.starts is.cells in (
      job_of d,
      record {
        judged = text_judged (codes "crystal-job 1" ∷ h.lines) (Headed (progress part.Head d)) (job_of d) is.plain is.leads (ends h is [] part.Head);
        space = refl;
        start = is.first;
      },
    )

pub head_length : (number : ℕ) → length (flat_map ended (codes "crystal-job 1" ∷ (sample_head number).lines)) ≤ most_job_bytes
head_length number =
    let is = head_is number in
    omega (arith, text_length (codes "crystal-job 1" ∷ (sample_head number).lines) is.plain, is.few)

-- the lines of the four sessions
abbrev four_lines : SampleHead → ℕ → List (List ℕ)
four_lines h number =
    session_lines h.space h.start (number_behind (64 * 0) number)
    ++ (session_lines h.space h.start (number_behind (64 * 1) number)
    ++ (session_lines h.space h.start (number_behind (64 * 2) number)
    ++ (session_lines h.space h.start (number_behind (64 * 3) number) ++ [])))

lines_are : (number : ℕ) → sample_lines number ≡ (codes "crystal-job 1" ∷ (sample_head number).lines) ++ four_lines (sample_head number) number
unfolding sample_lines sample_session
lines_are number = refl

lines_plain : (number : ℕ) → list_all is_plain (sample_lines number) ≡ true
lines_plain number =
    let h = sample_head number in
    let is = head_is number in
    let L : ℕ → List (List ℕ) = λ (k : ℕ). session_lines h.space h.start (number_behind (64 * k) number) in
    let plain : (k : ℕ) → list_all is_plain (L k) ≡ true = λ k. session_plain h.space h.start (number_behind (64 * k) number) is.space is.word in
    rw (lines_are number)
    (plain_append (codes "crystal-job 1" ∷ h.lines) (four_lines h number) is.plain
    (plain_append (L 0) (L 1 ++ (L 2 ++ (L 3 ++ []))) (plain 0)
    (plain_append (L 1) (L 2 ++ (L 3 ++ [])) (plain 1)
    (plain_append (L 2) (L 3 ++ []) (plain 2)
    (plain_append (L 3) [] (plain 3) refl)))))

lines_few : (number : ℕ) → length (sample_lines number) ≤ 265
lines_few number =
    let h = sample_head number in
    let is = head_is number in
    let L : ℕ → List (List ℕ) = λ (k : ℕ). session_lines h.space h.start (number_behind (64 * k) number) in
    let count : (k : ℕ) → length (L k) ≡ 65 = λ k. session_length h.space h.start (number_behind (64 * k) number) in
    rw (lines_are number)
    (omega (
      arith,
      length-append (codes "crystal-job 1" ∷ h.lines) (four_lines h number),
      length-append (L 0) (L 1 ++ (L 2 ++ (L 3 ++ []))),
      length-append (L 1) (L 2 ++ (L 3 ++ [])),
      length-append (L 2) (L 3 ++ []),
      length-append (L 3) [],
      count 0,
      count 1,
      count 2,
      count 3,
      is.few,
    ))

pub samples_short : SamplesAreShort
unfolding sample
samples_short number = omega (arith, text_length (sample_lines number) (lines_plain number), lines_few number)

pub samples_judged : SamplesAreJobs
unfolding sample
samples_judged number =
    let h = sample_head number in
    let is = head_is number in
    let d = head_draft h is.top is.starts is.cells in
    let C : ℕ → List Command = λ (k : ℕ). session_script h.space h.start (number_behind (64 * k) number) in
    let P : List Command → Type 0 = λ script. length script ≡ 64 in
    let count : (k : ℕ) → P (C k) = λ k. script_length h.space h.start (number_behind (64 * k) number) in
    let last : Stage = Headed (progress part.Session (scripted d (C 0 ∷ C 1 ∷ C 2 ∷ C 3 ∷ []))) in
    let leads : after_lines (sample_lines number) Unread ≡ Ok last =
    ap (λ lines. after_lines lines Unread) (lines_are number)
    ∙ after_append (codes "crystal-job 1" ∷ h.lines) (four_lines h number) Unread (Headed (progress part.Head d)) is.leads
    ∙ four_lead d h.start (number_behind (64 * 0) number) (number_behind (64 * 1) number) (number_behind (64 * 2) number) (number_behind (64 * 3) number) is.space is.word in (
      job_of (scripted d (C 0 ∷ C 1 ∷ C 2 ∷ C 3 ∷ [])),
      record {
        judged = text_judged (sample_lines number) last (job_of (scripted d (C 0 ∷ C 1 ∷ C 2 ∷ C 3 ∷ []))) (lines_plain number) leads
            (ends h is (C 0 ∷ C 1 ∷ C 2 ∷ C 3 ∷ []) part.Session);
        space = refl;
        start = is.first;
        sessions = refl;
        commands = All-cons P (C 0) (C 1 ∷ C 2 ∷ C 3 ∷ []) (count 0) (All-cons P (C 1) (C 2 ∷ C 3 ∷ []) (count 1) (All-cons P (C 2) (C 3 ∷ []) (count 2) (All-cons P (C 3) [] (count 3) (All-nil P))));
        asks = refl;
      },
    )
