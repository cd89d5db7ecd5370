-- What the mode `match` answers, case by case, and that it is determined.
use Rattle.std.proofs.Common.{◌≡◌, ◌∙◌, ◌<◌, ◌≤◌, ℕ, List, length, slice_index, Some, None, sym, ap, subst, arith, refl}
use Rattle.job_text.specs.declared.faults.JobWhy.TheVariants.{FewStarts}
use Rattle.job_text.specs.Faults.{why_number}
use Rattle.job_text.specs.declared.jobs.Job.{Job}
use Rattle.answer_text.specs.Texts.{job_refusal}
use Rattle.answer_text.specs.Answers.{answer_bytes, match_text, verdict_line}
use Rattle.answer_text.specs.declared.answers.Answer.{Answer}
use Rattle.crystal_cartan.specs.Types.{CartanType}
use Rattle.tensor_words.specs.Spaces.{SpaceType}
use Rattle.crystal_match.specs.Matching.{IsVerdict, PairsOutnumber}
use Rattle.crystal_match.specs.Relabelling.{RelabelType}
use Rattle.crystal_match.specs.Telling.{PointedType, pointed}
use Rattle.crystal_match.specs.declared.comparing.Verdict.{Verdict}
use Rattle.command_words.specs.declared.settings.Relabelling.{Relabelling}
use Rattle.crystal_shell.specs.Modes.Match.{CallsForMatch, marked, match_few, match_full, match_refused, match_verdict, relabel_of}
use Rattle.crystal_shell.specs.declared.inputs.Input.{Input}
use Rattle.crystal_shell.specs.declared.inputs.Input.TheVariants.{Refused, Taken}
use Rattle.crystal_shell.specs.declared.outcomes.Status.{Status}
use Rattle.crystal_shell.specs.declared.outcomes.Status.TheVariants.{Done, Full, JobRefused}
use Rattle.crystal_match.specs.declared.comparing.Verdict.TheVariants.{Same, Differs}
use Rattle.crystal_match.proofs.OneVerdict.{SayTheSame, verdicts_agree}
use Rattle.answer_text.specs.Modes.{differs_line, same_line}
use Rattle.answer_text.specs.declared.answers.Answer.TheVariants as answer

compares_refused : (r : Relabelling) (line fault : ℕ) (s : Status) (x : List ℕ) → s ≡ JobRefused → x ≡ job_refusal line fault → CallsForMatch r (Refused line fault) s x
compares_refused r line fault s x status text =
    let base : CallsForMatch r (Refused line fault) JobRefused (job_refusal line fault) = match_refused line fault in
    rw (status, text) base

compares_few : (r : Relabelling) (job : Job) (s : Status) (x : List ℕ) → length job.starts < 2 → s ≡ JobRefused → x ≡ job_refusal 0 (why_number FewStarts) → CallsForMatch r (Taken job) s x
compares_few r job s x few status text =
    let base : CallsForMatch r (Taken job) JobRefused (job_refusal 0 (why_number FewStarts)) = match_few job few in
    rw (status, text) base

pub refusal_compares : (relabelling : Relabelling) (input : Input) (line fault : ℕ) (s : Status) (a : Answer) → input ≡ Refused line fault
    → s ≡ JobRefused → a ≡ answer.JobRefused line fault → CallsForMatch relabelling input s (answer_bytes a)
refusal_compares relabelling input line fault s a is status told =
    subst (λ (i : Input). CallsForMatch relabelling i s (answer_bytes a)) (sym is)
    (compares_refused relabelling line fault s (answer_bytes a) status (ap answer_bytes told))

pub few_compares : (relabelling : Relabelling) (job : Job) (s : Status) (a : Answer) → length job.starts < 2
    → s ≡ JobRefused → a ≡ answer.JobRefused 0 (why_number FewStarts) → CallsForMatch relabelling (Taken job) s (answer_bytes a)
few_compares relabelling job s a few status told = compares_few relabelling job s (answer_bytes a) few status (ap answer_bytes told)

-- the marks of a job, by other names
pub marks : (r : Relabelling) (job : Job) (space : SpaceType) (a b : ℕ) (t : CartanType) (relabel : RelabelType) → space ≡ job.world.space → a ≡ slice_index job.starts 0
    → b ≡ slice_index job.starts 1 → t ≡ space.cartan → relabel ≡ relabel_of t r → pointed space a b relabel ≡ marked r job
marks r job space a b t relabel here first second kind by =
    let way : relabel ≡ relabel_of job.world.space.cartan r = by ∙ ap (λ (c : CartanType). relabel_of c r) (kind ∙ ap (λ (s : SpaceType). s.cartan) here) in
    λ i. pointed (here i) (first i) (second i) (way i)

module _ (r : Relabelling) (job : Job) (m : PointedType) (limit : ℕ) (t : CartanType) (s : Status) (a : Answer)
    (is : m ≡ marked r job) (cells : limit ≡ job.world.cells) (kind : t ≡ job.world.space.cartan) (two : 2 ≤ length job.starts) where
  fits_job : (PairsOutnumber m limit → ⊥) → PairsOutnumber (marked r job) job.world.cells → ⊥
  fits_job fits more = fits (subst (λ (n : ℕ). PairsOutnumber m n) (sym cells) (subst (λ (p : PointedType). PairsOutnumber p job.world.cells) (sym is) more))

  pub verdict_compares : (verdict : Verdict) → IsVerdict m verdict → (PairsOutnumber m limit → ⊥) → s ≡ Done → a ≡ answer.Comparison t (Some verdict)
      → CallsForMatch r (Taken job) s (answer_bytes a)
  verdict_compares verdict found fits status told =
      let own : IsVerdict (marked r job) verdict = subst (λ (p : PointedType). IsVerdict p verdict) is found in
      let base : CallsForMatch r (Taken job) Done (match_text job.world.space.cartan (verdict_line (Some verdict))) = match_verdict job verdict two own (fits_job fits) in
      rw (status, told, kind) base

  pub many_compares : PairsOutnumber m limit → s ≡ Full → a ≡ answer.Comparison t None → CallsForMatch r (Taken job) s (answer_bytes a)
  many_compares many status told =
      let own : PairsOutnumber (marked r job) job.world.cells = subst (λ (n : ℕ). PairsOutnumber (marked r job) n) cells (subst (λ (p : PointedType). PairsOutnumber p limit) is many) in
      let base : CallsForMatch r (Taken job) Full (match_text job.world.space.cartan (verdict_line None)) = match_full job two own in
      rw (status, told, kind) base

verdict_one : (m : PointedType) (v w : Verdict) → IsVerdict m v → IsVerdict m w → verdict_line (Some v) ≡ verdict_line (Some w)
verdict_one m v w p q = say_one v w (verdicts_agree m v w p q)
  where
    say_one : (v w : Verdict) → SayTheSame v w → verdict_line (Some v) ≡ verdict_line (Some w)
    say_one (Same xs) (Same ys) same = ap same_line same
    say_one (Same xs) (Differs walk) never = absurd never
    say_one (Differs walk) (Same ys) never = absurd never
    say_one (Differs xs) (Differs ys) same = ap differs_line same

pub compares_one : (r : Relabelling) (input : Input) (s t : Status) (x y : List ℕ) → CallsForMatch r input s x → CallsForMatch r input t y → (s ≡ t) × (x ≡ y)
compares_one r input s t x y (match_refused line fault) (match_refused line' fault') = (refl, refl)
compares_one r input s t x y (match_few job few) (match_few job' few') = (refl, refl)
compares_one r input s t x y (match_few job few) (match_verdict job' verdict two found fits) = absurd (omega (arith, few, two))
compares_one r input s t x y (match_few job few) (match_full job' two many) = absurd (omega (arith, few, two))
compares_one r input s t x y (match_verdict job verdict two found fits) (match_few job' few) = absurd (omega (arith, few, two))
compares_one r input s t x y (match_verdict job verdict two found fits) (match_verdict job' other two' found' fits') =
    (refl, ap (match_text job.world.space.cartan) (verdict_one (marked r job) verdict other found found'))
compares_one r input s t x y (match_verdict job verdict two found fits) (match_full job' two' many) = absurd (fits many)
compares_one r input s t x y (match_full job two many) (match_few job' few) = absurd (omega (arith, few, two))
compares_one r input s t x y (match_full job two many) (match_verdict job' verdict two' found fits) = absurd (fits many)
compares_one r input s t x y (match_full job two many) (match_full job' two' many') = (refl, refl)
