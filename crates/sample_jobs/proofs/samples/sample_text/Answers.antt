use Rattle.std.proofs.Common.{◌≡◌, ◌∙◌, ◌≤◌, ℕ, List, length, sym, ap, subst, arith}
use Rattle.tensor_words.specs.Spaces.{SpaceType}
use Rattle.tensor_words.specs.Codes.{word_of}
use Rattle.job_text.specs.Jobs.{most_job_bytes}
use Rattle.sample_jobs.proofs.Jobs.{head_length}
use Rattle.sample_jobs.proofs.Writing.{IsSampleTo, sample_begins, session_written, sample_ends, head_known, head_ok, start_known}
use Rattle.sample_jobs.proofs.samples.sample_text.Goals as goal

pub sure_job-requires-clause-short : goal.sure_job-requires-clause-short
sure_job-requires-clause-short c = subst (λ (bytes : List ℕ). length bytes ≤ most_job_bytes) (sym c.head_text.ensures) (head_length c.args.number)

pub sure_job-requires-clause-judged : goal.sure_job-requires-clause-judged
sure_job-requires-clause-judged c = head_ok c.args.number c.head_text.result.now c.head_text.ensures

pub sessions-init : goal.sessions-init
sessions-init c =
    subst (λ k. IsSampleTo c.args.number c.in_ok-text.text.items k 0) (sym c.from-last.ensures)
    (sample_begins c.args.number c.in_ok-text.text.items (c.in_ok-text.ensures.items ∙ c.head_text-2.ensures))

pub sessions-preserved : goal.sessions-preserved
sessions-preserved c =
    let number = c.args.number in
    let job = c.in_ok-head.head in
    let known = head_known number c.head_text.result.now job c.head_text.ensures c.in_ok-head.ensures.told in
    let word : c.word_with-start.result ≡ word_of job.world.space c.at.result.now =
    c.word_with-start.ensures.value ∙ ap (λ (s : SpaceType). word_of s c.at.result.now) c.space-space.ensures.space in
    session_written number c.sessions.text.items c.sessions.last c.sessions.counter c.space-space.result.now c.word_with-start.result
    c.put_session.new.text.items c.in_ok-last.last c.sessions.invariant (c.space-space.ensures.space ∙ known.space)
    (start_known number job c.at.result.now c.word_with-start.result known (c.at.ensures.value 0) word) c.in_ok-last.ensures.text c.in_ok-last.ensures.last

pub returns : goal.returns
returns c = sample_ends c.args.number c.sessions.text.items c.sessions.last c.sessions.counter c.sessions.invariant (omega arith)
