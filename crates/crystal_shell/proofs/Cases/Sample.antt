-- What the mode `sample` answers, and that it is determined.
use Rattle.std.proofs.Common.{◌≡◌, ◌∙◌, ℕ, List, Option, Some, None, Ok, sym, ap, subst, refl, ap₂, Contains}
use Rattle.canonical_graph.specs.Graphs.{FinishedType}
use Rattle.graph_history.specs.declared.event.Event.{Event}
use Rattle.job_text.specs.Judge.{judge}
use Rattle.sample_jobs.specs.Samples.{sample}
use Rattle.job_text.specs.declared.jobs.Job.{Job}
use Rattle.session_desk.specs.declared.reply.Reply.{Reply}
use Rattle.answer_text.specs.Texts.{graph_head, full_line}
use Rattle.answer_text.specs.Answers.{sample_answer, sizes_line}
use Rattle.crystal_cartan.specs.Types.{CartanType}
use Rattle.graph_runs.specs.Runs.{EndsRun, Holds, IsHistory}
use Rattle.graph_runs.specs.declared.run.Held.{Held}
use Rattle.crystal_shell.specs.Modes.Sample.{CallsForSample, run_status, sample_full, sample_whole}
use Rattle.crystal_shell.specs.declared.outcomes.Status.{Status}
use Rattle.crystal_shell.specs.declared.outcomes.Status.TheVariants.{Done, Full}
use Rattle.crystal_shell.proofs.Histories.{ended_graph}
use Rattle.crystal_shell.specs.Modes.Grow.{IsRunOf}
use Rattle.graph_history.specs.declared.event.Act.TheVariants.{Spent}
use Rattle.graph_history.proofs.Components.{spent_outnumbers}
use Rattle.crystal_shell.proofs.Cases.Grow.{AreOne, ended_both, ended_one}

pub run_sampled : (number : ℕ) (job : Job) (graph : Option FinishedType) (front : List Event) (held : Held) (told : List (List Reply)) (s : Status) (t : CartanType)
    → judge (sample number) ≡ Ok job → IsHistory job.world job.starts job.scripts front told → EndsRun job.world front graph → Holds job.world held.graph held.seat front
    → s ≡ run_status graph → t ≡ job.world.space.cartan → CallsForSample number s front (Some held) (sample_answer number t 4 256 (sizes_line graph))
run_sampled number job (Some f) front held told s t judged history ends holds status kind =
    let base : CallsForSample number Done front (Some held) (sample_answer number job.world.space.cartan 4 256 (graph_head f)) =
    sample_whole job f front held told judged (record { history = history; ends = ends; holds = holds }) in
    rw (status, kind) base
run_sampled number job None front held told s t judged history ends holds status kind =
    let base : CallsForSample number Full front (Some held) (sample_answer number job.world.space.cartan 4 256 full_line) =
    sample_full job front held told judged (record { history = history; ends = ends; holds = holds }) in
    rw (status, kind) base

-- the job of a sample
jobs_one : (number : ℕ) (job job' : Job) → judge (sample number) ≡ Ok job → judge (sample number) ≡ Ok job' → job' ≡ job
jobs_one number job job' p q =
    let both : Ok job' ≡ Ok job = sym q ∙ p in
    cc

pub samples_one : (number : ℕ) (s t : Status) (f g : List Event) (k l : Option Held) (x y : List ℕ) → CallsForSample number s f k x → CallsForSample number t g l y → AreOne s t f g x y
samples_one number s t f g k l x y (sample_whole job a front held told judged run) (sample_whole job' b front' held' told' judged' run') =
    let own : IsRunOf job (Some b) front' held' told' = subst (λ (j : Job). IsRunOf j (Some b) front' held' told') (jobs_one number job job' judged judged') run' in (
      refl,
      λ same. ap₂ (λ (h : FinishedType) (j : Job). sample_answer number j.world.space.cartan 4 256 (graph_head h)) (ended_one job a b front front' held held' told told' run own)
          (sym (jobs_one number job job' judged judged')),
    )
samples_one number s t f g k l x y (sample_whole job a front held told judged run) (sample_full job' front' held' told' judged' run') =
    let own : IsRunOf job None front' held' told' = subst (λ (j : Job). IsRunOf j None front' held' told') (jobs_one number job job' judged judged') run' in
    absurd (ended_both job a front front' held held' told told' run own)
samples_one number s t f g k l x y (sample_full job front held told judged run) (sample_whole job' b front' held' told' judged' run') =
    let own : IsRunOf job (Some b) front' held' told' = subst (λ (j : Job). IsRunOf j (Some b) front' held' told') (jobs_one number job job' judged judged') run' in
    absurd (ended_both job b front' front held' held told' told own run)
samples_one number s t f g k l x y (sample_full job front held told judged run) (sample_full job' front' held' told' judged' run') =
    (refl, λ same. ap (λ (j : Job). sample_answer number j.world.space.cartan 4 256 full_line) (sym (jobs_one number job job' judged judged')))

pub samples_unspent : (number : ℕ) (f : List Event) (k : Option Held) (y : List ℕ) (n x : ℕ) → CallsForSample number Done f k y → Contains f (record { caller = n; act = Spent x }) → ⊥
samples_unspent number f k y n x (sample_whole job g front held told judged run) there =
    (ended_graph job.world front g run.ends).fits (spent_outnumbers job.world front n x run.history.legal there)
