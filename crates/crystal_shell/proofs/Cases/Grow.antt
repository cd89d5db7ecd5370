-- What the mode `grow` answers, case by case, and that it is determined.
use Rattle.std.proofs.Common.{◌≡◌, ◌∙◌, ◌<◌, ℕ, List, [], length, slice_index, Option, Some, None, sym, ap, subst, arith, refl, ap₂, ◌+◌, get_or, slice_index_or, Contains}
use Rattle.canonical_graph.specs.Graphs.{FinishedType, finished_graph}
use Rattle.graph_history.specs.declared.event.Event.{Event}
use Rattle.job_text.specs.declared.jobs.Job.{Job}
use Rattle.session_desk.specs.declared.reply.Reply.{Reply}
use Rattle.answer_text.specs.Texts.{job_refusal}
use Rattle.answer_text.specs.Answers.{answer_bytes, asks_text, full_text, reports_text, whole_text}
use Rattle.answer_text.specs.declared.answers.Answer.{Answer}
use Rattle.answer_text.specs.declared.answers.Whole.{Whole}
use Rattle.ask_answers.specs.Answers.{AreAnswers}
use Rattle.tensor_words.specs.Spaces.{SpaceType}
use Rattle.crystal_characters.specs.Items.{items_of}
use Rattle.crystal_shell.specs.Statistics.{AreReports, Reporter, statistics_text}
use Rattle.graph_runs.specs.Runs.{EndsRun, Holds, IsHistory}
use Rattle.graph_runs.specs.declared.run.Held.{Held}
use Rattle.crystal_shell.proofs.Parts.{reports_told}
use Rattle.crystal_shell.specs.Modes.Grow.{CallsForGraph, grow_full, grow_refused, grow_whole, IsRunOf}
use Rattle.crystal_shell.specs.declared.inputs.Input.{Input}
use Rattle.crystal_shell.specs.declared.inputs.Input.TheVariants.{Refused, Taken}
use Rattle.crystal_shell.specs.declared.outcomes.Status.{Status}
use Rattle.crystal_shell.specs.declared.outcomes.Status.TheVariants.{Done, Full, JobRefused}
use Rattle.std.proofs.lemmas.List.{ext_get_or}
use Rattle.tensor_words.proofs.Walks.{component_list_is_unique}
use Rattle.tensor_words.specs.Worlds.{WorldType}
use Rattle.graph_history.specs.History.{calls}
use Rattle.job_text.specs.declared.commands.Command.{Command}
use Rattle.session_desk.specs.Replies.{replies}
use Rattle.answer_text.proofs.OneAnswer.{answers_one}
use Rattle.ask_answers.specs.declared.values.AskAnswer.{AskAnswer}
use Rattle.crystal_shell.proofs.Histories.{IsGraph, ended_full, ended_graph}
use Rattle.graph_history.specs.declared.event.Act.TheVariants.{Spent}
use Rattle.graph_history.proofs.Components.{spent_outnumbers}
use Rattle.answer_text.specs.declared.answers.Answer.TheVariants as answer

grows_refused : (reporters : List Reporter) (places : List ℕ) (line fault : ℕ) (s : Status) (f : List Event) (k : Option Held) (x : List ℕ) → s ≡ JobRefused → f ≡ [] → k ≡ None
    → x ≡ job_refusal line fault → CallsForGraph reporters places (Refused line fault) s f k x
grows_refused reporters places line fault s f k x status front none text =
    let base : CallsForGraph reporters places (Refused line fault) JobRefused [] None (job_refusal line fault) = grow_refused line fault in
    rw (status, front, none, text) base

pub refusal_grows : (reporters : List Reporter) (places : List ℕ) (input : Input) (line fault : ℕ) (s : Status) (f : List Event) (k : Option Held) (a : Answer) → input ≡ Refused line fault
    → s ≡ JobRefused → f ≡ [] → k ≡ None → a ≡ answer.JobRefused line fault → CallsForGraph reporters places input s f k (answer_bytes a)
refusal_grows reporters places input line fault s f k a is status front none told =
    subst (λ (i : Input). CallsForGraph reporters places i s f k (answer_bytes a)) (sym is)
    (grows_refused reporters places line fault s f k (answer_bytes a) status front none (ap answer_bytes told))

pub whole_grows : (reporters : List Reporter) (places : List ℕ) (job : Job) (f : FinishedType) (start : ℕ) (front : List Event) (held : Held) (told : List (List Reply)) (whole : Whole)
    → IsHistory job.world job.starts job.scripts front told → EndsRun job.world front (Some f) → Holds job.world held.graph held.seat front
    → start ≡ slice_index job.starts 0 → whole.finished ≡ f → AreReports reporters places (items_of f) whole.reports.items → AreAnswers f start job.asks whole.asks.items
    → CallsForGraph reporters places (Taken job) Done front (Some held) (whole_text whole.finished told (reports_text whole.reports.items) (asks_text whole.finished whole.asks.items))
whole_grows reporters places job f start front held told whole history ends holds at same reports asked =
    let base : CallsForGraph reporters places (Taken job) Done front (Some held) (whole_text f told (statistics_text reporters places (items_of f)) (asks_text f whole.asks.items)) =
    grow_whole job f front held told whole.asks.items (record { history = history; ends = ends; holds = holds }) (subst (λ (c : ℕ). AreAnswers f c job.asks whole.asks.items) at asked) in
    rw (same, reports_told reporters places (items_of f) whole.reports.items reports) base

pub full_grows : (reporters : List Reporter) (places : List ℕ) (job : Job) (space : SpaceType) (front : List Event) (held : Held) (told : List (List Reply))
    → IsHistory job.world job.starts job.scripts front told → EndsRun job.world front None → Holds job.world held.graph held.seat front
    → space ≡ job.world.space → CallsForGraph reporters places (Taken job) Full front (Some held) (full_text space told)
full_grows reporters places job space front held told history ends holds here =
    let base : CallsForGraph reporters places (Taken job) Full front (Some held) (full_text job.world.space told) =
    grow_full job front held told (record { history = history; ends = ends; holds = holds }) in
    rw here base

-- what is determined of two answers
abbrev pub AreOne : Status → Status → List Event → List Event → List ℕ → List ℕ → Type 0
AreOne s t f g x y = (s ≡ t) × (f ≡ g → x ≡ y)

-- the replies of a history
replies_one : (w : WorldType) (starts : List ℕ) (scripts : List (List Command)) (f g : List Event) (told others : List (List Reply)) → f ≡ g
    → IsHistory w starts scripts f told → IsHistory w starts scripts g others → told ≡ others
replies_one w starts scripts f g told others same p q = ext_get_or [] told others (p.count ∙ sym q.count) (λ k below.
    let within : k < length scripts = omega (arith, below, p.count) in
    let front : replies w.space (slice_index_or scripts k []) (calls f (k + 1)) ≡ replies w.space (slice_index_or scripts k []) (calls g (k + 1)) =
    ap (λ (h : List Event). replies w.space (slice_index_or scripts k []) (calls h (k + 1))) same in
    let both : Some (get_or told k []) ≡ Some (get_or others k []) = sym (p.replied k within) ∙ front ∙ q.replied k within in
    cc)

-- the graph of a world
graphs_one : (w : WorldType) (f g : FinishedType) → IsGraph w f → IsGraph w g → f ≡ g
graphs_one w f g p q =
    ap₂ finished_graph (p.space ∙ sym q.space) (component_list_is_unique w f.codes g.codes p.list q.list)

whole_one : (reporters : List Reporter) (places : List ℕ) (job : Job) (f g : FinishedType) (told others : List (List Reply)) (answers more : List AskAnswer) → f ≡ g → told ≡ others
    → AreAnswers f (slice_index job.starts 0) job.asks answers → AreAnswers g (slice_index job.starts 0) job.asks more
    → whole_text f told (statistics_text reporters places (items_of f)) (asks_text f answers) ≡ whole_text g others (statistics_text reporters places (items_of g)) (asks_text g more)
whole_one reporters places job f g told others answers more same alike p q =
    let asked : AreAnswers g (slice_index job.starts 0) job.asks answers = subst (λ (h : FinishedType). AreAnswers h (slice_index job.starts 0) job.asks answers) same p in
    let one : asks_text g answers ≡ asks_text g more = answers_one g (slice_index job.starts 0) job.asks answers more asked q in
    ap (λ (h : FinishedType). whole_text h told (statistics_text reporters places (items_of h)) (asks_text h answers)) same
    ∙ ap₂ (λ (t : List (List Reply)) (a : List ℕ). whole_text g t (statistics_text reporters places (items_of g)) a) alike one

-- two runs of a job
pub ended_one : (job : Job) (f g : FinishedType) (front front' : List Event) (held held' : Held) (told told' : List (List Reply)) → IsRunOf job (Some f) front held told → IsRunOf job (Some g) front' held' told' → f ≡ g
ended_one job f g front front' held held' told told' p q = graphs_one job.world f g (ended_graph job.world front f p.ends) (ended_graph job.world front' g q.ends)

told_one : (job : Job) (o o' : Option FinishedType) (front front' : List Event) (held held' : Held) (told told' : List (List Reply)) → front ≡ front'
    → IsRunOf job o front held told → IsRunOf job o' front' held' told' → told ≡ told'
told_one job o o' front front' held held' told told' same p q = replies_one job.world job.starts job.scripts front front' told told' same p.history q.history

pub ended_both : (job : Job) (f : FinishedType) (front front' : List Event) (held held' : Held) (told told' : List (List Reply)) → IsRunOf job (Some f) front held told → IsRunOf job None front' held' told' → ⊥
ended_both job f front front' held held' told told' p q = (ended_graph job.world front f p.ends).fits (ended_full job.world front' q.ends)

pub grows_one : (reporters : List Reporter) (places : List ℕ) (input : Input) (s t : Status) (f g : List Event) (k l : Option Held) (x y : List ℕ) → CallsForGraph reporters places input s f k x
    → CallsForGraph reporters places input t g l y → AreOne s t f g x y
grows_one reporters places input s t f g k l x y (grow_refused line fault) (grow_refused line' fault') = (refl, λ same. refl)
grows_one reporters places input s t f g k l x y (grow_whole job a front held told answers run asked) (grow_whole job' b front' held' told' answers' run' asked') = (
  refl,
  λ same. whole_one reporters places job a b told told' answers answers' (ended_one job a b front front' held held' told told' run run')
      (told_one job (Some a) (Some b) front front' held held' told told' same run run') asked asked',
)
grows_one reporters places input s t f g k l x y (grow_whole job a front held told answers run asked) (grow_full job' front' held' told' run') =
    absurd (ended_both job a front front' held held' told told' run run')
grows_one reporters places input s t f g k l x y (grow_full job front held told run) (grow_whole job' b front' held' told' answers' run' asked') =
    absurd (ended_both job b front' front held' held told' told run' run)
grows_one reporters places input s t f g k l x y (grow_full job front held told run) (grow_full job' front' held' told' run') =
    (refl, λ same. ap (full_text job.world.space) (told_one job None None front front' held held' told told' same run run'))

pub grows_unspent : (reporters : List Reporter) (places : List ℕ) (input : Input) (f : List Event) (k : Option Held) (y : List ℕ) (n x : ℕ) →
    CallsForGraph reporters places input Done f k y → Contains f (record { caller = n; act = Spent x }) → ⊥
grows_unspent reporters places input f k y n x (grow_whole job g front held told answers run asked) there =
    (ended_graph job.world front g run.ends).fits (spent_outnumbers job.world front n x run.history.legal there)
