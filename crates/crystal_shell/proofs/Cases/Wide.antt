-- What the mode `wide` answers, case by case.
use Rattle.std.proofs.Common.{◌≡◌, ◌∙◌, ◌<◌, ◌≤◌, ◌+◌, ◌*◌, ◌^◌, ℕ, List, [], ◌∷◌, length, get_or, slice_index, All, Some, None, refl, sym, ap, ap₂, subst, arith}
use Rattle.std.proofs.lemmas.List.Sums.{sum_by-le}
use Rattle.crystal_cartan.specs.Types.{CartanType}
use Rattle.tensor_words.specs.Spaces.{SpaceType, size}
use Rattle.tensor_words.specs.Reach.{Outnumber}
use Rattle.tensor_words.specs.Worlds.{WorldType}
use Rattle.job_text.specs.Jobs.{IsJob}
use Rattle.job_text.specs.declared.jobs.Job.{Job}
use Rattle.wide_words.specs.declared.spaces.WideCode.{WideCode}
use Rattle.wide_words.specs.WideSpaces.{WideSpaceType, IsWide}
use Rattle.wide_words.specs.WideHistory.{WideWorldType, counted}
use Rattle.wide_words.specs.WideCounts.{AreReached, arrows_at}
use Rattle.wide_words.proofs.WideCounting.{arrows_few, counts_are_unique}
use Rattle.wide_growth.specs.Grown.{IsGrownTo}
use Rattle.wide_growth.specs.declared.growing.WideGrown.TheVariants as grown
use Rattle.answer_text.specs.Texts.{full_line, job_refusal}
use Rattle.answer_text.specs.Modes.{wide_line}
use Rattle.answer_text.specs.Answers.{answer_bytes, wide_text}
use Rattle.answer_text.specs.declared.answers.Answer.{Answer}
use Rattle.answer_text.specs.declared.answers.Answer.TheVariants as answer
use Rattle.crystal_shell.specs.Modes.Wide.{CallsForWide, doubled, wide_closed, wide_full, wide_refused}
use Rattle.crystal_shell.specs.declared.inputs.Input.{Input}
use Rattle.crystal_shell.specs.declared.inputs.Input.TheVariants.{Refused, Taken}
use Rattle.crystal_shell.specs.declared.outcomes.Status.{Status}
use Rattle.crystal_shell.specs.declared.outcomes.Status.TheVariants.{Done, Full, JobRefused}

-- ---- refused jobs

widens_refused : (line fault : ℕ) (s : Status) (x : List ℕ) → s ≡ JobRefused → x ≡ job_refusal line fault → CallsForWide (Refused line fault) s x
widens_refused line fault s x status text =
    let base : CallsForWide (Refused line fault) JobRefused (job_refusal line fault) = wide_refused line fault in
    rw (status, text) base

pub refusal_widens : (input : Input) (line fault : ℕ) (s : Status) (a : Answer) → input ≡ Refused line fault
    → s ≡ JobRefused → a ≡ answer.JobRefused line fault → CallsForWide input s (answer_bytes a)
refusal_widens input line fault s a is status told =
    subst (λ (i : Input). CallsForWide i s (answer_bytes a)) (sym is) (widens_refused line fault s (answer_bytes a) status (ap answer_bytes told))

-- ---- the doubled job

abbrev world_of : WideSpaceType → ℕ → List WideCode → WideWorldType
world_of space capacity roots = record { space = space; capacity = capacity; roots = roots }

abbrev code_of : ℕ → WideCode
code_of x = record { high = x; low = x }

-- the doubled job, by other names
pub doubles : (job : Job) (half : SpaceType) (space : WideSpaceType) (cells x : ℕ) (roots : List WideCode) → half ≡ job.world.space → space ≡ record { high = half; low = half }
    → cells ≡ job.world.cells → x ≡ slice_index job.starts 0 → roots ≡ record { high = x; low = x } ∷ [] → record { space = space; capacity = cells; roots = roots } ≡ doubled job
doubles job half space cells x roots here both room start rooted =
    let spaces : space ≡ record { high = job.world.space; low = job.world.space } = both ∙ ap (λ (s : SpaceType). record { high = s; low = s }) here in
    let starts : roots ≡ code_of (slice_index job.starts 0) ∷ [] = rooted ∙ ap (λ (y : ℕ). code_of y ∷ []) start in
    λ i. world_of (spaces i) (room i) (starts i)

-- the first start is a word of the space, and twice a wide word
pub start_below : (job : Job) (x : ℕ) → IsJob job → x ≡ slice_index job.starts 0 → x < size job.world.space
start_below job x is at = subst (λ (c : ℕ). c < size job.world.space) (sym at) (is.starts 0 0 (omega (arith, is.started)))

pub root_is_wide : (job : Job) (half : SpaceType) (space : WideSpaceType) (x : ℕ) → IsJob job → half ≡ job.world.space → space ≡ record { high = half; low = half }
    → x ≡ slice_index job.starts 0 → IsWide space (record { high = x; low = x })
root_is_wide job half space x is here both at =
    let word = start_below job x is at in
    let base : IsWide (record { high = job.world.space; low = job.world.space }) (code_of x) = record { high = word; low = word } in
    rw (both, here) base

-- ---- the counts can be printed

pub counts_fit : (w : WorldType) (vertices arrows : ℕ) → w.space.cartan.rank ≤ 8 → vertices < 2 ^ 32 → AreReached w vertices arrows → arrows < 2 ^ 63
counts_fit w vertices arrows low small reached =
    let few = sum_by-le (arrows_at w.space) 8 reached.codes (λ k d below. omega (arith, arrows_few w.space (get_or reached.codes k d), low)) in
    omega (arith, few, small, reached.many, reached.drawn)

pub counts_printable : (job : Job) (w : WideWorldType) → IsJob job → w ≡ doubled job → (vertices arrows : ℕ) → vertices < 2 ^ 32
    → IsGrownTo w (grown.Closed vertices arrows) → arrows < 2 ^ 63
counts_printable job w is same vertices arrows small found =
    let own : IsGrownTo (doubled job) (grown.Closed vertices arrows) = subst (λ (v : WideWorldType). IsGrownTo v (grown.Closed vertices arrows)) same found in
    counts_fit (counted (doubled job)) vertices arrows is.world.space.cartan.high small own.0

-- ---- the answers

module _ (job : Job) (w : WideWorldType) (t : CartanType) (s : Status) (a : Answer) (is : w ≡ doubled job) (kind : t ≡ job.world.space.cartan) where
  pub closed_widens : (vertices arrows : ℕ) → IsGrownTo w (grown.Closed vertices arrows) → s ≡ Done
      → a ≡ answer.Wide t (Some (record { vertices = vertices; arrows = arrows })) → CallsForWide (Taken job) s (answer_bytes a)
  closed_widens vertices arrows found status told =
      let own : IsGrownTo (doubled job) (grown.Closed vertices arrows) = subst (λ (v : WideWorldType). IsGrownTo v (grown.Closed vertices arrows)) is found in
      let base : CallsForWide (Taken job) Done (wide_text job.world.space.cartan (wide_line vertices arrows)) = wide_closed job vertices arrows own.0 own.1 in
      rw (status, told, kind) base

  pub full_widens : IsGrownTo w grown.Full → s ≡ Full → a ≡ answer.Wide t None → CallsForWide (Taken job) s (answer_bytes a)
  full_widens many status told =
      let own : IsGrownTo (doubled job) grown.Full = subst (λ (v : WideWorldType). IsGrownTo v grown.Full) is many in
      let base : CallsForWide (Taken job) Full (wide_text job.world.space.cartan full_line) = wide_full job own in
      rw (status, told, kind) base

-- ---- the counts are determined

reached_one : (w : WorldType) (v e v' e' : ℕ) → AreReached w v e → AreReached w v' e' → wide_line v e ≡ wide_line v' e'
reached_one w v e v' e' p q =
    let one = counts_are_unique w v e v' e' p q in
    ap₂ wide_line one.0 one.1

pub widens_one : (input : Input) (s t : Status) (x y : List ℕ) → CallsForWide input s x → CallsForWide input t y → (s ≡ t) × (x ≡ y)
widens_one input s t x y (wide_refused line fault) (wide_refused line' fault') = (refl, refl)
widens_one input s t x y (wide_closed job v e reached fits) (wide_closed job' v' e' reached' fits') =
    (refl, ap (wide_text job.world.space.cartan) (reached_one (counted (doubled job)) v e v' e' reached reached'))
widens_one input s t x y (wide_closed job v e reached fits) (wide_full job' more) = absurd (fits more)
widens_one input s t x y (wide_full job more) (wide_closed job' v e reached fits) = absurd (fits more)
widens_one input s t x y (wide_full job more) (wide_full job' more') = (refl, refl)
