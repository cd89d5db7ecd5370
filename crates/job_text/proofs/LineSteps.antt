-- The lines of a text, one after another.
use Rattle.std.proofs.Common.{◌≡◌, refl, ℕ, ◌+◌, List, ◌∷◌, Ok, Err}
use Rattle.text_pieces.specs.Pieces.{pieces}
use Rattle.text_pieces.proofs.Cuts.{some_piece}
use Rattle.job_text.specs.declared.drafts.Stage.{Stage}
use Rattle.job_text.specs.declared.jobs.Job.{Job}
use Rattle.job_text.specs.declared.faults.JobFault.{JobFault}
use Rattle.job_text.specs.declared.faults.JobFault.TheVariants.{At, NoMemory}
use Rattle.job_text.specs.Outcomes.{GivesAtLine}
use Rattle.job_text.specs.Judge.{and_then, at_line, line_made, judged_from}

-- a line that has its end is judged before what follows
line_first : (n : ℕ) (stage : Stage) (line rest : List ℕ) →
    judged_from n stage (line ∷ pieces 10 rest)
    ≡ and_then (at_line n (line_made line stage)) (λ after. judged_from (n + 1) after (pieces 10 rest))
line_first n stage line rest =
    let (first, more, here) = some_piece 10 rest in
    rw here refl

-- a line without a fault leads to the next
pub line_taken : (n : ℕ) (stage after : Stage) (line rest : List ℕ) → GivesAtLine (Ok after) (at_line n (line_made line stage)) →
    judged_from n stage (line ∷ pieces 10 rest) ≡ judged_from (n + 1) after (pieces 10 rest)
line_taken n stage after line rest told = rw (line_first n stage line rest, told) refl

-- the fault of a line is the fault of the text
pub line_refused : (n : ℕ) (stage : Stage) (fault : JobFault) (line rest : List ℕ) →
    GivesAtLine {T = Stage} (Err fault) (at_line n (line_made line stage)) → GivesAtLine {T = Job} (Err fault) (judged_from n stage (line ∷ pieces 10 rest))
line_refused n stage (At m why) line rest told = rw (line_first n stage line rest, told) refl
line_refused n stage NoMemory line rest told = tt
