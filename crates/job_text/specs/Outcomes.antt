-- What calls give, against the judgement; want of memory is free.
use Rattle.std.specs.Prelude.{ℕ, ◌≡◌, Result, Ok, Err}
use Rattle.job_text.specs.declared.faults.JobWhy.{JobWhy}
use Rattle.job_text.specs.declared.faults.Stop.{Stop}
use Rattle.job_text.specs.declared.faults.Stop.TheVariants as stop
use Rattle.job_text.specs.declared.faults.JobFault.{JobFault}
use Rattle.job_text.specs.declared.faults.JobFault.TheVariants.{At, NoMemory}
use Rattle.job_text.specs.Faults.{Refusal}

-- a part of a line gives what it is judged to give, or its fault
abbrev pub Gives : {T : Type 0} → Result T Stop → Result T JobWhy → Type 0
Gives (Ok x) judged = judged ≡ Ok x
Gives (Err (stop.Why why)) judged = judged ≡ Err why
Gives (Err stop.NoMemory) judged = Unit {0}

-- a line, or a whole text, gives what it is judged to give, or its first fault
abbrev pub GivesAtLine : {T : Type 0} → Result T JobFault → Result T Refusal → Type 0
GivesAtLine (Ok x) judged = judged ≡ Ok x
GivesAtLine (Err (At line why)) judged = judged ≡ Err (record { line = line; why = why })
GivesAtLine (Err NoMemory) judged = Unit {0}

-- the fault of a job whose line stops so
abbrev pub fault_at : ℕ → Stop → JobFault
fault_at line (stop.Why why) = At line why
fault_at line stop.NoMemory = NoMemory
