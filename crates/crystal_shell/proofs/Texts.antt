-- What an input says.
use Rattle.std.proofs.Common.{◌≡◌, ◌∙◌, ◌<◌, ◌+◌, ℕ, zero, suc, Bool, cond, refl, sym, ap, List, [], ◌∷◌, length, Option, Some, None, IfSome, Err, arith}
use Rattle.std.proofs.lemmas.Bool.{lt-ltb}
use Rattle.job_text.specs.Jobs.{most_job_bytes}
use Rattle.job_text.specs.Judge.{judge}
use Rattle.job_text.specs.Outcomes.{GivesAtLine}
use Rattle.job_text.specs.declared.faults.JobFault.TheVariants.{At}
use Rattle.job_text.specs.declared.faults.JobWhy.TheVariants.{TooLong}
use Rattle.job_text.specs.declared.faults.JobWhy.{JobWhy}
use Rattle.job_text.specs.Faults.{why_number}
use Rattle.crystal_shell.specs.Inputs.{IsInput, by_number, judged_input}
use Rattle.crystal_shell.specs.declared.inputs.Input.TheVariants.{Refused}

long_judged : (input : List ℕ) → most_job_bytes < length input → Refused 0 (why_number TooLong) ≡ judged_input input
long_judged input long = sym (ap (λ (b : Bool). cond b (Refused 0 (why_number TooLong)) (by_number (judge input))) (lt-ltb most_job_bytes (length input) long))

some_long : (n : ℕ) → (input : List ℕ) × (length input ≡ n)
some_long zero = ([], refl)
some_long (suc n) = let s = some_long n in (0 ∷ s.0, omega (arith, s.1))

pub long_input : (left : Option (List ℕ)) → IfSome left (λ l. most_job_bytes < length l) → (input : List ℕ) × IsInput left input × (Refused 0 (why_number TooLong) ≡ judged_input input)
long_input None long =
    let some = some_long (most_job_bytes + 1) in
    (some.0, tt, long_judged some.0 (omega (arith, some.1)))
long_input (Some left) long = (left, refl, long_judged left long)

pub fault_judged : (input : List ℕ) (line number : ℕ) (why : JobWhy) → number ≡ why_number why
    → GivesAtLine (Err (At line why)) (judge input) → Refused line number ≡ by_number (judge input)
fault_judged input line number why is told = ap (Refused line) is ∙ sym (ap by_number told)
