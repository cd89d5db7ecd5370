-- Answers that are faults.
use Rattle.std.proofs.Common.{Result, Ok, Err, IfErr}

pub if_err : {T E : Type 0} (r : Result T E) (P : Type 0) → P → IfErr r (λ x. P)
if_err (Ok x) P p = tt
if_err (Err e) P p = p
