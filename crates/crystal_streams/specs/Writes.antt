-- What a call that writes a whole text did to a sink.
use Rattle.std.specs.Prelude.{ℕ, ◌≤◌, List, length, take, Option, Result, OnOk, OnErr}
use Rattle.std.specs.Io.KnownBytes.{Appends}
use Rattle.crystal_streams.specs.Faults.{Rose}

-- on `Ok` the sink took the whole text; in any case it took a front of it; on `Err` its count of faults rose
pub record Writes {T E : Type 0} (before after : Option (List ℕ)) (faults faults_after : ℕ) (text : List ℕ) (result : Result T E) : Type 0 where
  pub whole : OnOk result (Appends before after text)
  pub part : ℕ
  pub within : part ≤ length text
  pub front : Appends before after (take part text)
  pub fault : OnErr result (Rose faults faults_after)
  pub later : faults ≤ faults_after
