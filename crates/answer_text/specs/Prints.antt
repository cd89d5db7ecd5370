-- What a call that prints did to a sink, and to the page before it.
use Rattle.std.specs.Prelude.{ℕ, ◌≡◌, ◌≤◌, List, ◌++◌, Option, Result, OnOk, OnErr}
use Rattle.std.specs.Io.KnownBytes.{Appends}
use Rattle.crystal_streams.specs.Faults.{Rose}

-- the page's text and the printed one were handed on up to some place; on `Ok` the page has the rest of them, and on `Err`
-- the sink's count of faults rose
pub record Prints {T E : Type 0} (before after : Option (List ℕ)) (faults faults_after : ℕ) (page page_after : List ℕ) (text : List ℕ) (result : Result T E) : Type 0 where
  pub given : List ℕ
  pub rest : List ℕ
  pub taken : Appends before after given
  pub whole : given ++ rest ≡ page ++ text
  pub kept : OnOk result (page_after ≡ rest)
  pub fault : OnErr result (Rose faults faults_after)
  pub later : faults ≤ faults_after
