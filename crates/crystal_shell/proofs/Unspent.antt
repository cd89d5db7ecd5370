-- Under the status 0 no event of the history is a `Spent`.
use Rattle.std.proofs.Common.{arith}
use Rattle.crystal_shell.specs.Inputs.{judged_input}
use Rattle.crystal_shell.specs.Modes.{call_census, call_grow, call_match, call_sample, call_wide}
use Rattle.crystal_shell.specs.Laws.{AnsweredIsUnspent}
use Rattle.crystal_shell.proofs.Cases.Grow.{grows_unspent}
use Rattle.crystal_shell.proofs.Cases.Sample.{samples_unspent}

pub answered_is_unspent : AnsweredIsUnspent
answered_is_unspent reporters input judged front held text n x (call_grow growers places status front' held' text' grows) there =
    grows_unspent reporters places (judged_input input) front' held' text' n x grows there
answered_is_unspent reporters input judged front held text n x (call_sample growers number status front' held' text' samples) there =
    samples_unspent number front' held' text' n x samples there
answered_is_unspent reporters input judged front held text n x (call_census shape status text' counts) (k, below, is) = omega (arith, below)
answered_is_unspent reporters input judged front held text n x (call_match r status text' compares) (k, below, is) = omega (arith, below)
answered_is_unspent reporters input judged front held text n x (call_wide growers status text' widens) (k, below, is) = omega (arith, below)
