-- The status of an answer is determined, and with its history its text.
use Rattle.std.proofs.Common.{◌≡◌, refl, ap, ℕ, Some}
use Rattle.command_words.specs.Fault.{fault_number}
use Rattle.command_words.specs.declared.fault.WordsFault.{WordsFault}
use Rattle.answer_text.specs.Texts.{words_refusal}
use Rattle.crystal_shell.specs.Inputs.{judged_input}
use Rattle.crystal_shell.specs.Modes.{call_census, call_grow, call_match, call_refused, call_sample, call_wide}
use Rattle.crystal_shell.specs.Laws.{AnswersAreDetermined}
use Rattle.crystal_shell.proofs.Cases.Grow.{grows_one}
use Rattle.crystal_shell.proofs.Cases.Sample.{samples_one}
use Rattle.crystal_shell.proofs.Cases.Census.{counts_one}
use Rattle.crystal_shell.proofs.Cases.Match.{compares_one}
use Rattle.crystal_shell.proofs.Cases.Wide.{widens_one}

refusals_one : (fault : WordsFault) (number number' : ℕ) → fault_number fault ≡ Some number → fault_number fault ≡ Some number' → words_refusal number ≡ words_refusal number'
refusals_one fault number number' is is' =
    let same : number ≡ number' = cc in
    ap words_refusal same

pub answers_are_determined : AnswersAreDetermined
answers_are_determined reporters input judged s t f g k l x y (call_refused fault number is) (call_refused fault' number' is') = (refl, λ same. refusals_one fault number number' is is')
answers_are_determined reporters input judged s t f g k l x y (call_grow growers places status front held text grows) (call_grow growers' places' status' front' held' text' grows') =
    grows_one reporters places (judged_input input) status status' front front' held held' text text' grows grows'
answers_are_determined reporters input judged s t f g k l x y (call_sample growers number status front held text samples) (call_sample growers' number' status' front' held' text' samples') =
    samples_one number status status' front front' held held' text text' samples samples'
answers_are_determined reporters input judged s t f g k l x y (call_census shape status text counts) (call_census shape' status' text' counts') =
    let one = counts_one shape status status' text text' counts counts' in (one.0, λ same. one.1)
answers_are_determined reporters input judged s t f g k l x y (call_match r status text compares) (call_match r' status' text' compares') =
    let one = compares_one r (judged_input input) status status' text text' compares compares' in (one.0, λ same. one.1)
answers_are_determined reporters input judged s t f g k l x y (call_wide growers status text widens) (call_wide growers' status' text' widens') =
    let one = widens_one (judged_input input) status status' text text' widens widens' in (one.0, λ same. one.1)
