-- What command words are judged to ask for.
use Rattle.std.proofs.Common.{◌≡◌, ◌∙◌, ℕ, List, Some, None, Ok, Err, inl, inr, sym, ap, map, subst, Result}
use Rattle.command_words.specs.Judge.{IsAnswer, judge_words}
use Rattle.command_words.specs.Fault.{fault_number}
use Rattle.command_words.specs.declared.fault.WordsFault.{WordsFault}
use Rattle.command_words.specs.declared.fault.WordsFault.TheVariants.{NoMemory}
use Rattle.command_words.specs.declared.settings.Settings.{Settings}
use Rattle.crystal_characters.specs.declared.items.Item.{Item}
use Rattle.crystal_shell.specs.Statistics.{names_of}

settings_judged : (meaning : Result Settings WordsFault) (settings : Settings) → IsAnswer meaning (Ok settings) → Ok settings ≡ meaning
settings_judged meaning settings (inl judged) = judged
settings_judged meaning settings (inr short) = absurd (cc)

fault_judged : (meaning : Result Settings WordsFault) (fault : WordsFault) (number : ℕ) → fault_number fault ≡ Some number → IsAnswer meaning (Err fault) → Err fault ≡ meaning
fault_judged meaning fault number is (inl judged) = judged
fault_judged meaning fault number is (inr short) =
    let gone : fault ≡ NoMemory = cc in
    let clash : Some number ≡ None = sym is ∙ ap fault_number gone in
    absurd (cc)

-- the names come through a slice of the statistics
module _ {B : Type 0} (name : B → List ℕ) (reports : B → List Item → List ℕ) (xs ys : List B) (words : List (List ℕ)) (same : xs ≡ ys) where
  abbrev judged_with : List B → Result Settings WordsFault
  judged_with bs = judge_words words (names_of (map (λ b. record { name = name b; reports = reports b }) bs))

  pub settings_through : (settings : Settings) → IsAnswer (judged_with xs) (Ok settings) → Ok settings ≡ judged_with ys
  settings_through settings answer = settings_judged (judged_with xs) settings answer ∙ ap judged_with same

  pub fault_through : (fault : WordsFault) (number : ℕ) → fault_number fault ≡ Some number → IsAnswer (judged_with xs) (Err fault) → Err fault ≡ judged_with ys
  fault_through fault number is answer = fault_judged (judged_with xs) fault number is answer ∙ ap judged_with same
