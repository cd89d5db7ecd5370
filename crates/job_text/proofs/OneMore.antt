-- Scripts with one more command.
use Rattle.std.proofs.Common.{◌≡◌, ◌∙◌, sym, subst, ap, ℕ, ◌-◌, ◌<◌, ◌≤◌, List, [], ◌∷◌, ◌++◌, length, get_or, set, length-append, All, arith}
use Rattle.std.proofs.lemmas.List.{get_or_default}
use Rattle.std.proofs.lemmas.List.Elements.{All-get_or, All-push, All-set}
use Rattle.tensor_words.specs.Spaces.{SpaceType}
use Rattle.job_text.specs.declared.commands.Command.{Command}
use Rattle.job_text.specs.Jobs.{IsCommand, IsScript}

-- one more command of the script at a place
pub scripts_with :
    (s : SpaceType) (scripts : List (List Command)) (k : ℕ) (script new : List Command) (c : Command) →
    All (IsScript s) scripts → k < length scripts → k ≡ length scripts - 1 → script ≡ get_or scripts k script →
    length (get_or scripts (length scripts - 1) []) < 4096 →
    IsCommand s c → new ≡ script ++ c ∷ [] → All (IsScript s) (set scripts k new)
scripts_with s scripts k script new c all within place is room good made =
    let free : length (get_or scripts k []) < 4096 = rw place room in
    let same : get_or scripts k [] ≡ script = get_or_default scripts k [] script within ∙ sym is in
    let old : IsScript s script = subst (IsScript s) (sym is) (All-get_or (IsScript s) scripts k script within all) in
    let longer : length new ≤ 4096 = omega (arith, ap length made, length-append script (c ∷ []), ap length same) in
    let commands : All (IsCommand s) new = subst (All (IsCommand s)) (sym made) (All-push (IsCommand s) script c old.0 good) in
    All-set (IsScript s) scripts k new (commands, longer) all
