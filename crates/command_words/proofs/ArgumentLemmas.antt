-- From what the arguments got to the meaning of the words.
use Rattle.std.proofs.Common.{◌≡◌, ◌∙◌, false, true, refl, ap, List, [], ◌∷◌, map, Option, Some, None, Result, Err, codes, Bor, inl, subst}
use Rattle.std.specs.Option.{option_map, unwrap_or}
use Rattle.std.specs.List.{list_any}
use Rattle.clap.specs.Walk.{Row, Text, all_of, first_of}
use Rattle.command_words.specs.Judge.{IsAnswer, is_dashed, judge_line, judge_plain, judge_words}
use Rattle.command_words.specs.declared.fault.WordsFault.TheVariants.{Dashed}
use Rattle.command_words.specs.Line.{line_rows}
use Rattle.command_words.specs.declared.fault.WordsFault.{WordsFault}
use Rattle.command_words.specs.declared.settings.Settings.{Settings}

pub further_words : (o : Option (Bor (List (Bor Text)))) (d : Bor (List (Bor Text))) (found : Option (List Text)) → d.now ≡ [] → option_map (λ s. map (λ v. v.now) s.now) o ≡ found
    → map (λ text. text.now) (unwrap_or o d).now ≡ unwrap_or found []
further_words None d found none is = rw (← is, none) refl
further_words (Some s) d found none is = rw (← is) refl

-- what the arguments got, in the words' own terms
pub line_judged : (names words : List Text)
    → judge_line names (first_of (codes "MODE") (line_rows words)) (first_of (codes "GROWERS") (line_rows words)) (unwrap_or (all_of (codes "REST") (line_rows words)) []) ≡ judge_plain names words
line_judged names [] = refl
line_judged names (mode ∷ []) = refl
line_judged names (mode ∷ growers ∷ []) = refl
line_judged names (mode ∷ growers ∷ word ∷ words) = refl

pub same_line : (names more more' : List Text) (mode mode' growers growers' : Option Text) (r : Result Settings WordsFault) → mode ≡ mode' → growers ≡ growers' → more ≡ more'
    → IsAnswer (judge_line names mode growers more) r → IsAnswer (judge_line names mode' growers' more') r
same_line names more more' mode mode' growers growers' r a b c = subst (λ (meaning : Result Settings WordsFault). IsAnswer meaning r) (λ i. judge_line names (a i) (b i) (c i))

-- words with no dash mean what their arguments do
pub words_judged : (names words : List Text) (rows : List Row) (r : Result Settings WordsFault) → list_any is_dashed words ≡ false → rows ≡ line_rows words
    → IsAnswer (judge_line names (first_of (codes "MODE") rows) (first_of (codes "GROWERS") rows) (unwrap_or (all_of (codes "REST") rows) [])) r → IsAnswer (judge_words words names) r
words_judged names words rows r plain is answered =
    let by_rows : List Row → Result Settings WordsFault = λ rs. judge_line names (first_of (codes "MODE") rs) (first_of (codes "GROWERS") rs) (unwrap_or (all_of (codes "REST") rs) []) in
    rw plain (subst (λ (meaning : Result Settings WordsFault). IsAnswer meaning r) (ap by_rows is ∙ line_judged names words) answered)

pub dashed_judged : (names words : List Text) → list_any is_dashed words ≡ true → IsAnswer (judge_words words names) (Err Dashed)
dashed_judged names words dashed = rw dashed (inl refl)
