-- The getters read the rows of their arguments.
use Rattle.std.proofs.Common.{◌∙◌, [], ap, codes, map, option_map, refl, List, ℕ, Bor}
use Rattle.std.specs.Option.{unwrap_or}
use Rattle.clap.specs.Walk.{all_of, first_of, rows_of}
use Rattle.clap.specs.Matches.{found_of}
use Rattle.clap.proofs.WalkLemmas.{first_value-rows, raw_values-rows}
use Rattle.command_words.proofs.ArgumentLemmas.{further_words, same_line}
use Rattle.command_words.proofs.reading.matched_settings.Goals as goal

pub returns : goal.returns
returns c =
    let found = found_of c.args.matches.now in
    let rows = rows_of found in
    same_line (map (λ name. name.now) c.args.names.now) (map (λ text. text.now) c.unwrap_or-more.result.now) (unwrap_or (all_of (codes "REST") rows) [])
    (option_map (λ text. text.now) c.get_str-mode.result) (first_of (codes "MODE") rows) (option_map (λ text. text.now) c.get_str-second.result) (first_of (codes "GROWERS") rows) c.line_settings.result
    (c.get_str-mode.ensures ∙ first_value-rows found (codes "MODE"))
    (c.get_str-second.ensures ∙ first_value-rows found (codes "GROWERS"))
    (ap (λ (s : Bor (List (Bor (List ℕ)))). map (λ text. text.now) s.now) c.unwrap_or-more.ensures ∙ further_words c.get_strs.result _ _ refl (c.get_strs.ensures ∙ raw_values-rows found (codes "REST")))
    c.line_settings.ensures
