-- The dashes are judged first, and the arguments give the rest.
use Rattle.std.proofs.Common.{◌∙◌, length, map, string_bytes, sym, rules}
use Rattle.std.proofs.lemmas.List.{length-map}
use Rattle.clap.specs.Walk.{rows_of}
use Rattle.clap.specs.Matches.{found_of}
use Rattle.command_words.specs.Judge.{is_dashed}
use Rattle.command_words.proofs.ArgumentLemmas.{dashed_judged, words_judged}
use Rattle.command_words.proofs.FitsLemmas.{answer_fits}
use Rattle.command_words.proofs.PlacesLemmas.{list_any-map}
use Rattle.command_words.proofs.reading.read_words.Goals as goal

pub returns-then-has_dashed_word-clause-answer : goal.returns-then-has_dashed_word-clause-answer
returns-then-has_dashed_word-clause-answer c =
    dashed_judged (map (λ name. name.now) c.args.names.now) (map string_bytes c.args.words.now)
    (sym (list_any-map is_dashed string_bytes c.args.words.now) ∙ sym c.has_dashed_word.ensures ∙ c.if-has_dashed_word.true)

pub matches_in-requires : goal.matches_in-requires
matches_in-requires c = sym (list_any-map is_dashed string_bytes c.args.words.now) ∙ sym c.has_dashed_word.ensures ∙ c.if-has_dashed_word.false

pub returns-clause-answer : goal.returns-clause-answer
returns-clause-answer c =
    words_judged (map (λ name. name.now) c.args.names.now) (map string_bytes c.args.words.now) (rows_of (found_of c.in-Ok.matches)) c.matched_settings.result
    (sym (list_any-map is_dashed string_bytes c.args.words.now) ∙ sym c.has_dashed_word.ensures ∙ c.if-has_dashed_word.false)
    (search rules) c.matched_settings.ensures

pub returns-clause-fits : goal.returns-clause-fits
returns-clause-fits c =
    answer_fits (map string_bytes c.args.words.now) (map (λ name. name.now) c.args.names.now) c.matched_settings.result (length c.args.names.now)
    (length-map c.args.names.now (λ name. name.now)) (returns-clause-answer c)
