-- What the reader of arguments makes of words of which none begins with `-`.
use Rattle.std.proofs.Common.{◌≡◌, ◌∙◌, ◌||◌, ℕ, Bool, true, false, refl, ap, List, [], ◌∷◌, ◌++◌, Some, None, codes, append_assoc, true≢false, Result, Ok, Err, IfOk}
use Rattle.std.proofs.lemmas.Bool.{or_parts}
use Rattle.std.specs.List.{fold, list_any}
use Rattle.clap.specs.Simple.{App, HasMatchesOf, built, is_simple, matches_of}
use Rattle.clap.specs.Matches.{found_of}
use Rattle.clap.specs.declared.parser.matches.ArgMatches.{ArgMatches}
use Rattle.clap.specs.Walk.{Held, Row, Rule, Step, Text, Waiting, Walk, after_step, arg_by_index, finished, idle, nothing_held, positional, rows_of, to_positional, value, walk_from, walked, word_met}
use Rattle.command_words.specs.Judge.{is_dashed}
use Rattle.command_words.specs.Line.{line_app, line_rows, arg_row}

pub line_is_simple : is_simple line_app ≡ true
line_is_simple = refl

-- ---- one word

abbrev between : Held → Waiting → ℕ → Walk
between h waiting position = record { held = h; waiting = waiting; position = position; is_trailing = false; stopped = None }

module _ (c : List Rule) (h : Held) (position : ℕ) where
  -- a word with no dash is a value, where nothing but a positional waits for it
  idle_met : (word : Text) → is_dashed word ≡ false → word_met c [] false idle position word h ≡ (h, value)
  idle_met [] plain = refl
  idle_met (x ∷ xs) plain = rw (plain, plain) refl

  positional_met : (word : Text) → is_dashed word ≡ false → word_met c [] false positional position word h ≡ (h, value)
  positional_met [] plain = refl
  positional_met (x ∷ xs) plain = rw (plain, plain) refl

  idle_step : (word : Text) → is_dashed word ≡ false
      → walked c [] (between h idle position) word ≡ to_positional c (arg_by_index c position) word (between h idle position) h
  unfolding walked
  idle_step word plain = ap (λ (met : Held × Step). after_step c word (between h idle position) met.0 met.1) (idle_met word plain)

  positional_step : (word : Text) → is_dashed word ≡ false
      → walked c [] (between h positional position) word ≡ to_positional c (arg_by_index c position) word (between h positional position) h
  unfolding walked
  positional_step word plain = ap (λ (met : Held × Step). after_step c word (between h positional position) met.0 met.1) (positional_met word plain)

-- ---- all the words

abbrev rules : List Rule
rules = (built line_app).top.rules

abbrev rest_rows : List Text → List Row
rest_rows [] = []
rest_rows (word ∷ words) = arg_row (codes "REST") (word ∷ words) ∷ []

abbrev held : List Row → Text → Text → Held
held rows id word = record { rows = rows; pending = Some (id, word ∷ []); skip = 0 }

abbrev both_rows : Text → Text → List Row
both_rows mode growers = arg_row (codes "MODE") (mode ∷ []) ∷ arg_row (codes "GROWERS") (growers ∷ []) ∷ []

abbrev after_mode : Text → Walk
after_mode mode = between (held [] (codes "MODE") mode) idle 2

abbrev after_growers : Text → Text → Walk
after_growers mode growers = between (held (arg_row (codes "MODE") (mode ∷ []) ∷ []) (codes "GROWERS") growers) idle 3

-- the words `seen` and then `last` were further words
abbrev after_rest : Text → Text → List Text → Text → Walk
after_rest mode growers seen last = between (held (both_rows mode growers ++ rest_rows seen) (codes "REST") last) positional 3

mode_step : (mode : Text) → is_dashed mode ≡ false → walked rules [] (walk_from nothing_held) mode ≡ after_mode mode
mode_step mode plain = idle_step rules nothing_held 1 mode plain

growers_step : (mode growers : Text) → is_dashed growers ≡ false → walked rules [] (after_mode mode) growers ≡ after_growers mode growers
growers_step mode growers plain = idle_step rules (held [] (codes "MODE") mode) 2 growers plain

first_step : (mode growers word : Text) → is_dashed word ≡ false → walked rules [] (after_growers mode growers) word ≡ after_rest mode growers [] word
first_step mode growers word plain = idle_step rules (held (arg_row (codes "MODE") (mode ∷ []) ∷ []) (codes "GROWERS") growers) 3 word plain

rest_step : (mode growers : Text) (seen : List Text) (last word : Text) → is_dashed word ≡ false
    → walked rules [] (after_rest mode growers seen last) word ≡ after_rest mode growers (seen ++ last ∷ []) word
rest_step mode growers [] last word plain = positional_step rules (held (both_rows mode growers) (codes "REST") last) 3 word plain
rest_step mode growers (x ∷ xs) last word plain = positional_step rules (held (both_rows mode growers ++ rest_rows (x ∷ xs)) (codes "REST") last) 3 word plain

rest_finished : (mode growers : Text) (seen : List Text) (last : Text) (words : List Text) → list_any is_dashed words ≡ false
    → finished rules (fold (walked rules []) (after_rest mode growers seen last) words).held ≡ both_rows mode growers ++ arg_row (codes "REST") (seen ++ last ∷ words) ∷ []
rest_finished mode growers [] last [] plain = refl
rest_finished mode growers (x ∷ xs) last [] plain = refl
rest_finished mode growers seen last (word ∷ words) plain =
    let parts = or_parts _ _ plain in
    ap (λ w. finished rules (fold (walked rules []) w words).held) (rest_step mode growers seen last word parts.0)
    ∙ rest_finished mode growers (seen ++ last ∷ []) word words parts.1
    ∙ ap (λ ws. both_rows mode growers ++ arg_row (codes "REST") ws ∷ []) (append_assoc seen (last ∷ []) (word ∷ words))

growers_reached : (mode growers : Text) → is_dashed mode ≡ false → is_dashed growers ≡ false
    → walked rules [] (walked rules [] (walk_from nothing_held) mode) growers ≡ after_growers mode growers
growers_reached mode growers first second = ap (λ w. walked rules [] w growers) (mode_step mode first) ∙ growers_step mode growers second

-- the matches of plain words
pub rows_read : (words : List Text) → list_any is_dashed words ≡ false → matches_of line_app words ≡ line_rows words
rows_read [] plain = refl
rows_read (mode ∷ []) plain = ap (λ w. finished rules w.held) (mode_step mode (or_parts _ _ plain).0)
rows_read (mode ∷ growers ∷ []) plain =
    let first = or_parts _ _ plain in
    ap (λ w. finished rules w.held) (growers_reached mode growers first.0 (or_parts _ _ first.1).0)
rows_read (mode ∷ growers ∷ word ∷ words) plain =
    let first = or_parts _ _ plain in
    let second = or_parts _ _ first.1 in
    let third = or_parts _ _ second.1 in
    ap (λ w. finished rules (fold (walked rules []) w (word ∷ words)).held) (growers_reached mode growers first.0 second.0)
    ∙ ap (λ w. finished rules (fold (walked rules []) w words).held) (first_step mode growers word third.0)
    ∙ rest_finished mode growers [] word words third.1

pub rows_found : {E : Type 0} (app : App) (words : List Text) (r : Result ArgMatches E) → app ≡ line_app → list_any is_dashed words ≡ false
    → IfOk r (HasMatchesOf app words) → IfOk r (λ m. rows_of (found_of m) ≡ line_rows words)
rows_found app words (Err e) is plain has = tt
rows_found app words (Ok m) is plain has =
    let simple : is_simple app ≡ true = rw is line_is_simple in
    (has simple).0 ∙ ap (λ a. matches_of a words) is ∙ rows_read words plain
