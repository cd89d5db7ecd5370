-- The command line of the program, as the reader of arguments sees it.
use Rattle.std.specs.Prelude.{codes, true, List, [], ◌∷◌, Some, None}
use Rattle.clap.specs.Words.{App, Row, Text, new_app, new_rule, with_rule}
use Rattle.clap.specs.Values.{reading_of}
use Rattle.clap.specs.declared.builder.action.ArgAction.TheVariants.{Append}
use Rattle.clap.specs.declared.builder.value_parser.ValueParser.TheVariants as parser
use Rattle.clap.specs.declared.parser.matches.ValueSource.TheVariants.{CommandLine}

-- one command with the arguments MODE, GROWERS and REST, of which REST takes any number of words;
-- it has no flag, no help and no name of a program before its words
abbrev pub line_app : App
line_app =
    let bare = new_app (codes "crystal_shell") in
    let plain = record bare {
      top = record bare.top { no_binary_name = true; disable_help_flag = true };
    } in
    with_rule (with_rule (with_rule plain (new_rule (codes "MODE"))) (new_rule (codes "GROWERS")))
    (record (new_rule (codes "REST")) { action = Some Append })

-- the words that an argument got
abbrev pub arg_row : Text → List Text → Row
arg_row id words = record {
  id = id;
  values = words;
  count = None;
  source = Some CommandLine;
  reading = reading_of parser.String;
}

-- what words of which none begins with `-` give to the arguments
abbrev pub line_rows : List Text → List Row
line_rows [] = []
line_rows (mode ∷ []) = arg_row (codes "MODE") (mode ∷ []) ∷ []
line_rows (mode ∷ growers ∷ []) =
    arg_row (codes "MODE") (mode ∷ []) ∷ arg_row (codes "GROWERS") (growers ∷ []) ∷ []
line_rows (mode ∷ growers ∷ word ∷ words) =
    arg_row (codes "MODE") (mode ∷ []) ∷ arg_row (codes "GROWERS") (growers ∷ [])
    ∷ arg_row (codes "REST") (word ∷ words) ∷ []
