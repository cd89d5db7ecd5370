-- The command is simple, so that its matches are known.
use Rattle.std.proofs.Common.{map, string_bytes, rules}
use Rattle.clap.specs.Simple.{app_of}
use Rattle.command_words.proofs.LineLemmas.{rows_found}
use Rattle.command_words.proofs.arguments.matches_in.Goals as goal

pub returns : goal.returns
returns c = rows_found (app_of c.in_ok-command.command) (map string_bytes c.args.words.now) c.try_get_matches_from.result (search rules) c.requires c.try_get_matches_from.ensures.matches
