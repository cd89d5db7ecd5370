use Rattle.command_words.proofs.PlacesLemmas.{IsSoFar}
use Rattle.command_words.proofs.statistics.places_for.Given as goal

abbrev pub invariant-loop-count : goal.invariant-loop-count
invariant-loop-count l = IsSoFar l.names l.words l.count l.chosen.items
