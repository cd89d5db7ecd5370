use Rattle.std.proofs.Common.{refl}
use Rattle.std.proofs.lemmas.List.{drop-replicate, take-replicate}
use Rattle.tensor_words.proofs.words.Word.zeros.Goals as goal

pub invariant_of-result : goal.invariant_of-result
invariant_of-result c = record { fits = c.requires; whole = refl; rest = drop-replicate c.args.count 40 0 }

pub returns : goal.returns
returns c = take-replicate c.args.count 40 0 c.requires
