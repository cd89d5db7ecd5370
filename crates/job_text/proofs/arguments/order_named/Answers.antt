use Rattle.std.proofs.Common.{rules, ◌≡◌, refl, arith}
use Rattle.std.specs.Prelude.{codes}
use Rattle.std.proofs.lemmas.Slice.Eq.{text_from_reads}
use Rattle.job_text.proofs.arguments.order_named.Goals as goal

pub returns-in-standard : goal.returns-in-standard
returns-in-standard c =
    let same : c.args.word.now ≡ codes "standard" = text_from_reads c.args.word.now (codes "standard") (omega arith) (search rules) in
    rw same refl

pub returns-in-kashiwara : goal.returns-in-kashiwara
returns-in-kashiwara c =
    let same : c.args.word.now ≡ codes "kashiwara" = text_from_reads c.args.word.now (codes "kashiwara") (omega arith) (search rules) in
    rw same refl
