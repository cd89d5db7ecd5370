use Rattle.std.proofs.Common.{◌≡◌, ◌+◌, ap, sym, ◌∙◌, arith}
use Rattle.crystal_cartan.specs.Types.{CartanType, HasIndex}
use Rattle.signature_rule.proofs.Lifting.{least_found, ended_more}
use Rattle.signature_rule.proofs.raising.least_raise.Goals as goal

pub returns-in-Some-clause-raise : goal.returns-in-Some-clause-raise
returns-in-Some-clause-raise c =
    let rank : c.rank-place-end.result ≡ c.args.space.now.cartan.rank = c.rank-place-end.ensures.rank ∙ ap (λ (t : CartanType). t.rank) c.cartan.ensures.cartan in
    let index : HasIndex c.args.space.now.cartan (c.indices.place + 1) = record { low = omega arith; high = omega arith } in
    least_found c.args.space.now c.args.word.now c.in-Some.higher (c.indices.place + 1) c.cartan.ensures.space c.requires index c.indices.invariant
    (sym c.raise.ensures.value ∙ c.in-Some.is)

pub indices-preserved : goal.indices-preserved
indices-preserved c =
    let rank : c.rank-place-end.result ≡ c.args.space.now.cartan.rank = c.rank-place-end.ensures.rank ∙ ap (λ (t : CartanType). t.rank) c.cartan.ensures.cartan in
    let index : HasIndex c.args.space.now.cartan (c.indices.place + 1) = record { low = omega arith; high = omega arith } in
    ended_more c.args.space.now c.args.word.now (c.indices.place + 1) c.cartan.ensures.space c.requires index c.indices.invariant
    (sym c.raise.ensures.value ∙ c.in_default.is)
