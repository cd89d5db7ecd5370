use Rattle.std.proofs.Common.{◌≡◌}
use Rattle.std.proofs.lemmas.Result.{IfOk-at_ok}
use Rattle.crystal_cartan.proofs.Worked.{root_pairing_A_1}
use Rattle.crystal_cartan.specs.Types.{CartanType, IsCartan}
use Rattle.crystal_cartan.specs.declared.types.Kind.TheVariants.{A}
use Rattle.word_tests.proofs.tests.types.pairing_of_a_root.Goals as goal

pub pairing-requires-clause-whole : goal.pairing-requires-clause-whole
pairing-requires-clause-whole g c =
    let Made : CartanType → Type 0 = λ t. (t ≡ record { kind = A; rank = 1 }) × IsCartan t in
    let made : Made c.expect-a1.result = IfOk-at_ok Made c.expect-a1.ensures c.new.ensures.made in
    root_pairing_A_1 c.expect-a1.result c.root-root.result made.0 c.root-root.ensures.root
