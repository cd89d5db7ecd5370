use Rattle.std.proofs.Common.{◌≡◌, Some, w32, to_z, of_z, rules}
use Rattle.std.proofs.lemmas.Int.{to_z-of_z}
use Rattle.crystal_cartan.specs.Weights.{IsPairing}
use Rattle.crystal_characters.specs.Characters.{vertex_weight}
use Rattle.crystal_characters.proofs.Mirrors.{IsImage, image_told, some_image}
use Rattle.crystal_characters.proofs.reflections.reflect.Goals as goal

pub unreachable-requires : goal.unreachable-requires
unreachable-requires c =
    let f = c.args.finished.now in
    let p = c.pairing-pairing.result in
    let same : to_z w32 (of_z w32 p) ≡ p = to_z-of_z w32 p (search rules) in
    let whole : IsPairing f.space.cartan (vertex_weight f c.args.rank) c.args.i p = search rules in
    let told = image_told f c.args.i c.args.rank _ p _ c.repeat.result c.word_at-word.ensures.finished c.requires.index c.requires.rank whole same
    c.unsigned_abs.ensures.value c.repeat.ensures.target in
    let some : c.repeat.result ≡ Some told.0 = told.1 in
    cc

its_image : (c : goal.In-Some) → IsImage c.args.finished.now c.args.i c.args.rank c.in-Some.image
its_image c =
    let f = c.args.finished.now in
    let p = c.pairing-pairing.result in
    let same : to_z w32 (of_z w32 p) ≡ p = to_z-of_z w32 p (search rules) in
    let whole : IsPairing f.space.cartan (vertex_weight f c.args.rank) c.args.i p = search rules in
    some_image f c.args.i c.args.rank c.in-Some.image c.repeat.result c.in-Some.is
    (image_told f c.args.i c.args.rank _ p _ c.repeat.result c.word_at-word.ensures.finished c.requires.index c.requires.rank whole same
    c.unsigned_abs.ensures.value c.repeat.ensures.target)

pub returns-clause-image : goal.returns-clause-image
returns-clause-image c = (its_image c).image

pub returns-clause-weight : goal.returns-clause-weight
returns-clause-weight c = (its_image c).weight

pub returns-clause-back : goal.returns-clause-back
returns-clause-back c = (its_image c).back
