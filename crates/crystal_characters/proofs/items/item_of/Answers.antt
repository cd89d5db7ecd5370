use Rattle.std.proofs.Common.{◌≡◌, ◌∙◌, ap, refl, ℕ, List, map, subst, arith}
use Rattle.std.specs.List.{range_with_len}
use Rattle.crystal_cartan.specs.Types.{CartanType}
use Rattle.tensor_words.specs.Spaces.{SpaceType}
use Rattle.tensor_words.specs.TensorRule.{action}
use Rattle.signature_rule.specs.Places.{AreStrings}
use Rattle.canonical_graph.specs.Graphs.{vertex_word}
use Rattle.crystal_characters.specs.Characters.{vertex_weight}
use Rattle.crystal_characters.specs.Items.{item_at, vertex_eps, vertex_phi}
use Rattle.crystal_characters.proofs.Padding.{index_numbers}
use Rattle.crystal_characters.proofs.items.item_of.Goals as goal

pub returns-clause-item : goal.returns-clause-item
unfolding item_at
returns-clause-item c =
    let f = c.args.finished.now in
    let k = c.args.rank in
    let word : c.word_at-word.result ≡ vertex_word f k = c.word_at-word.ensures.word in
    let space : c.steps-steps.result.now ≡ f.space = c.steps-steps.ensures.space in
    let cartan : c.cartan-cartan.result ≡ f.space.cartan = c.cartan-cartan.ensures.cartan ∙ ap (λ (s : SpaceType). s.cartan) space in
    let strings : AreStrings f.space (vertex_word f k) c.strings_of-strings.result =
    subst (λ (w : List ℕ). AreStrings f.space w c.strings_of-strings.result) word
    (subst (λ (s : SpaceType). AreStrings s c.word_at-word.result c.strings_of-strings.result) space c.strings_of-strings.ensures) in
    let weight : c.weight.result ≡ vertex_weight f k = c.weight.ensures.value ∙ rw (space, word) refl in
    let eps : c.first_entries.result ≡ map (vertex_eps f k) (range_with_len 1 8) =
    index_numbers f.space.cartan (λ i. (action f.space i).eps (vertex_word f k)) c.strings_of-strings.result.eps c.first_entries.result c.rank.result
    (c.rank.ensures.rank ∙ ap (λ (t : CartanType). t.rank) cartan) (omega (arith, c.rank.ensures.rank, c.rank.ensures.classical.high)) c.first_entries.ensures.len
    c.first_entries.ensures.first c.first_entries.ensures.rest strings.eps in
    let phi : c.first_entries-2.result ≡ map (vertex_phi f k) (range_with_len 1 8) =
    index_numbers f.space.cartan (λ i. (action f.space i).phi (vertex_word f k)) c.strings_of-strings.result.phi c.first_entries-2.result c.rank-2.result
    (c.rank-2.ensures.rank ∙ ap (λ (t : CartanType). t.rank) cartan) (omega (arith, c.rank-2.ensures.rank, c.rank-2.ensures.classical.high)) c.first_entries-2.ensures.len
    c.first_entries-2.ensures.first c.first_entries-2.ensures.rest strings.phi in
    rw (cartan, c.code_at.ensures.code, weight, eps, phi) refl
