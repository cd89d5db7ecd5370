use Rattle.std.proofs.Common.{◌≡◌, sym, ap, subst, ◌∙◌, ◌+◌, ◌*◌, rules}
use Rattle.crystal_cartan.specs.Types.{CartanType}
use Rattle.tensor_words.specs.Spaces.{SpaceType}
use Rattle.wide_words.specs.WideSpaces.{WideSpaceType}
use Rattle.wide_rule.specs.Layout.{word_count}
use Rattle.wide_rule.specs.Rule.{WideView, IsKnown}
use Rattle.wide_rule.specs.Parting.{first_view}
use Rattle.wide_rule.proofs.Opening.{first_known, opens}
use Rattle.wide_rule.proofs.graph.WideGraph.of.Goals as goal

pub of_words-requires : goal.of_words-requires
of_words-requires c =
    let cells : c.capacity.result ≡ c.args.world.capacity = c.capacity.ensures.capacity in
    let space : c.high.result.now ≡ c.args.world.space.high = c.high.ensures.high ∙ ap (λ (s : WideSpaceType). s.high) c.space.ensures.space in
    let rank : c.from-rank.result ≡ c.args.world.space.high.cartan.rank =
    c.from-rank.ensures ∙ c.rank.ensures.rank ∙ ap (λ (t : CartanType). t.rank) (c.cartan.ensures.cartan ∙ ap (λ (s : SpaceType). s.cartan) space) in
    let count : 1 + 2 * (c.capacity.result + 32) + (c.capacity.result + 32) * (2 * c.from-rank.result) ≡ word_count c.args.world = λ i. 1 + 2 * (cells i + 32) + (cells i + 32) * (2 * rank i) in
    opens c.args.world c.capacity.ensures.world c.as_slice.result.now _ count (c.as_slice.ensures.value ∙ c.in_ok-words.ensures.items_if_clones_equal (λ y same. same))

pub first-requires-clause-known : goal.first-requires-clause-known
first-requires-clause-known c =
    let is : c.in_ok-board.token.me.0 ≡ first_view c.args.world = search rules in
    subst (λ (v : WideView). IsKnown v) (sym is) (first_known c.args.world c.capacity.ensures.world)
