use Rattle.std.proofs.Common.{◌≡◌, ◌∙◌, sym}
use Rattle.std.proofs.lemmas.Result.{IfOk-weaker}
use Rattle.canonical_graph.proofs.Ranks.{rank_of_listed}
use Rattle.ask_answers.specs.Answers.{IsSubset}
use Rattle.ask_answers.proofs.OverCodes.{subset_of_code}
use Rattle.ask_answers.proofs.subsets.subset.Goals as goal

pub unreachable-requires : goal.unreachable-requires
unreachable-requires c =
    let found = rank_of_listed c.args.finished.now.codes c.args.start c.rank_of.ensures.finished.ascending c.requires.start in
    c.in_default.not-Some found.0 (c.rank_of.ensures.rank ∙ found.1)

pub returns : goal.returns
returns c =
    let f = c.args.finished.now in
    let keys = c.in_ok-ranks.ranks.keys in
    IfOk-weaker c.in_order.result (λ list. list.items ≡ keys) (λ list. IsSubset f c.args.start c.args.indices.now list.items)
    (λ list is. rw is
    (subset_of_code f c.args.start c.in-Some.rank c.args.indices.now keys (sym c.in-Some.ensures.rank) c.in_ok-ranks.ensures.ascending c.in_ok-ranks.ensures.members))
    c.in_order.ensures
