use Rattle.std.proofs.Common.{◌≡◌, ◌∙◌, sym, ap₂, subst, List, ℕ, ℤ, rules}
use Rattle.crystal_cartan.specs.Types.{CartanType, HasIndex}
use Rattle.crystal_cartan.specs.Weights.{IsPairing}
use Rattle.crystal_cartan.specs.declared.types.Kind.{Kind}
use Rattle.crystal_subsets.proofs.TensorTops.{word_pairings}
use Rattle.graph_tests.proofs.tests.subsets.tops_beside_word.Goals as goal

abbrev made : Kind → ℕ → CartanType
made k r = record { kind = k; rank = r }

-- a weight of one type is a weight of the same type under another name
carried : (t u : CartanType) (weight : List ℤ) → t ≡ u → ((i : ℕ) → HasIndex t i → (p : ℤ) × IsPairing t weight i p)
    → (i : ℕ) → HasIndex u i → (p : ℤ) × IsPairing u weight i p
carried t u weight same each = subst (λ (v : CartanType). (i : ℕ) → HasIndex v i → (p : ℤ) × IsPairing v weight i p) same each

pub product_tops-requires-clause-whole : goal.product_tops-requires-clause-whole
product_tops-requires-clause-whole c =
    let kind : c.cartan.result.kind ≡ c.cartan-2.result.kind = search rules in
    let rank : c.cartan.result.rank ≡ c.cartan-2.result.rank = search rules in
    let alike : c.cartan.result ≡ c.cartan-2.result = ap₂ made kind rank in
    let same : c.args.other.now.cartan ≡ c.args.graph.now.space.cartan =
    sym c.cartan-2.ensures.cartan ∙ sym alike ∙ rw c.space.ensures.space at c.cartan.ensures.cartan in
    carried c.args.other.now.cartan c.args.graph.now.space.cartan c.weight-weight.result same
    (rw c.weight-weight.ensures.value (word_pairings c.args.other.now c.args.word.now c.cartan-2.ensures.space c.requires))
