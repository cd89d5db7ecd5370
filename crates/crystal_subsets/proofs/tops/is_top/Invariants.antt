use Rattle.std.proofs.Common.{◌≡◌, ℕ, ◌*◌, ◌≤◌, pos, ◌≤ℤ◌}
use Rattle.crystal_cartan.specs.Weights.{twice_pairing}
use Rattle.tensor_words.specs.Spaces.{IsSpace}
use Rattle.tensor_words.specs.TensorRule.{action}
use Rattle.signature_rule.specs.Places.{AreStrings}
use Rattle.crystal_subsets.proofs.tops.is_top.Given as goal

abbrev pub invariant-indices : goal.invariant-indices
invariant-indices l = record {
  beside : (i : ℕ) → 1 ≤ i → i ≤ l.place → pos (2 * (action l.steps i).eps l.word) ≤ℤ twice_pairing l.steps.cartan l.weight i;
  last : l.place-end ≡ l.steps.cartan.rank;
  cartan : l.cartan ≡ l.steps.cartan;
  space : IsSpace l.steps;
  strings : AreStrings l.steps l.word l.strings;
}
