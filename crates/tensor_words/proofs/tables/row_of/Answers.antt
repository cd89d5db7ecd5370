use Rattle.std.proofs.Common.{ℕ, ◌<◌, ◌≤◌, ap, ◌∙◌, Option, None, IfSome, length-set, arith}
use Rattle.crystal_cartan.specs.Types.{CartanType}
use Rattle.crystal_cartan.specs.Crystals.{Action}
use Rattle.tensor_words.specs.Spaces.{SpaceType, base_action, factor_at, size_at}
use Rattle.tensor_words.proofs.RowEntries.{entries_more, all_more}
use Rattle.tensor_words.proofs.tables.row_of.Goals as goal

pub indices-preserved : goal.indices-preserved
indices-preserved c =
    let s : SpaceType = c.args.space.now in
    let k : ℕ = c.indices.entry in
    let act : ℕ → Action ℕ = λ i. base_action s.cartan i (factor_at s c.args.place) in
    let few : k < 8 =
    omega (arith, c.rank-entry-end.ensures.rank, ap (λ (t : CartanType). t.rank) c.cartan.ensures.cartan, c.cartan.ensures.space.cartan.high) in
    record {
      phis = length-set c.indices.phi k c.digit_phi.result ∙ c.indices.invariant.phis;
      epses = length-set c.indices.eps k c.digit_eps.result ∙ c.indices.invariant.epses;
      phi =
          entries_more s.cartan c.indices.phi k c.digit_phi.result 0 (λ i. (act i).phi c.args.digit) (omega (arith, c.indices.invariant.phis))
          c.digit_phi.ensures.value c.indices.invariant.phi;
      eps =
          entries_more s.cartan c.indices.eps k c.digit_eps.result 0 (λ i. (act i).eps c.args.digit) (omega (arith, c.indices.invariant.epses))
          c.digit_eps.ensures.value c.indices.invariant.eps;
      lowers = length-set c.indices.lower k c.narrow.result ∙ c.indices.invariant.lowers;
      raises = length-set c.indices.raise k c.narrow-in-indices.result ∙ c.indices.invariant.raises;
      lower =
          entries_more s.cartan c.indices.lower k c.narrow.result None (λ i. (act i).lower c.args.digit) (omega (arith, c.indices.invariant.lowers))
          (c.narrow.ensures ∙ c.digit_lower.ensures.value) c.indices.invariant.lower;
      raise =
          entries_more s.cartan c.indices.raise k c.narrow-in-indices.result None (λ i. (act i).raise c.args.digit) (omega (arith, c.indices.invariant.raises))
          (c.narrow-in-indices.ensures ∙ c.digit_raise.ensures.value) c.indices.invariant.raise;
      lower_below =
          all_more (λ (o : Option ℕ). IfSome o (λ e. e < size_at s c.args.place)) c.indices.lower k c.narrow.result None (omega (arith, c.indices.invariant.lowers))
          (rw c.narrow.ensures c.digit_lower.ensures.below) c.indices.invariant.lower_below;
      raise_below =
          all_more (λ (o : Option ℕ). IfSome o (λ e. e < size_at s c.args.place)) c.indices.raise k c.narrow-in-indices.result None (omega (arith, c.indices.invariant.raises))
          (rw c.narrow-in-indices.ensures c.digit_raise.ensures.below) c.indices.invariant.raise_below;
      few_phi =
          all_more (λ (n : ℕ). n ≤ 2) c.indices.phi k c.digit_phi.result 0 (omega (arith, c.indices.invariant.phis)) c.digit_phi.ensures.small c.indices.invariant.few_phi;
      few_eps =
          all_more (λ (n : ℕ). n ≤ 2) c.indices.eps k c.digit_eps.result 0 (omega (arith, c.indices.invariant.epses)) c.digit_eps.ensures.small c.indices.invariant.few_eps;
    }
