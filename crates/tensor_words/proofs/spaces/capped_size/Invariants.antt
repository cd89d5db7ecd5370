use Rattle.std.proofs.Common.{◌≡◌, ◌≤◌, ◌-◌, ◌*◌, ◌^◌, min, drop, map}
use Rattle.tensor_words.specs.Spaces.{product, base_size}
use Rattle.tensor_words.proofs.spaces.capped_size.Given as goal

abbrev pub invariant-loop-factor : goal.invariant-loop-factor
invariant-loop-factor l = record {
  whole :
      min (l.size * product (map (base_size l.cartan) (drop l.factor-index l.factors))) (2 ^ 64 - 1)
      ≡ min (product (map (base_size l.cartan) l.factors)) (2 ^ 64 - 1);
  fits : l.size ≤ 2 ^ 64 - 1;
}
