-- The lexicographic order of weights.
use Rattle.std.proofs.Common.{◌≡◌, ◌∙◌, refl, ap, true, false, List, ℤ}
use Rattle.std.specs.Ordering.{is_eq, ordering_reverse}
use Rattle.std.specs.declared.cmp.Ordering.{Ordering}
use Rattle.std.specs.declared.cmp.Ordering.TheVariants.{Less, Equal, Greater}
use Rattle.std.specs.FinMap.{int_cmp-IsAntisymmetric, slice_cmp-IsAntisymmetric}
use Rattle.std.specs.Cmp.{IsTotalOrder, int_cmp_total, tied_itself}
use Rattle.std.specs.Cmp.Lexicographic.{lists_total}
use Rattle.crystal_characters.specs.Characters.{weight_order, is_same_weight}

pub order_total : IsTotalOrder weight_order
order_total = lists_total int_cmp_total

pub equal_weights : (v w : List ℤ) → weight_order v w ≡ Equal → v ≡ w
equal_weights v w is = slice_cmp-IsAntisymmetric int_cmp-IsAntisymmetric v w is

-- the order tells exactly whether two weights are the same
pub same_weight : (v w : List ℤ) → is_same_weight v w ≡ true → v ≡ w
same_weight v w is = equal_weights v w (equal (weight_order v w) is)
  where
    equal : (o : Ordering) → is_eq o ≡ true → o ≡ Equal
    equal Less h = cc
    equal Equal h = refl
    equal Greater h = cc

pub same_itself : (w : List ℤ) → is_same_weight w w ≡ true
same_itself w = ap is_eq (tied_itself order_total w)

pub above_from_below : (v w : List ℤ) → weight_order v w ≡ Less → weight_order w v ≡ Greater
above_from_below v w is = order_total.antisymm w v ∙ ap ordering_reverse is

pub below_from_above : (v w : List ℤ) → weight_order v w ≡ Greater → weight_order w v ≡ Less
below_from_above v w is = order_total.antisymm w v ∙ ap ordering_reverse is

pub above_above : (u v w : List ℤ) → weight_order u v ≡ Greater → weight_order v w ≡ Greater → weight_order u w ≡ Greater
above_above u v w first second =
    above_from_below w u (order_total.trans w v u (below_from_above v w second) (below_from_above u v first))

pub above_differs : (v w : List ℤ) → weight_order v w ≡ Greater → is_same_weight v w ≡ false
above_differs v w is = ap is_eq is

pub below_differs : (v w : List ℤ) → weight_order v w ≡ Less → is_same_weight v w ≡ false
below_differs v w is = ap is_eq is
