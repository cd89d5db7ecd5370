-- The arrows keep to the halves.
use Rattle.std.proofs.Common.{◌≡◌, refl, ◌∙◌, sym, ap, ℕ, nat_lt, Bool, true, false, not, IsTrue, if◌then◌else◌, List, [], ◌∷◌, ◌++◌, length, Some}
use Rattle.crystal_cartan.specs.Types.{CartanType, IsCartan, HasIndex}
use Rattle.crystal_cartan.specs.declared.types.Kind.{Kind}
use Rattle.crystal_cartan.specs.declared.types.Kind.TheVariants.{A, B, C, D}
use Rattle.spin_crystals.specs.declared.signs.Half.{Half}
use Rattle.spin_crystals.specs.declared.signs.Half.TheVariants.{Whole, Plus, Minus}
use Rattle.spin_crystals.specs.Signs.{has_odd_minuses, has_half, is_of_half, HasSpin, KeepsHalves}
use Rattle.spin_crystals.specs.SpinCrystals.{signs_action}
use Rattle.spin_crystals.proofs.Edges.{change, changed, lower-change, raise-change}
use Rattle.spin_crystals.proofs.Strings.{IsReplacement, replaced_some}

pub has_odd_minuses-append : (u v : List Bool) → has_odd_minuses (u ++ v) ≡ (if has_odd_minuses u then not (has_odd_minuses v) else has_odd_minuses v)
has_odd_minuses-append [] v = refl
has_odd_minuses-append (false ∷ u) v = has_odd_minuses-append u v
has_odd_minuses-append (true ∷ u) v =
    rw (has_odd_minuses-append u v) (elim (has_odd_minuses u) as (λ b. not (if b then not (has_odd_minuses v) else has_odd_minuses v) ≡ (if not b then not (has_odd_minuses v) else has_odd_minuses v))
    [ true ↦ twice (has_odd_minuses v) | false ↦ refl ])
  where
    twice : (b : Bool) → not (not b) ≡ b
    twice true = refl
    twice false = refl

part_parity : (p q u v : List Bool) → has_odd_minuses p ≡ has_odd_minuses q → has_odd_minuses (u ++ (p ++ v)) ≡ has_odd_minuses (u ++ (q ++ v))
part_parity p q u v same =
    rw (has_odd_minuses-append u (p ++ v), has_odd_minuses-append u (q ++ v), has_odd_minuses-append p v, has_odd_minuses-append q v, same) refl

change_parity : (t : CartanType) (i : ℕ) → t.kind ≡ D → has_odd_minuses (change t i).old ≡ has_odd_minuses (change t i).new
change_parity t i is =
    elim (nat_lt i t.rank) as (λ b. has_odd_minuses (changed t i b).old ≡ has_odd_minuses (changed t i b).new)
    [ true ↦ refl | false ↦ rw is refl ]

halves_kept : (k : Kind) (half : Half) (v w : List Bool) → (k ≡ D → has_odd_minuses v ≡ has_odd_minuses w) → IsTrue (has_half k half) → is_of_half half v ≡ is_of_half half w
halves_kept k Whole v w parity has = refl
halves_kept A Plus v w parity has = cc
halves_kept A Minus v w parity has = cc
halves_kept B Plus v w parity has = cc
halves_kept B Minus v w parity has = cc
halves_kept C Plus v w parity has = cc
halves_kept C Minus v w parity has = cc
halves_kept D Plus v w parity has = ap not (parity refl)
halves_kept D Minus v w parity has = parity refl

replacement_parity : (m : ℕ) (p q x y : List Bool) → IsReplacement m p q x y → has_odd_minuses p ≡ has_odd_minuses q → has_odd_minuses x ≡ has_odd_minuses y
replacement_parity m p q x y r same =
    ap has_odd_minuses r.source ∙ part_parity p q r.before r.behind same ∙ sym (ap has_odd_minuses r.target)

pub lower_keeps : (t : CartanType) (i : ℕ) (x y : List Bool) → IsCartan t → HasSpin t → HasIndex t i → length x ≡ t.rank →
    (signs_action t i).lower x ≡ Some y → KeepsHalves t x y
lower_keeps t i x y classical spin index size made half has =
    halves_kept t.kind half x y
    (λ is. replacement_parity (change t i).after (change t i).old (change t i).new x y
    (replaced_some (change t i).after (change t i).old (change t i).new x y (sym (lower-change t i x classical spin index size) ∙ made)) (change_parity t i is)) has

pub raise_keeps : (t : CartanType) (i : ℕ) (x y : List Bool) → IsCartan t → HasSpin t → HasIndex t i → length x ≡ t.rank →
    (signs_action t i).raise x ≡ Some y → KeepsHalves t x y
raise_keeps t i x y classical spin index size made half has =
    halves_kept t.kind half x y
    (λ is. replacement_parity (change t i).after (change t i).new (change t i).old x y
    (replaced_some (change t i).after (change t i).new (change t i).old x y (sym (raise-change t i x classical spin index size) ∙ made)) (sym (change_parity t i is))) has
