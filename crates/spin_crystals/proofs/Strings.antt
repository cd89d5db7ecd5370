-- No two arrows of one index follow each other, and the ways down and up undo each other.
use Rattle.std.proofs.Common.{◌≡◌, refl, ◌∙◌, sym, ap, ℕ, zero, suc, ◌+◌, nat_lt, Bool, true, false, if◌then◌else◌, List, [], ◌∷◌, ◌++◌, length, take, drop, Option, Some, None, arith, length-append}
use Rattle.std.specs.Option.{option_map, option_map_or}
use Rattle.std.proofs.lemmas.List.{take-append-drop}
use Rattle.crystal_cartan.specs.Types.{CartanType, IsCartan, HasIndex}
use Rattle.crystal_cartan.specs.Crystals.{Edge, target, origin, times_taken}
use Rattle.crystal_cartan.specs.declared.types.Kind.TheVariants.{A, B, C, D}
use Rattle.spin_crystals.specs.Signs.{same_signs, HasSpin}
use Rattle.spin_crystals.specs.SpinCrystals.{signs_action, spin_edges}
use Rattle.spin_crystals.proofs.Replaced.{replaced, replaced-head}
use Rattle.spin_crystals.proofs.Edges.{change, changed, last_change, lower-change, raise-change, change-lengths}

pub same_signs-self : (x : List Bool) → same_signs x x ≡ true
same_signs-self [] = refl
same_signs-self (true ∷ x) = same_signs-self x
same_signs-self (false ∷ x) = same_signs-self x

pub same_signs_equal : (x y : List Bool) → same_signs x y ≡ true → x ≡ y
same_signs_equal [] [] same = refl
same_signs_equal [] (t ∷ y) same = cc
same_signs_equal (s ∷ x) [] same = cc
same_signs_equal (true ∷ x) (true ∷ y) same = ap (λ z. true ∷ z) (same_signs_equal x y same)
same_signs_equal (true ∷ x) (false ∷ y) same = cc
same_signs_equal (false ∷ x) (true ∷ y) same = cc
same_signs_equal (false ∷ x) (false ∷ y) same = ap (λ z. false ∷ z) (same_signs_equal x y same)

-- what a replacement does: the part p is at its place, and the part q after it
pub record IsReplacement (m : ℕ) (p q x y : List Bool) : Type 0 where
  pub before : List Bool
  pub behind : List Bool
  pub size : length before ≡ m
  pub source : x ≡ before ++ (p ++ behind)
  pub target : y ≡ before ++ (q ++ behind)

first_replaced : (p q x y : List Bool) (b : Bool) → same_signs p (take (length p) x) ≡ b → (if b then Some (q ++ drop (length p) x) else None) ≡ Some y → IsReplacement zero p q x y
first_replaced p q x y true is made =
    let part : p ≡ take (length p) x = same_signs_equal p (take (length p) x) is in
    let whole : p ++ drop (length p) x ≡ x = ap (λ u. u ++ drop (length p) x) part ∙ take-append-drop (length p) x in
    record { before = []; behind = drop (length p) x; size = refl; source = sym whole; target = cc }
first_replaced p q x y false is made = cc

pub replaced_some : (m : ℕ) (p q x y : List Bool) → replaced m p q x ≡ Some y → IsReplacement m p q x y
replaced_some zero p q x y made = first_replaced p q x y (same_signs p (take (length p) x)) refl made
replaced_some (suc m) p q [] y made = cc
replaced_some (suc m) p q (s ∷ x) y made =
    elim (replaced m p q x) as (λ o. replaced m p q x ≡ o → option_map (λ z. s ∷ z) o ≡ Some y → IsReplacement (suc m) p q (s ∷ x) y) [
      | None ↦ λ is e. cc
      | Some z ↦ λ is e.
          let rest : IsReplacement m p q x z = replaced_some m p q x z is in
          let same : s ∷ z ≡ y = cc in
          record {
            before = s ∷ rest.before;
            behind = rest.behind;
            size = ap suc rest.size;
            source = ap (λ u. s ∷ u) rest.source;
            target = sym same ∙ ap (λ u. s ∷ u) rest.target;
          }
    ] refl made

pub replaced_from : (m : ℕ) (p q u v : List Bool) → length u ≡ m → replaced m p q (u ++ (p ++ v)) ≡ Some (u ++ (q ++ v))
replaced_from zero p q [] v size = rw (replaced-head p q p v refl, same_signs-self p) refl
replaced_from zero p q (s ∷ u) v size = absurd (omega arith)
replaced_from (suc m) p q [] v size = absurd (omega arith)
replaced_from (suc m) p q (s ∷ u) v size =
    let rest : length u ≡ m = omega arith in
    rw (replaced_from m p q u v rest) refl

pub replaced_not_from : (m : ℕ) (p q w u v : List Bool) → length u ≡ m → length w ≡ length p → same_signs p w ≡ false → replaced m p q (u ++ (w ++ v)) ≡ None
replaced_not_from zero p q w [] v size width other = rw (replaced-head p q w v width, other) refl
replaced_not_from zero p q w (s ∷ u) v size width other = absurd (omega arith)
replaced_not_from (suc m) p q w [] v size width other = absurd (omega arith)
replaced_not_from (suc m) p q w (s ∷ u) v size width other =
    let rest : length u ≡ m = omega arith in
    rw (replaced_not_from m p q w u v rest width other) refl

pub replaced_back : (m : ℕ) (p q x y : List Bool) → replaced m p q x ≡ Some y → replaced m q p y ≡ Some x
replaced_back m p q x y made =
    let r : IsReplacement m p q x y = replaced_some m p q x y made in
    ap (λ z. replaced m q p z) r.target ∙ replaced_from m q p r.before r.behind r.size ∙ ap Some (sym r.source)

pub replaced_ends : (m : ℕ) (p q x y : List Bool) → length q ≡ length p → same_signs p q ≡ false → replaced m p q x ≡ Some y → replaced m p q y ≡ None
replaced_ends m p q x y width other made =
    let r : IsReplacement m p q x y = replaced_some m p q x y made in
    ap (λ z. replaced m p q z) r.target ∙ replaced_not_from m p q q r.before r.behind r.size width other

pub replaced_length : (m : ℕ) (p q x y : List Bool) → length q ≡ length p → replaced m p q x ≡ Some y → length y ≡ length x
replaced_length m p q x y width made =
    let r : IsReplacement m p q x y = replaced_some m p q x y made in
    let after : length y ≡ length r.before + (length q + length r.behind) = ap length r.target ∙ simp length-append in
    let first : length x ≡ length r.before + (length p + length r.behind) = ap length r.source ∙ simp length-append in
    omega arith

-- ---- the lengths of the strings

one_step : (step : List Bool → Option (List Bool)) (n : ℕ) (x : List Bool) →
    ((y : List Bool) → step x ≡ Some y → step y ≡ None) → (n ≡ 0 → step x ≡ None) →
    times_taken step n x ≡ option_map_or (λ y. 1) (step x) 0
one_step step zero x ends none = rw (none refl) refl
one_step step (suc n) x ends none =
    elim (step x) as (λ o. step x ≡ o → option_map_or (λ y. times_taken step n y + 1) o 0 ≡ option_map_or (λ y. 1) o 0) [
      | None ↦ λ is. refl
      | Some y ↦ λ is. ap (λ k. k + 1) (stopped n y (ends y is))
    ] refl
  where
    stopped : (k : ℕ) (y : List Bool) → step y ≡ None → times_taken step k y ≡ 0
    stopped zero y stop = refl
    stopped (suc k) y stop = rw stop refl

no_target : (es : List (Edge (List Bool))) (i : ℕ) (x : List Bool) → length es ≡ 0 → target same_signs es i x ≡ None
no_target [] i x none = refl
no_target (e ∷ es) i x none = absurd (omega arith)

no_origin : (es : List (Edge (List Bool))) (i : ℕ) (x : List Bool) → length es ≡ 0 → origin same_signs es i x ≡ None
no_origin [] i x none = refl
no_origin (e ∷ es) i x none = absurd (omega arith)

pub parts_differ : (t : CartanType) (i : ℕ) → (same_signs (change t i).old (change t i).new ≡ false) × (same_signs (change t i).new (change t i).old ≡ false)
parts_differ t i =
    elim (nat_lt i t.rank) as (λ b. (same_signs (changed t i b).old (changed t i b).new ≡ false) × (same_signs (changed t i b).new (changed t i b).old ≡ false)) [
      | true ↦ (refl, refl)
      | false ↦ elim t.kind as (λ k. (same_signs (last_change k t.rank).old (last_change k t.rank).new ≡ false) × (same_signs (last_change k t.rank).new (last_change k t.rank).old ≡ false))
          [ A ↦ (refl, refl) | B ↦ (refl, refl) | C ↦ (refl, refl) | D ↦ (refl, refl) ]
    ]

-- phi is 1 where there is an arrow and 0 elsewhere
pub phi-lower : (t : CartanType) (i : ℕ) (x : List Bool) → IsCartan t → HasSpin t → HasIndex t i → length x ≡ t.rank →
    (signs_action t i).phi x ≡ option_map_or (λ y. 1) ((signs_action t i).lower x) 0
unfolding signs_action
phi-lower t i x classical spin index size =
    one_step (target same_signs (spin_edges t i) i) (length (spin_edges t i)) x
    (λ y made.
    let down : replaced (change t i).after (change t i).old (change t i).new x ≡ Some y = sym (lower-change t i x classical spin index size) ∙ made in
    let same : length y ≡ t.rank = replaced_length (change t i).after (change t i).old (change t i).new x y (change-lengths t i) down ∙ size in
    lower-change t i y classical spin index same ∙ replaced_ends (change t i).after (change t i).old (change t i).new x y (change-lengths t i) (parts_differ t i).0 down)
    (no_target (spin_edges t i) i x)

-- and eps likewise
pub eps-raise : (t : CartanType) (i : ℕ) (x : List Bool) → IsCartan t → HasSpin t → HasIndex t i → length x ≡ t.rank →
    (signs_action t i).eps x ≡ option_map_or (λ y. 1) ((signs_action t i).raise x) 0
unfolding signs_action
eps-raise t i x classical spin index size =
    one_step (origin same_signs (spin_edges t i) i) (length (spin_edges t i)) x
    (λ y made.
    let up : replaced (change t i).after (change t i).new (change t i).old x ≡ Some y = sym (raise-change t i x classical spin index size) ∙ made in
    let same : length y ≡ t.rank = replaced_length (change t i).after (change t i).new (change t i).old x y (sym (change-lengths t i)) up ∙ size in
    raise-change t i y classical spin index same ∙ replaced_ends (change t i).after (change t i).new (change t i).old x y (sym (change-lengths t i)) (parts_differ t i).1 up)
    (no_origin (spin_edges t i) i x)
