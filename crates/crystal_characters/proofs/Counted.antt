-- Counting a weight that is not above any weight of a falling list.
use Rattle.std.proofs.Common.{◌≡◌, ◌∙◌, sym, refl, ap, ℕ, zero, suc, ◌+◌, ◌-◌, ◌≤◌, ◌<◌, Bool, true, false, List, [], ◌∷◌, ◌++◌, length, get_or, set, ℤ, All, arith}
use Rattle.std.proofs.lemmas.List.{get_or_default}
use Rattle.std.specs.Ordering.{is_eq}
use Rattle.std.specs.declared.cmp.Ordering.{Ordering}
use Rattle.std.specs.declared.cmp.Ordering.TheVariants.{Less, Equal, Greater}
use Rattle.crystal_characters.specs.declared.tallies.Multiplicity.{Multiplicity}
use Rattle.crystal_characters.specs.Characters.{weight_order, once, once_more, counted, IsFalling}
use Rattle.crystal_characters.proofs.WeightOrder.{equal_weights, above_from_below, below_from_above, above_above}

pub falling_tail : (m : Multiplicity) (ms : List Multiplicity) → IsFalling (m ∷ ms) → IsFalling ms
falling_tail m ms falling i j d less lt = falling (suc i) (suc j) d (omega arith) (omega arith)

pub counted_last : (ms : List Multiplicity) (w : List ℤ) (k : ℕ) (d : Multiplicity) → IsFalling ms → k + 1 ≡ length ms
    → weight_order w (get_or ms k d).weight ≡ Equal → set ms k (once_more (get_or ms k d)) ≡ counted ms w
counted_last [] w k d falling last same = absurd (omega arith)
counted_last (x ∷ []) w zero d falling last same = rw same refl
counted_last (x ∷ []) w (suc k) d falling last same = absurd (omega arith)
counted_last (x ∷ y ∷ ms) w zero d falling last same = absurd (omega arith)
counted_last (x ∷ y ∷ ms) w (suc k) d falling last same =
    let weight : w ≡ (get_or (y ∷ ms) k d).weight = equal_weights w (get_or (y ∷ ms) k d).weight same in
    let above : weight_order x.weight (get_or (y ∷ ms) k d).weight ≡ Greater = falling 0 (suc k) d (omega arith) (omega arith) in
    let under : weight_order w x.weight ≡ Less = below_from_above x.weight w (ap (weight_order x.weight) weight ∙ above) in
    rw under (ap (λ ns. x ∷ ns) (counted_last (y ∷ ms) w k d (falling_tail x (y ∷ ms) falling) (omega arith) same))

pub counted_new : (ms : List Multiplicity) (w : List ℤ) → IsFalling ms
    → ((k : ℕ) (d : Multiplicity) → k + 1 ≡ length ms → weight_order w (get_or ms k d).weight ≡ Less) → ms ++ once w ∷ [] ≡ counted ms w
counted_new [] w falling under = refl
counted_new (x ∷ []) w falling under =
    let less : weight_order w x.weight ≡ Less = under 0 x (omega arith) in
    rw less refl
counted_new (x ∷ y ∷ ms) w falling under =
    let last : weight_order w (get_or (y ∷ ms) (length ms) x).weight ≡ Less = under (suc (length ms)) x (omega arith) in
    let above : weight_order x.weight (get_or (y ∷ ms) (length ms) x).weight ≡ Greater = falling 0 (suc (length ms)) x (omega arith) (omega arith) in
    let less : weight_order w x.weight ≡ Less =
    below_from_above x.weight w (above_above x.weight (get_or (y ∷ ms) (length ms) x).weight w above (above_from_below w (get_or (y ∷ ms) (length ms) x).weight last)) in
    rw less (ap (λ ns. x ∷ ns) (counted_new (y ∷ ms) w (falling_tail x (y ∷ ms) falling) (λ k d at. under (suc k) d (omega arith))))

pub equal_by_test : (o : Ordering) → is_eq o ≡ true → o ≡ Equal
equal_by_test Less h = cc
equal_by_test Equal h = refl
equal_by_test Greater h = cc

pub less_by_tests : (o : Ordering) → is_eq o ≡ false → (o ≡ Greater → ⊥) → o ≡ Less
less_by_tests Less h never = refl
less_by_tests Equal h never = cc
less_by_tests Greater h never = absurd (never refl)

read_same : (ms : List Multiplicity) (k : ℕ) (x d : Multiplicity) → k < length ms → x ≡ get_or ms k x → get_or ms k d ≡ x
read_same ms k x d lt read = get_or_default ms k d x lt ∙ sym read

-- the same, as the last weight is read and compared
pub count_at_last : (ms : List Multiplicity) (w : List ℤ) (k n : ℕ) (x m : Multiplicity) (o : Ordering) (b : Bool) → IsFalling ms → 0 < n → n ≡ length ms → k ≡ n - 1
    → x ≡ get_or ms k x → m ≡ get_or ms k m → o ≡ weight_order w x.weight → b ≡ is_eq o → b ≡ true → set ms k (once_more m) ≡ counted ms w
count_at_last ms w k n x m o b falling some size last read taken compared tested true_is =
    let same : get_or ms k m ≡ x = read_same ms k x m (omega arith) read in
    let equal : weight_order w (get_or ms k m).weight ≡ Equal =
    ap (λ y. weight_order w y.weight) same ∙ sym compared ∙ equal_by_test o (sym tested ∙ true_is) in
    ap (λ y. set ms k (once_more y)) taken ∙ counted_last ms w k m falling (omega arith) equal

pub count_behind : (ms : List Multiplicity) (w : List ℤ) (k n : ℕ) (x : Multiplicity) (o : Ordering) (b : Bool) → IsFalling ms
    → All (λ m. weight_order w m.weight ≡ Greater → ⊥) ms → 0 < n → n ≡ length ms → k ≡ n - 1
    → x ≡ get_or ms k x → o ≡ weight_order w x.weight → b ≡ is_eq o → b ≡ false → ms ++ once w ∷ [] ≡ counted ms w
count_behind ms w k n x o b falling least some size last read compared tested false_is =
    counted_new ms w falling (λ j d at.
    let place : j ≡ k = omega arith in
    let lt : j < length ms = omega arith in
    let same : get_or ms j d ≡ x = ap (λ i. get_or ms i d) place ∙ read_same ms k x d (omega arith) read in
    let here : weight_order w (get_or ms j d).weight ≡ o = ap (λ y. weight_order w y.weight) same ∙ sym compared in
    less_by_tests (weight_order w (get_or ms j d).weight) (ap is_eq here ∙ sym tested ∙ false_is) (least j d lt))

pub count_first : (ms : List Multiplicity) (w : List ℤ) (n : ℕ) → n ≡ length ms → n ≤ 0 → ms ++ once w ∷ [] ≡ counted ms w
count_first [] w n size none = refl
count_first (m ∷ ms) w n size none = absurd (omega arith)
