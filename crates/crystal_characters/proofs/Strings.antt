-- Strings: the codes to which an operator leads one after another.
use Rattle.std.proofs.Common.{◌≡◌, ◌∙◌, refl, ap, ℕ, zero, suc, ◌+◌, ◌≤◌, ◌<◌, Bool, true, false, List, length, Option, Some, None, ℤ, pos, ◌+ℤ◌, ◌-ℤ◌, ◌*ℤ◌, arith}
use Rattle.std.specs.Option.{option_map, option_and_then}
use Rattle.std.proofs.lemmas.Int.{ints}
use Rattle.crystal_cartan.specs.Types.{CartanType, HasIndex, coordinates}
use Rattle.crystal_cartan.specs.Weights.{coordinate, difference_of, root, root_at}
use Rattle.crystal_cartan.specs.Seminormal.{IsSeminormal}
use Rattle.crystal_cartan.specs.declared.types.Arrow.{Arrow}
use Rattle.crystal_cartan.proofs.Coordinates.{length-weight_from, coordinate-weight_from}
use Rattle.tensor_words.specs.Spaces.{SpaceType, IsSpace, size, word_weight}
use Rattle.tensor_words.specs.Codes.{code_of, word_of}
use Rattle.tensor_words.specs.TensorRule.{action}
use Rattle.tensor_words.specs.Operators.{IsArrow, acted, op}
use Rattle.tensor_words.proofs.Keeps.{op_below, op_word}
use Rattle.tensor_words.proofs.KeptWords.{factors_of_space}
use Rattle.tensor_words.proofs.SpaceWords.{IsWord-word_of, code_back}
use Rattle.tensor_words.proofs.WordWeights.{seminormal_word, length-weight_along}
use Rattle.crystal_characters.specs.Characters.{code_weight}
use Rattle.crystal_characters.specs.Reflections.{repeated}

abbrev pub arrow_of : Bool → ℕ → Arrow
arrow_of down i = record { down = down; index = i }

-- the lengths of the strings at the word with this code
abbrev pub eps_of : SpaceType → ℕ → ℕ → ℕ
eps_of s i c = (action s i).eps (word_of s c)

abbrev pub phi_of : SpaceType → ℕ → ℕ → ℕ
phi_of s i c = (action s i).phi (word_of s c)

pub seminormal_code : (s : SpaceType) (i c : ℕ) → IsSpace s → HasIndex s.cartan i → c < size s
    → IsSeminormal s.cartan i (action s i) (word_weight s) (word_of s c)
seminormal_code s i c space index lt = seminormal_word s i (word_of s c) (factors_of_space s space) index (IsWord-word_of s c lt)

-- f_i takes c to d
pub record IsStep (s : SpaceType) (i c d : ℕ) : Type 0 where
  pub above : c < size s
  pub below : d < size s
  pub lowers : op s (arrow_of true i) c ≡ Some d
  pub raises : op s (arrow_of false i) d ≡ Some c
  pub phi : phi_of s i c ≡ phi_of s i d + 1
  pub eps : eps_of s i d ≡ eps_of s i c + 1
  pub falls : code_weight s d ≡ difference_of (code_weight s c) (root s.cartan i)

-- the operator on words that is seen of one on codes
op_acts : (s : SpaceType) (a : Arrow) (c d : ℕ) → IsSpace s → IsArrow s a → c < size s → op s a c ≡ Some d → acted s a (word_of s c) ≡ Some (word_of s d)
op_acts s a c d space fits lt is = op_word s a c space fits lt ∙ ap (option_map (word_of s)) is

acts_op : (s : SpaceType) (a : Arrow) (c d : ℕ) → d < size s → acted s a (word_of s c) ≡ Some (word_of s d) → op s a c ≡ Some d
unfolding op
acts_op s a c d lt is = ap (option_map (code_of s)) is ∙ ap Some (code_back s d lt)

pub lower_step : (s : SpaceType) (i c d : ℕ) → IsSpace s → HasIndex s.cartan i → c < size s → op s (arrow_of true i) c ≡ Some d → IsStep s i c d
lower_step s i c d space index lt is =
    let fits : IsArrow s (arrow_of true i) = record { index = index } in
    let laws = seminormal_code s i c space index lt in
    let acts : (action s i).lower (word_of s c) ≡ Some (word_of s d) = op_acts s (arrow_of true i) c d space fits lt is in
    let counts = laws.lower_counts (word_of s d) acts in
    record {
      above = lt;
      below = op_below s (arrow_of true i) c d space fits lt is;
      lowers = is;
      raises = acts_op s (arrow_of false i) d c lt (laws.raised_back (word_of s d) acts);
      phi = counts.0;
      eps = counts.1;
      falls = laws.weight_falls (word_of s d) acts;
    }

pub raise_step : (s : SpaceType) (i c d : ℕ) → IsSpace s → HasIndex s.cartan i → d < size s → op s (arrow_of false i) d ≡ Some c → IsStep s i c d
raise_step s i c d space index lt is =
    let fits : IsArrow s (arrow_of false i) = record { index = index } in
    let above : c < size s = op_below s (arrow_of false i) d c space fits lt is in
    let acts : (action s i).raise (word_of s d) ≡ Some (word_of s c) = op_acts s (arrow_of false i) d c space fits lt is in
    let laws = seminormal_code s i d space index lt in
    lower_step s i c d space index above (acts_op s (arrow_of true i) c d lt (laws.lowered_back (word_of s c) acts))

-- an operator gives something where its string has a length
some_next : (o : Option ℕ) → (o ≡ None → ⊥) → (d : ℕ) × (o ≡ Some d)
some_next None never = absurd (never refl)
some_next (Some d) never = (d, refl)

no_word : (s : SpaceType) (a : Arrow) (c : ℕ) → IsSpace s → IsArrow s a → c < size s → op s a c ≡ None → acted s a (word_of s c) ≡ None
no_word s a c space fits lt is = op_word s a c space fits lt ∙ ap (option_map (word_of s)) is

pub lowers_on : (s : SpaceType) (i c : ℕ) → IsSpace s → HasIndex s.cartan i → c < size s → 1 ≤ phi_of s i c → (d : ℕ) × IsStep s i c d
lowers_on s i c space index lt more =
    let fits : IsArrow s (arrow_of true i) = record { index = index } in
    let laws = seminormal_code s i c space index lt in
    let found = some_next (op s (arrow_of true i) c) (λ none.
    let ended : phi_of s i c ≡ 0 = laws.lower_ends.0 (no_word s (arrow_of true i) c space fits lt none) in
    omega arith) in
    (found.0, lower_step s i c found.0 space index lt found.1)

pub raises_on : (s : SpaceType) (i d : ℕ) → IsSpace s → HasIndex s.cartan i → d < size s → 1 ≤ eps_of s i d → (c : ℕ) × IsStep s i c d
raises_on s i d space index lt more =
    let fits : IsArrow s (arrow_of false i) = record { index = index } in
    let laws = seminormal_code s i d space index lt in
    let found = some_next (op s (arrow_of false i) d) (λ none.
    let ended : eps_of s i d ≡ 0 = laws.raise_ends.0 (no_word s (arrow_of false i) d space fits lt none) in
    omega arith) in
    (found.0, raise_step s i found.0 d space index lt found.1)

-- one step more at the end is one more step
pub repeated_last : (s : SpaceType) (a : Arrow) (n c d e : ℕ) → repeated s a n c ≡ Some d → op s a d ≡ Some e → repeated s a (suc n) c ≡ Some e
unfolding repeated
repeated_last s a zero c d e way last =
    let same : Some c ≡ Some d = way in
    let at : c ≡ d = cc in
    rw (at, last) refl
repeated_last s a (suc n) c d e way last =
    elim (op s a c) as (λ o. option_and_then (repeated s a n) o ≡ Some d → option_and_then (repeated s a (suc n)) o ≡ Some e) [
      | None ↦ λ none. cc
      | Some b ↦ λ some. repeated_last s a n b d e some last
    ] way

pub repeated_first : (s : SpaceType) (a : Arrow) (n c d e : ℕ) → op s a c ≡ Some d → repeated s a n d ≡ Some e → repeated s a (suc n) c ≡ Some e
unfolding repeated
repeated_first s a n c d e first way = rw first way

-- f_i applied n times takes c to d
pub length_code_weight : (s : SpaceType) (i c : ℕ) → IsSpace s → HasIndex s.cartan i → c < size s → length (code_weight s c) ≡ coordinates s.cartan
unfolding word_weight
length_code_weight s i c space index lt =
    length-weight_along s.cartan i space.cartan index s.factors (word_of s c) space.had (IsWord-word_of s c lt)

pub record IsString (s : SpaceType) (i n c d : ℕ) : Type 0 where
  pub above : c < size s
  pub below : d < size s
  pub lowers : repeated s (arrow_of true i) n c ≡ Some d
  pub raises : repeated s (arrow_of false i) n d ≡ Some c
  pub phi : phi_of s i c ≡ phi_of s i d + n
  pub eps : eps_of s i d ≡ eps_of s i c + n
  pub size : length (code_weight s d) ≡ length (code_weight s c)
  pub falls : (j : ℕ) → 1 ≤ j → j ≤ length (code_weight s c)
      → coordinate (code_weight s d) j +ℤ pos n *ℤ (root_at s.cartan i j +ℤ root_at s.cartan i j) ≡ coordinate (code_weight s c) j

once_times : (x y r : ℤ) (n : ℕ) → y ≡ x -ℤ (r +ℤ r) → (z : ℤ) → z +ℤ pos n *ℤ (r +ℤ r) ≡ y → z +ℤ pos (suc n) *ℤ (r +ℤ r) ≡ x
once_times x y r n step z rest = omega (arith, ints, step, rest)

none_times : (x r : ℤ) → x +ℤ pos 0 *ℤ (r +ℤ r) ≡ x
none_times x r = omega (arith, ints)

last_times : (x y r z : ℤ) (n : ℕ) → z ≡ y -ℤ (r +ℤ r) → y +ℤ pos n *ℤ (r +ℤ r) ≡ x → z +ℤ pos (suc n) *ℤ (r +ℤ r) ≡ x
last_times x y r z n step rest = omega (arith, ints, step, rest)

root_step : (t : CartanType) (i : ℕ) (v w : List ℤ) → v ≡ difference_of w (root t i) → length w ≡ coordinates t
    → (j : ℕ) → 1 ≤ j → j ≤ length w → coordinate v j ≡ coordinate w j -ℤ (root_at t i j +ℤ root_at t i j)
unfolding root
root_step t i v w is size j low high =
    rw is (coordinate-weight_from (length w) (λ k. coordinate w k -ℤ coordinate (root t i) k) j low high
    ∙ ap (λ x. coordinate w j -ℤ x) (coordinate-weight_from (coordinates t) (λ k. root_at t i k +ℤ root_at t i k) j low (omega arith)))

step_size : (s : SpaceType) (i c d : ℕ) → IsStep s i c d → length (code_weight s d) ≡ length (code_weight s c)
step_size s i c d step =
    ap length step.falls ∙ length-weight_from (length (code_weight s c)) (λ k. coordinate (code_weight s c) k -ℤ coordinate (root s.cartan i) k)

pub string_start : (s : SpaceType) (i c : ℕ) → c < size s → IsString s i 0 c c
unfolding repeated
string_start s i c lt = record {
  above = lt;
  below = lt;
  lowers = refl;
  raises = refl;
  phi = omega arith;
  eps = omega arith;
  size = refl;
  falls = λ j low high. none_times (coordinate (code_weight s c) j) (root_at s.cartan i j);
}

-- one step more at the front, and at the end
pub string_first : (s : SpaceType) (i n c d e : ℕ) → IsSpace s → HasIndex s.cartan i → IsStep s i c d → IsString s i n d e → IsString s i (suc n) c e
string_first s i n c d e space index step string = record {
  above = step.above;
  below = string.below;
  lowers = repeated_first s (arrow_of true i) n c d e step.lowers string.lowers;
  raises = repeated_last s (arrow_of false i) n e d c string.raises step.raises;
  phi = omega (arith, step.phi, string.phi);
  eps = omega (arith, step.eps, string.eps);
  size = string.size ∙ step_size s i c d step;
  falls = λ j low high.
      let inside : j ≤ length (code_weight s d) = omega (arith, step_size s i c d step) in
      once_times (coordinate (code_weight s c) j) (coordinate (code_weight s d) j) (root_at s.cartan i j) n
      (root_step s.cartan i (code_weight s d) (code_weight s c) step.falls (length_code_weight s i c space index step.above) j low high)
      (coordinate (code_weight s e) j) (string.falls j low inside);
}

pub string_last : (s : SpaceType) (i n c d e : ℕ) → IsSpace s → HasIndex s.cartan i → IsString s i n c d → IsStep s i d e → IsString s i (suc n) c e
string_last s i n c d e space index string step = record {
  above = string.above;
  below = step.below;
  lowers = repeated_last s (arrow_of true i) n c d e string.lowers step.lowers;
  raises = repeated_first s (arrow_of false i) n e d c step.raises string.raises;
  phi = omega (arith, step.phi, string.phi);
  eps = omega (arith, step.eps, string.eps);
  size = step_size s i d e step ∙ string.size;
  falls = λ j low high.
      let inside : j ≤ length (code_weight s d) = omega (arith, string.size) in
      last_times (coordinate (code_weight s c) j) (coordinate (code_weight s d) j) (root_at s.cartan i j) (coordinate (code_weight s e) j) n
      (root_step s.cartan i (code_weight s e) (code_weight s d) step.falls (length_code_weight s i d space index step.above) j low inside)
      (string.falls j low high);
}

-- phi and eps are the lengths of the strings
pub lowered : (s : SpaceType) (i n c : ℕ) → IsSpace s → HasIndex s.cartan i → c < size s → n ≤ phi_of s i c → (d : ℕ) × IsString s i n c d
lowered s i zero c space index lt few = (c, string_start s i c lt)
lowered s i (suc n) c space index lt few =
    let next = lowers_on s i c space index lt (omega arith) in
    let rest = lowered s i n next.0 space index next.1.below (omega (arith, next.1.phi)) in
    (rest.0, string_first s i n c next.0 rest.0 space index next.1 rest.1)

pub raised : (s : SpaceType) (i n d : ℕ) → IsSpace s → HasIndex s.cartan i → d < size s → n ≤ eps_of s i d → (c : ℕ) × IsString s i n c d
raised s i zero d space index lt few = (d, string_start s i d lt)
raised s i (suc n) d space index lt few =
    let next = raises_on s i d space index lt (omega arith) in
    let rest = raised s i n next.0 space index next.1.above (omega (arith, next.1.eps)) in
    (rest.0, string_last s i n rest.0 next.0 d space index rest.1 next.1)
