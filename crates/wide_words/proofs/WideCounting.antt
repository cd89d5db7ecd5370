-- The vertices of a closed graph are counted as the reached words are.
use Rattle.std.proofs.Common.{◌≡◌, refl, sym, ap, subst, ◌∙◌, ℕ, ◌+◌, ◌≤◌, true, is_some, List, [], ◌∷◌, length, map, sum_by, arith}
use Rattle.std.specs.List.{range_with_len}
use Rattle.std.proofs.lemmas.List.FromFn.{length-range_with_len}
use Rattle.std.proofs.lemmas.List.Sums.{sum_by-cons, count_by-le-length}
use Rattle.std.proofs.lemmas.List.Sorted.{sum_by-IsPermutation, Contains-permutation, IsPermutation-sym, length_permutation}
use Rattle.tensor_words.specs.Spaces.{SpaceType}
use Rattle.tensor_words.specs.Operators.{op}
use Rattle.tensor_words.specs.Worlds.{WorldType}
use Rattle.tensor_words.specs.Reach.{IsComponentList}
use Rattle.tensor_words.proofs.Walks.{component_list_is_unique}
use Rattle.graph_history.specs.History.{State, state_of, HasVertex}
use Rattle.graph_history.specs.Laws.{IsCodeList}
use Rattle.graph_history.proofs.VertexLists.{keys, length-keys, key_at, has_key, distinct_keys, vertex_in}
use Rattle.graph_history.proofs.SoundStates.{IsSound}
use Rattle.graph_history.proofs.Components.{code}
use Rattle.wide_words.specs.WideSpaces.{whole}
use Rattle.wide_words.specs.WideHistory.{flat}
use Rattle.wide_words.specs.WideCounts.{arrows_at, arrow_sum}
use Rattle.wide_words.specs.WideLaws.{WideClosedIsCounted, CountsAreUnique}
use Rattle.wide_words.proofs.Rising.{in_order, in_order_permutes, in_order_increases}
use Rattle.wide_words.proofs.WideSound.{wide_sound, wide_closed_is_components, reached_cells}

-- a sum over what a list is mapped to
pub sum_mapped : {X Y : Type 0} (f : Y → ℕ) (g : X → Y) (xs : List X) → sum_by f (map g xs) ≡ sum_by (λ x. f (g x)) xs
sum_mapped f g [] = refl
sum_mapped f g (x ∷ xs) =
    sum_by-cons f (g x) (map g xs) ∙ ap (λ n. f (g x) + n) (sum_mapped f g xs) ∙ sym (sum_by-cons (λ z. f (g z)) x xs)

-- the codes of the vertices of a sound state, in order
pub codes_in_order : (w : WorldType) (s : State) → IsSound w s → IsCodeList s (in_order (keys code s.vertices))
codes_in_order w s S = record {
  ascending = in_order_increases codes (distinct_keys code s.vertices S.simple.codes);
  vertices = λ x among.
      let at = key_at code s.vertices x (Contains-permutation (in_order codes) codes x (IsPermutation-sym codes (in_order codes) (in_order_permutes codes)) among) in
      (at.1.cell, subst (λ (q : ℕ). HasVertex s at.1.cell q) at.3 (S.simple.vertex at.0 at.1 at.2));
  all = λ x (c, there).
      let place = vertex_in s.vertices c x there in
      Contains-permutation codes (in_order codes) x (in_order_permutes codes) (has_key code s.vertices place.0 (record { cell = c; code = x }) place.1);
}
  where
    codes : List ℕ
    codes = keys code s.vertices

-- a component list does not depend on the number of cells
pub component_cells : (w : WorldType) (n : ℕ) (codes : List ℕ) → IsComponentList w codes → IsComponentList (record w { cells = n }) codes
component_cells w n codes list = record {
  ascending = list.ascending;
  sound = λ x among. reached_cells w n x (list.sound x among);
  complete = λ x r. list.complete x (reached_cells (record w { cells = n }) w.cells x r);
}

pub wide_closed_is_counted : WideClosedIsCounted
wide_closed_is_counted w h legal closed roots = record {
  codes = in_order codes;
  component = component_cells (flat w) w.capacity (in_order codes)
      (wide_closed_is_components w h (in_order codes) legal closed roots (codes_in_order (flat w) (state_of h) (wide_sound w h legal)));
  many = sym (length-keys code (state_of h).vertices) ∙ sym (length_permutation codes (in_order codes) (in_order_permutes codes));
  drawn = sym (sum_mapped (arrows_at (whole w.space)) code (state_of h).vertices) ∙ sym (sum_by-IsPermutation (arrows_at (whole w.space)) codes (in_order codes) (in_order_permutes codes));
}
  where
    codes : List ℕ
    codes = keys code (state_of h).vertices

-- no more lowering arrows begin at a word than there are indices
pub arrows_few : (s : SpaceType) (x : ℕ) → arrows_at s x ≤ s.cartan.rank
arrows_few s x =
    let few = count_by-le-length (λ (i : ℕ). is_some (op s (record { down = true; index = i }) x)) (range_with_len 1 s.cartan.rank) in
    let long = length-range_with_len 1 s.cartan.rank in
    omega arith

pub counts_are_unique : CountsAreUnique
counts_are_unique w v e v' e' p q =
    let same : p.codes ≡ q.codes = component_list_is_unique w p.codes q.codes p.component q.component in
    (p.many ∙ ap length same ∙ sym q.many, p.drawn ∙ ap (arrow_sum w.space) same ∙ sym q.drawn)
