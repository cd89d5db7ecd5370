-- Characters and what they list.
use Rattle.std.proofs.Common.{◌≡◌, ◌∙◌, sym, refl, ap, subst, ◌+◌, ◌<◌, Bool, cond, List, [], ◌∷◌, length, map, get_or, ℤ, All, Contains, arith}
use Rattle.std.specs.List.{count_by}
use Rattle.std.proofs.lemmas.List.{get_or-map, length-map}
use Rattle.std.proofs.lemmas.List.Sums.{sum_by-cons}
use Rattle.crystal_cartan.specs.declared.types.Kind.TheVariants.{A}
use Rattle.crystal_cartan.specs.Weights.{IsSmall}
use Rattle.canonical_graph.specs.Graphs.{FinishedType}
use Rattle.crystal_characters.specs.declared.items.Item.{Item}
use Rattle.crystal_characters.specs.Items.{IsFit}
use Rattle.crystal_characters.specs.Characters.{is_same_weight, code_weight, weights_of, tally, IsCharacter, TalliesAreExact}
use Rattle.crystal_characters.proofs.Tallying.{tally_falls, tally_times, tally_lists, lists_tally, told_at, falling_at, weights_in}

count_mapped : {X Y : Type 0} (p : Y → Bool) (g : X → Y) (xs : List X) → count_by p (map g xs) ≡ count_by (λ x. p (g x)) xs
count_mapped p g [] = refl
count_mapped p g (x ∷ xs) =
    sum_by-cons (λ y. cond (p y) 1 0) (g x) (map g xs) ∙ ap (λ n. cond (p (g x)) 1 0 + n) (count_mapped p g xs)
    ∙ sym (sum_by-cons (λ y. cond (p (g y)) 1 0) x xs)

pub tallies_are_exact : TalliesAreExact
tallies_are_exact ws = record {
  falling = falling_at (tally ws) (tally_falls ws);
  listed = λ w. (tally_lists ws w, lists_tally ws w);
  times = λ k d lt. sym (told_at (tally ws) (tally_falls ws) k d lt) ∙ tally_times (get_or (tally ws) k d).weight ws;
}

pub tally_is_character : (f : FinishedType) → IsCharacter f (tally (weights_of f))
tally_is_character f =
    let exact = tallies_are_exact (weights_of f) in
    record {
      falling = exact.falling;
      listed = exact.listed;
      times = λ k d lt.
          exact.times k d lt ∙ count_mapped (λ v. is_same_weight v (get_or (tally (weights_of f)) k d).weight) (code_weight f.space) f.codes;
    }

-- the weights of a tally of items are weights of items
pub small_tally : (items : List Item) → All IsFit items → All (λ m. IsSmall m.weight) (tally (map (λ x. x.weight) items))
small_tally items fit k d lt =
    let listed : Contains (weights_in (tally ws)) v = (k, omega (arith, length-map (tally ws) (λ m. m.weight)), get_or-map (λ m. m.weight) (tally ws) k d v lt) in
    let there = tally_lists ws v listed in
    let low : there.0 < length items = omega (arith, there.1, length-map items (λ x. x.weight)) in
    let at : (get_or items there.0 any_item).weight ≡ v = sym (get_or-map (λ x. x.weight) items there.0 any_item v low) ∙ there.2 in
    subst IsSmall at (fit there.0 any_item low).small
  where
    ws : List (List ℤ)
    ws = map (λ x. x.weight) items

    v : List ℤ
    v = (get_or (tally ws) k d).weight

    any_item : Item
    any_item = record { cartan = record { kind = A; rank = 1 }; rank = 0; code = 0; weight = []; eps = []; phi = [] }
