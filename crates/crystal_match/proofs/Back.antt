-- Walks with an arrow more, and walks back.
use Rattle.std.proofs.Common.{◌≡◌, refl, sym, ap, ◌∙◌, ℕ, ◌<◌, List, [], ◌∷◌, ◌++◌, map, None, Some}
use Rattle.std.specs.Option.{option_and_then}
use Rattle.crystal_cartan.specs.declared.types.Arrow.{Arrow}
use Rattle.tensor_words.specs.Laws.{reversed_arrow}
use Rattle.tensor_words.specs.Spaces.{SpaceType, IsSpace, size}
use Rattle.tensor_words.specs.Operators.{IsArrow, op}
use Rattle.tensor_words.specs.Reach.{IsPath, walk}
use Rattle.tensor_words.proofs.Keeps.{op_below}
use Rattle.tensor_words.proofs.KeptWords.{factors_of_space}
use Rattle.tensor_words.proofs.Strings.{arrows_lead_back}
use Rattle.crystal_match.specs.Relabelling.{relabelled}
use Rattle.crystal_match.specs.Telling.{PointedType}
use Rattle.crystal_match.proofs.Relabels.{turned}
use Rattle.tensor_words.proofs.Walks.{path-push, walk_more}

-- the arrows turned around, from last to first
abbrev pub back : List Arrow → List Arrow
back [] = []
back (a ∷ path) = back path ++ reversed_arrow a ∷ []

turned_arrow : (s : SpaceType) (a : Arrow) → IsArrow s a → IsArrow s (reversed_arrow a)
turned_arrow s a fits = record { index = fits.index }

pub back_path : (s : SpaceType) (path : List Arrow) → IsPath s path → IsPath s (back path)
back_path s [] arrows = tt
back_path s (a ∷ path) arrows = path-push s (back path) (reversed_arrow a) (back_path s path arrows.1) (turned_arrow s a arrows.0)

pub walk_below : (s : SpaceType) (path : List Arrow) (c d : ℕ) → IsSpace s → IsPath s path → c < size s → walk s path c ≡ Some d → d < size s
unfolding walk
walk_below s [] c d space arrows low is = let same : c ≡ d = cc in rw (sym same) low
walk_below s (a ∷ path) c d space arrows low is =
    elim (op s a c) as (λ o. op s a c ≡ o → option_and_then (walk s path) o ≡ Some d → d < size s) [
      | None ↦ λ at none. cc
      | Some x ↦ λ at rest. walk_below s path x d space arrows.1 (op_below s a c x space arrows.0 low at) rest
    ] refl is

pub walk_back : (s : SpaceType) (path : List Arrow) (c d : ℕ) → IsSpace s → IsPath s path → c < size s → walk s path c ≡ Some d → walk s (back path) d ≡ Some c
unfolding walk
walk_back s [] c d space arrows low is = let same : c ≡ d = cc in rw same refl
walk_back s (a ∷ path) c d space arrows low is =
    elim (op s a c) as (λ o. op s a c ≡ o → option_and_then (walk s path) o ≡ Some d → walk s (back path ++ reversed_arrow a ∷ []) d ≡ Some c) [
      | None ↦ λ at none. cc
      | Some x ↦ λ at rest.
          let below : x < size s = op_below s a c x space arrows.0 low at in
          walk_more s (back path) (reversed_arrow a) d x c (walk_back s path x d space arrows.1 below rest)
          ((arrows_lead_back s a c x (factors_of_space s space) arrows.0 low below).0 at)
    ] refl is

-- relabelled with an arrow more
pub map-push : (m : PointedType) (path : List Arrow) (a : Arrow)
    → map (relabelled m.relabel) (path ++ a ∷ []) ≡ map (relabelled m.relabel) path ++ relabelled m.relabel a ∷ []
map-push m [] a = refl
map-push m (b ∷ path) a = ap (λ (xs : List Arrow). relabelled m.relabel b ∷ xs) (map-push m path a)

-- relabelled, then turned around
pub back_relabelled : (m : PointedType) (path : List Arrow) → map (relabelled m.relabel) (back path) ≡ back (map (relabelled m.relabel) path)
back_relabelled m [] = refl
back_relabelled m (a ∷ path) =
    map-push m (back path) (reversed_arrow a)
    ∙ ap (λ (xs : List Arrow). xs ++ relabelled m.relabel (reversed_arrow a) ∷ []) (back_relabelled m path)
    ∙ ap (λ (b : Arrow). back (map (relabelled m.relabel) path) ++ b ∷ []) (turned m a)
