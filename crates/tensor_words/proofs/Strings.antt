-- Strings of words, and arrows turned.
use Rattle.std.proofs.Common.{◌≡◌, ◌∙◌, sym, ap, refl, ℕ, zero, suc, ◌+◌, ◌<◌, min, not, Bool, true, false, List, Option, Some, None, ◌↔◌, arith}
use Rattle.std.specs.Option.{option_map, option_map_or}
use Rattle.crystal_cartan.specs.Crystals.{times_taken}
use Rattle.crystal_cartan.specs.declared.types.Arrow.{Arrow}
use Rattle.tensor_words.specs.Spaces.{SpaceType, HasFactors, size}
use Rattle.tensor_words.specs.Codes.{IsWord, code_of, word_of}
use Rattle.tensor_words.specs.TensorRule.{action}
use Rattle.tensor_words.specs.Operators.{IsArrow, acted, step_of, op}
use Rattle.tensor_words.specs.Laws.{WordsAreSeminormal, LengthsOfStrings, reversed_arrow, ArrowsLeadBack}
use Rattle.tensor_words.proofs.Keeps.{lower_keeps, raise_keeps, operators_keep_words, mapped_some}
use Rattle.tensor_words.proofs.SpaceWords.{IsWord-word_of, word_back, code_back}
use Rattle.tensor_words.proofs.WordWeights.{seminormal_word}

pub words_are_seminormal : WordsAreSeminormal
words_are_seminormal s i w had index word = seminormal_word s i w had index word

-- a step that ends where a length is 0, and takes one from it, can be taken as often as the length says
module _ {E : Type 0} (step : E → Option E) (long : E → ℕ) (Good : E → Type 0)
    (ends : (x : E) → Good x → (step x ≡ None) ↔ (long x ≡ 0))
    (falls : (x y : E) → Good x → step x ≡ Some y → Good y × (long x ≡ long y + 1)) where
  taken : (n : ℕ) (x : E) → Good x → times_taken step n x ≡ min n (long x)
  taken zero x good = omega arith
  taken (suc n) x good =
      elim (step x) as (λ o. step x ≡ o → option_map_or (λ y. times_taken step n y + 1) o 0 ≡ min (suc n) (long x)) [
        | None ↦ λ is. let none : long x ≡ 0 = (ends x good).0 is in omega arith
        | Some y ↦ λ is.
            let next : Good y × (long x ≡ long y + 1) = falls x y good is in
            let rest : times_taken step n y ≡ min n (long y) = taken n y next.0 in
            omega (arith, next.1)
      ] refl

pub lengths_of_strings : LengthsOfStrings
lengths_of_strings s i w had index word = record {
  eps = λ n. taken (action s i).raise (action s i).eps (IsWord s) (λ x good. (seminormal_word s i x had index good).raise_ends)
      (λ x y good is. (raise_keeps s i x y had index good is, ((seminormal_word s i x had index good).raise_counts y is).0)) n w word;
  phi = λ n. taken (action s i).lower (action s i).phi (IsWord s) (λ x good. (seminormal_word s i x had index good).lower_ends)
      (λ x y good is. (lower_keeps s i x y had index good is, ((seminormal_word s i x had index good).lower_counts y is).0)) n w word;
}

-- the reversed arrow undoes the arrow on words
undone : (s : SpaceType) (a : Arrow) (w v : List ℕ) → HasFactors s → IsArrow s a → IsWord s w → acted s a w ≡ Some v → acted s (reversed_arrow a) v ≡ Some w
undone s a w v had arrow word is = at a.down is
  where
    at : (down : Bool) → step_of down (action s a.index) w ≡ Some v → step_of (not down) (action s a.index) v ≡ Some w
    at true made = (seminormal_word s a.index w had arrow.index word).raised_back v made
    at false made = (seminormal_word s a.index w had arrow.index word).lowered_back v made

leads_back : (s : SpaceType) (a : Arrow) (c d : ℕ) → HasFactors s → IsArrow s a → c < size s → op s a c ≡ Some d → op s (reversed_arrow a) d ≡ Some c
unfolding op
leads_back s a c d had arrow below is =
    let m = mapped_some (code_of s) (acted s a (word_of s c)) d is in
    let own : IsWord s (word_of s c) = IsWord-word_of s c below in
    let word : IsWord s m.0 = operators_keep_words s a m.0 (word_of s c) had arrow own m.1 in
    let back : acted s (reversed_arrow a) m.0 ≡ Some (word_of s c) = undone s a (word_of s c) m.0 had arrow own m.1 in
    let same : word_of s d ≡ m.0 = ap (word_of s) (sym m.2) ∙ word_back s m.0 word in
    ap (option_map (code_of s)) (ap (acted s (reversed_arrow a)) same ∙ back) ∙ ap Some (code_back s c below)

pub arrows_lead_back : ArrowsLeadBack
arrows_lead_back s a c d had arrow below other = (
  λ is. leads_back s a c d had arrow below is,
  λ is. at a.down (leads_back s (reversed_arrow a) d c had (record { index = arrow.index }) other is),
)
  where
    at : (down : Bool) → op s (record { down = not (not down); index = a.index }) c ≡ Some d → op s (record { down = down; index = a.index }) c ≡ Some d
    at true made = made
    at false made = made
