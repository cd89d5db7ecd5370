-- Lifting a word: the words on the way.
use Rattle.std.proofs.Common.{◌≡◌, ◌∙◌, sym, ap, ℕ, ◌+◌, ◌≤◌, ◌<◌, ◌≢◌, List, [], ◌∷◌, ◌++◌, length, Some, None, All, inl, inr, arith, append_assoc, length-append}
use Rattle.std.specs.List.{AllPairs}
use Rattle.std.proofs.lemmas.Bool.{cases_lt}
use Rattle.std.proofs.lemmas.Option.{none-some}
use Rattle.std.proofs.lemmas.List.Elements.{All-cons}
use Rattle.std.proofs.lemmas.List.Kept.{AllPairs-cons}
use Rattle.crystal_cartan.specs.Types.{HasIndex}
use Rattle.tensor_words.specs.Spaces.{SpaceType, IsSpace}
use Rattle.tensor_words.specs.Codes.{IsWord}
use Rattle.tensor_words.specs.TensorRule.{action}
use Rattle.tensor_words.specs.Operators.{IsTop}
use Rattle.tensor_words.proofs.Keeps.{raise_keeps}
use Rattle.tensor_words.proofs.KeptWords.{digit_sum, digit_sum_few, factors_of_space, raise_lowers_sum}
use Rattle.tensor_words.proofs.WordWeights.{seminormal_word}
use Rattle.signature_rule.specs.Lifts.{IsLeastRaise, LiftsBy, IsLift}
use Rattle.signature_rule.specs.Lifts.LiftsBy.{at_top, raised}

pub raise_falls : (s : SpaceType) (w v : List ℕ) → IsSpace s → IsWord s w → IsLeastRaise s w v → IsWord s v × (digit_sum v < digit_sum w)
raise_falls s w v space word r =
    (raise_keeps s r.at w v (factors_of_space s space) r.index word r.raised, raise_lowers_sum s r.at v w (factors_of_space s space) r.index word r.raised)

-- the sums of the digits do not rise on the way
lifts_below : {s : SpaceType} {w top : List ℕ} {way : List (List ℕ)} → LiftsBy s w top way → IsSpace s → IsWord s w → All (λ u. digit_sum u ≤ digit_sum w) way
lifts_below (at_top w h) space word = All-cons (λ u. digit_sum u ≤ digit_sum w) w [] (omega arith) (λ k d low. absurd (omega arith))
lifts_below {s} (raised w v top way r rest) space word =
    let falls = raise_falls s w v space word r in
    let later : All (λ u. digit_sum u ≤ digit_sum v) way = lifts_below rest space falls.0 in
    All-cons (λ u. digit_sum u ≤ digit_sum w) w way (omega arith) (λ k d low. omega (arith, later k d low, falls.1))

lifts_distinct : {s : SpaceType} {w top : List ℕ} {way : List (List ℕ)} → LiftsBy s w top way → IsSpace s → IsWord s w → AllPairs (λ u v. u ≢ v) way
lifts_distinct (at_top w h) space word =
    AllPairs-cons (λ u v. u ≢ v) w [] (λ k d low. absurd (omega arith)) (λ i j d low high. absurd (omega arith))
lifts_distinct {s} (raised w v top way r rest) space word =
    let falls = raise_falls s w v space word r in
    let later : All (λ u. digit_sum u ≤ digit_sum v) way = lifts_below rest space falls.0 in
    AllPairs-cons (λ u v. u ≢ v) w way (λ k d low same. omega (arith, later k d low, falls.1, ap digit_sum same)) (lifts_distinct rest space falls.0)

-- v is reached from w by n raises, and lifting goes on from there
pub record IsLifting (s : SpaceType) (w v : List ℕ) (n : ℕ) : Type 0 where
  pub done : List (List ℕ)
  pub count : length done ≡ n
  pub rest : (top : List ℕ) (way : List (List ℕ)) → LiftsBy s v top way → LiftsBy s w top (done ++ way)
  pub word : IsWord s v
  pub falls : n + digit_sum v ≤ digit_sum w

pub lifting_more : (s : SpaceType) (w v u : List ℕ) (n : ℕ) → IsSpace s → IsLifting s w v n → IsLeastRaise s v u → IsLifting s w u (n + 1)
lifting_more s w v u n space p r =
    let falls = raise_falls s v u space p.word r in
    record {
      done = p.done ++ v ∷ [];
      count = length-append p.done (v ∷ []) ∙ omega (arith, p.count);
      rest = λ top way l. rw append_assoc (p.rest top (v ∷ way) (raised v u top way r l));
      word = falls.0;
      falls = omega (arith, p.falls, falls.1);
    }

pub lifting_end : (s : SpaceType) (w v : List ℕ) (n : ℕ) → IsSpace s → IsWord s w → IsLifting s w v n → IsTop s v → IsLift s w v n
lifting_end s w v n space word p top =
    let whole : LiftsBy s w v (p.done ++ v ∷ []) = p.rest v (v ∷ []) (at_top v top) in
    record {
      way = p.done ++ v ∷ [];
      lifted = whole;
      count = length-append p.done (v ∷ []) ∙ omega (arith, p.count);
      distinct = lifts_distinct whole space word;
      highest = top;
    }

pub lifting_few : (s : SpaceType) (w v : List ℕ) (n : ℕ) → IsSpace s → IsWord s w → IsLifting s w v n → n + digit_sum v ≤ 10240
lifting_few s w v n space word p = omega (arith, p.falls, space.few, digit_sum_few s.cartan s.factors w space.cartan word)

-- no index below k raises
abbrev pub AllEnded : SpaceType → List ℕ → ℕ → Type 0
AllEnded s w k = (i : ℕ) → HasIndex s.cartan i → i < k → (action s i).eps w ≡ 0

pub ended_more : (s : SpaceType) (w : List ℕ) (k : ℕ) → IsSpace s → IsWord s w → HasIndex s.cartan k → AllEnded s w k → (action s k).raise w ≡ None → AllEnded s w (k + 1)
ended_more s w k space word index before none = λ i at low.
    elim (cases_lt i k) [
      | inl below ↦ before i at below
      | inr least ↦
          let same : k ≡ i = omega arith in
          rw same at ((seminormal_word s k w (factors_of_space s space) index word).raise_ends.0 none)
    ]

pub least_found : (s : SpaceType) (w v : List ℕ) (k : ℕ) → IsSpace s → IsWord s w → HasIndex s.cartan k → AllEnded s w k → (action s k).raise w ≡ Some v → IsLeastRaise s w v
least_found s w v k space word index before made = record {
  at = k;
  index = index;
  some = λ ended.
      let none : (action s k).raise w ≡ None = (seminormal_word s k w (factors_of_space s space) index word).raise_ends.1 ended in
      none-some v (sym none ∙ made);
  least = before;
  raised = made;
}
