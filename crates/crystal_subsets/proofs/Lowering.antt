-- What lowering leads to, from the marked vertices of a finished graph.
use Rattle.std.proofs.Common.{◌≡◌, ◌∙◌, refl, sym, ap, inl, inr, ℕ, ◌+◌, ◌<◌, Bool, true, false, IsTrue, List, length, set, Option, None, Some, arith}
use Rattle.std.proofs.lemmas.Bool.{cases_lt, cases_eq}
use Rattle.std.specs.Option.{option_and_then}
use Rattle.std.proofs.lemmas.List.{get_or-set_other, length-set}
use Rattle.std.proofs.lemmas.List.Kept.{AllPairs-from_increasing}
use Rattle.std.proofs.lemmas.Grind.{get_or-set_at}
use Rattle.crystal_cartan.specs.Types.{HasIndex}
use Rattle.tensor_words.specs.Spaces.{SpaceType, IsSpace, size}
use Rattle.tensor_words.specs.Codes.{IsWord, code_of, word_of}
use Rattle.tensor_words.specs.TensorRule.{action}
use Rattle.tensor_words.specs.Operators.{acted, op}
use Rattle.tensor_words.proofs.CodeLaws.{codes_correspond}
use Rattle.tensor_words.proofs.Keeps.{mapped_some, acted_keeps}
use Rattle.tensor_words.proofs.KeptWords.{factors_of_space, raise_lowers_code}
use Rattle.tensor_words.proofs.WordWeights.{seminormal_word}
use Rattle.crystal_cartan.specs.declared.types.Arrow.{Arrow}
use Rattle.canonical_graph.specs.Graphs.{FinishedType, IsFinished, code_at, rank_in, target_rank, lowering}
use Rattle.canonical_graph.proofs.Ranks.{place_of_rank, target_of_some}
use Rattle.crystal_subsets.specs.DemazureSubsets.{IsLowered}
use Rattle.crystal_subsets.specs.DemazureSubsets.IsLowered.{no_times, once_more}
use Rattle.crystal_subsets.specs.Marks.{is_marked, marked_on, ComesFrom, AreMarkedFrom}

-- f_i leads to a larger code, since e_i leads back to a smaller one
lowering_rises : (s : SpaceType) (i c d : ℕ) → IsSpace s → HasIndex s.cartan i → c < size s → op s (lowering i) c ≡ Some d → c < d
unfolding op
lowering_rises s i c d space index below leads =
    let m : (v : List ℕ) × (acted s (lowering i) (word_of s c) ≡ Some v) × (code_of s v ≡ d) = mapped_some (code_of s) (acted s (lowering i) (word_of s c)) d leads in
    let own = (codes_correspond s (factors_of_space s space)).0 c below in
    let factors = factors_of_space s space in
    let back : (action s i).raise m.0 ≡ Some (word_of s c) = (seminormal_word s i (word_of s c) factors index own.0).raised_back m.0 m.1 in
    let word : IsWord s m.0 = acted_keeps s (lowering i) (word_of s c) m.0 space (record { index = index }) own.0 m.1 in
    omega (arith, raise_lowers_code s i (word_of s c) m.0 factors index word back, own.1, m.2)

-- one step more at the end
lowered_more : {s : SpaceType} {i y x : ℕ} (z : ℕ) → IsLowered s i y x → op s (lowering i) x ≡ Some z → IsLowered s i y z
lowered_more {s} {i} z (no_times y) leads = once_more y z z leads (no_times z)
lowered_more {s} {i} z (once_more y u x first rest) leads = once_more y u z first (lowered_more z rest leads)

-- the marks of a pass that comes to the vertex of rank n: those of the vertices that come from marked ones, and of the
-- targets of the marked vertices before n
pub record IsPassed (f : FinishedType) (i : ℕ) (old : List Bool) (n : ℕ) (marks : List Bool) : Type 0 where
  pub size : length marks ≡ length f.codes
  pub kept : (rank : ℕ) → rank < length f.codes → IsTrue (is_marked old rank) → IsTrue (is_marked marks rank)
  pub sound : (rank : ℕ) → rank < length f.codes → IsTrue (is_marked marks rank) → ComesFrom f i old rank
  pub closed : (rank target : ℕ) → rank < n → IsTrue (is_marked marks rank) → target_rank f rank (lowering i) ≡ Some target
      → IsTrue (is_marked marks target)

pub pass_begins : (f : FinishedType) (i : ℕ) (old : List Bool) → length old ≡ length f.codes → IsPassed f i old 0 old
pass_begins f i old size = record {
  size = size;
  kept = λ rank below marked. marked;
  sound = λ rank below marked. record { from = rank; below = below; marked = marked; lowered = no_times (code_at f rank) };
  closed = λ rank target before marked leads. absurd (omega arith);
}

marked_at : (marks : List Bool) (t : ℕ) → t < length marks → is_marked (set marks t true) t ≡ true
marked_at marks t below = get_or-set_at marks t t true false refl below

marked_other : (marks : List Bool) (t rank : ℕ) → (rank ≡ t → ⊥) → is_marked (set marks t true) rank ≡ is_marked marks rank
marked_other marks t rank other = get_or-set_other marks t rank true false other

still_marked : (marks : List Bool) (t rank : ℕ) → t < length marks → IsTrue (is_marked marks rank) → IsTrue (is_marked (set marks t true) rank)
still_marked marks t rank below marked = elim (cases_eq rank t) [
  | inl is ↦ rw is (marked_at marks t below)
  | inr other ↦ marked_other marks t rank other ∙ marked
]

-- the ranks of different vertices are in the order of their codes
pub same_rank : (f : FinishedType) (q r : ℕ) → IsFinished f → q < length f.codes → r < length f.codes → code_at f q ≡ code_at f r → q ≡ r
same_rank f q r finished low high is = elim (cases_lt q r) [
  | inl before ↦ absurd (omega (arith, AllPairs-from_increasing f.codes finished.ascending q r 0 before high))
  | inr over ↦ elim (cases_lt r q) [
    | inl after ↦ absurd (omega (arith, AllPairs-from_increasing f.codes finished.ascending r q 0 after low))
    | inr under ↦ omega arith
  ]
]

rank_rises : (f : FinishedType) (q r : ℕ) → IsFinished f → q < length f.codes → r < length f.codes → code_at f q < code_at f r → q < r
rank_rises f q r finished low high rises = elim (cases_lt q r) [
  | inl before ↦ before
  | inr over ↦ elim (cases_eq r q) [
    | inl is ↦ absurd (omega (arith, ap (λ k. code_at f k) is))
    | inr other ↦ absurd (omega (arith, AllPairs-from_increasing f.codes finished.ascending r q 0 (omega arith) low))
  ]
]

-- the target of a vertex
pub target_leads : (f : FinishedType) (rank t : ℕ) (a : Arrow) → target_rank f rank a ≡ Some t
    → (t < length f.codes) × (op f.space a (code_at f rank) ≡ Some (code_at f t))
unfolding target_rank
target_leads f rank t a is =
    elim (op f.space a (code_at f rank)) as (λ o. option_and_then (rank_in f.codes) o ≡ Some t → (t < length f.codes) × (o ≡ Some (code_at f t))) [
      | None ↦ λ none. cc
      | Some d ↦ λ some. let at = place_of_rank f.codes d t some in (at.0, ap Some (sym at.1))
    ] is

module _ (f : FinishedType) (i n : ℕ) (old marks : List Bool) (finished : IsFinished f) (index : HasIndex f.space.cartan i)
    (below : n < length f.codes) (passed : IsPassed f i old n marks) where
  no_more : ((target : ℕ) → IsTrue (is_marked marks n) → target_rank f n (lowering i) ≡ Some target → ⊥) → IsPassed f i old (n + 1) marks
  no_more ends = record {
    size = passed.size;
    kept = passed.kept;
    sound = passed.sound;
    closed = λ rank target before marked leads. elim (cases_lt rank n) [
      | inl earlier ↦ passed.closed rank target earlier marked leads
      | inr last ↦ let is : rank ≡ n = omega arith in absurd (ends target (rw is at marked) (rw is at leads))
    ];
  }

  one_more : (t : ℕ) → IsTrue (is_marked marks n) → target_rank f n (lowering i) ≡ Some t → IsPassed f i old (n + 1) (set marks t true)
  one_more t marked leads = record {
    size = length-set marks t true ∙ passed.size;
    kept = λ rank low was. still_marked marks t rank inside (passed.kept rank low was);
    sound = sound;
    closed = closed;
  }
    where
      at : (t < length f.codes) × (op f.space (lowering i) (code_at f n) ≡ Some (code_at f t))
      at = target_leads f n t (lowering i) leads

      inside : t < length marks
      inside = omega (arith, passed.size, at.0)

      later : n < t
      later = rank_rises f n t finished below at.0 (lowering_rises f.space i (code_at f n) (code_at f t) finished.space index (finished.below n 0 below) at.1)

      sound : (rank : ℕ) → rank < length f.codes → IsTrue (is_marked (set marks t true) rank) → ComesFrom f i old rank
      sound rank low now = elim (cases_eq rank t) [
        | inl is ↦
            let source = passed.sound n below marked in
            rw is (record { from = source.from; below = source.below; marked = source.marked; lowered = lowered_more (code_at f t) source.lowered at.1 })
        | inr other ↦ passed.sound rank low (sym (marked_other marks t rank other) ∙ now)
      ]

      closed : (rank target : ℕ) → rank < n + 1 → IsTrue (is_marked (set marks t true) rank) → target_rank f rank (lowering i) ≡ Some target
          → IsTrue (is_marked (set marks t true) target)
      closed rank target before now next = elim (cases_lt rank n) [
        | inl earlier ↦
            still_marked marks t target inside
            (passed.closed rank target earlier (sym (marked_other marks t rank (λ is. omega (arith, later, is))) ∙ now) next)
        | inr last ↦
            let is : rank ≡ n = omega arith in
            let again : target_rank f n (lowering i) ≡ Some target = rw is at next in
            let same : target ≡ t = cc in
            rw same (marked_at marks t inside)
      ]

  pub pass_goes_on : (new : List Bool) → new ≡ marked_on (is_marked marks n) (target_rank f n (lowering i)) marks → IsPassed f i old (n + 1) new
  pass_goes_on new is = rw is (by (is_marked marks n) (target_rank f n (lowering i)) refl refl)
    where
      by : (b : Bool) (o : Option ℕ) → is_marked marks n ≡ b → target_rank f n (lowering i) ≡ o → IsPassed f i old (n + 1) (marked_on b o marks)
      by false o here leads = no_more (λ target marked next. cc)
      by true None here leads = no_more (λ target marked next. cc)
      by true (Some t) here leads = one_more t here leads

-- all targets of marked vertices are marked
all_marked : (f : FinishedType) (i : ℕ) (old marks : List Bool) → IsFinished f → HasIndex f.space.cartan i → IsPassed f i old (length f.codes) marks
    → {c x : ℕ} → IsLowered f.space i c x → (q r : ℕ) → q < length f.codes → r < length f.codes → code_at f q ≡ c → code_at f r ≡ x
    → IsTrue (is_marked marks q) → IsTrue (is_marked marks r)
all_marked f i old marks finished index passed (no_times y) q r low high first last marked =
    let same : r ≡ q = same_rank f r q finished high low (last ∙ sym first) in
    rw same marked
all_marked f i old marks finished index passed (once_more y z x leads rest) q r low high first last marked =
    let here : op f.space (lowering i) (code_at f q) ≡ Some z = rw first leads in
    let next = target_of_some f q (lowering i) z finished low (record { index = index }) here in
    all_marked f i old marks finished index passed rest next.0 r next.2 high next.3 last (passed.closed q next.0 low marked next.1)

pub pass_ends : (f : FinishedType) (i n : ℕ) (old marks : List Bool) → IsFinished f → HasIndex f.space.cartan i → n ≡ length f.codes
    → IsPassed f i old n marks → AreMarkedFrom f i old marks
pass_ends f i n old marks finished index all passed rank below = (
  passed.sound rank below,
  λ source. all_marked f i old marks finished index (rw all at passed) source.lowered source.from rank source.below below refl refl
      (passed.kept source.from source.below source.marked),
)
