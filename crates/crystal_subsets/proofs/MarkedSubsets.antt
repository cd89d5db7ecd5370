-- The marks of a Demazure subset, index by index.
use Rattle.std.proofs.Common.{◌≡◌, ◌∙◌, refl, sym, ap, subst, inl, inr, ℕ, suc, ◌+◌, ◌≤◌, ◌<◌, Bool, true, false, IsTrue, List, [], ◌∷◌, ◌++◌, length, get_or, set, take, drop, replicate, All, Contains, ◌↔◌, arith}
use Rattle.std.proofs.lemmas.Bool.{cases_eq}
use Rattle.std.proofs.lemmas.List.{append-nil, drop_all, drop_more, get_or-replicate, get_or-set_other, get_or_default, length-replicate, take_all}
use Rattle.std.proofs.lemmas.Grind.{get_or-set_at}
use Rattle.std.proofs.lemmas.List.Elements.{All-drop}
use Rattle.std.specs.List.Sorted.{IsStrictlyIncreasing}
use Rattle.crystal_cartan.specs.Types.{HasIndex}
use Rattle.canonical_graph.specs.Graphs.{FinishedType, IsFinished, code_at, lowering}
use Rattle.crystal_subsets.specs.DemazureSubsets.{IsLowered, Demazure}
use Rattle.crystal_subsets.specs.DemazureSubsets.IsLowered.{no_times, once_more}
use Rattle.crystal_subsets.specs.Marks.{is_marked, AreMarkedFrom, marked_ranks}
use Rattle.crystal_subsets.proofs.Lowering.{same_rank}
use Rattle.crystal_subsets.proofs.RankLists.{kept, kept_back, kept_ascend}

-- the marks are at the vertices of a Demazure subset
abbrev pub AreMarked : FinishedType → ℕ → List ℕ → List Bool → Type 0
AreMarked f b indices marks = (rank : ℕ) → rank < length f.codes → IsTrue (is_marked marks rank) ↔ Demazure f.space b indices (code_at f rank)

-- lowering keeps to the graph
lowered_listed : (f : FinishedType) (i : ℕ) → IsFinished f → HasIndex f.space.cartan i → {y x : ℕ} → IsLowered f.space i y x → Contains f.codes y → Contains f.codes x
lowered_listed f i finished index (no_times y) there = there
lowered_listed f i finished index (once_more y z x leads rest) there =
    lowered_listed f i finished index rest (finished.closed (lowering i) y z there (record { index = index }) leads)

pub demazure_listed : (f : FinishedType) (b : ℕ) (indices : List ℕ) (x : ℕ) → IsFinished f → Contains f.codes b → All (HasIndex f.space.cartan) indices
    → Demazure f.space b indices x → Contains f.codes x
demazure_listed f b [] x finished there all is = subst (λ c. Contains f.codes c) (sym is) there
demazure_listed f b (i ∷ rest) x finished there all (y, member, lowered) =
    lowered_listed f i finished (all 0 i (omega arith)) lowered
    (demazure_listed f b rest y finished there (λ k d low. all (suc k) d (omega arith)) member)

-- at the beginning only the start is marked
pub start_marked : (f : FinishedType) (start : ℕ) (marks new : List Bool) → IsFinished f → start < length f.codes → marks ≡ replicate (length f.codes) false
    → new ≡ set marks start true → AreMarked f (code_at f start) [] new
start_marked f start marks new finished below none is rank low = elim (cases_eq rank start) [
  | inl same ↦
      let first : length marks ≡ length f.codes = rw none (length-replicate (length f.codes) false) in
      (λ marked. ap (λ k. code_at f k) same, λ member. rw (is, same) (get_or-set_at marks start start true false refl (omega arith)))
  | inr other ↦
      let unmarked : is_marked new rank ≡ false = rw (is, none) (get_or-set_other (replicate (length f.codes) false) start rank true false other ∙ get_or-replicate (length f.codes) rank false false low) in
      (λ marked. cc, λ member. absurd (other (same_rank f rank start finished low below member)))
]

-- one index more
pub more_marked : (f : FinishedType) (b i : ℕ) (rest : List ℕ) (old new : List Bool) → IsFinished f → Contains f.codes b → All (HasIndex f.space.cartan) rest
    → AreMarked f b rest old → AreMarkedFrom f i old new → AreMarked f b (i ∷ rest) new
more_marked f b i rest old new finished there all before lowered rank low = (
  λ marked.
      let source = (lowered rank low).0 marked in
      (code_at f source.from, (before source.from source.below).0 source.marked, source.lowered),
  λ member.
      let at : Contains f.codes member.0 = demazure_listed f b rest member.0 finished there all member.1 in
      let is : code_at f at.0 ≡ member.0 = get_or_default f.codes at.0 0 member.0 at.1 ∙ at.2 in
      (lowered rank low).1 (record {
        from = at.0;
        below = at.1;
        marked = (before at.0 at.1).1 (rw is member.1);
        lowered = rw is member.2;
      }),
)

-- a list written back in whole
pub written_back : (n : ℕ) (old new : List Bool) → length new ≡ length old → n ≡ length old → take n (new ++ drop (length new) old) ≡ new
written_back n old new size whole =
    let none : drop (length new) old ≡ [] = drop_all (length new) old (omega arith) in
    rw (none, append-nil) (take_all n new (omega arith))

pub next_index : (f : FinishedType) (b place q : ℕ) (indices : List ℕ) (old new back : List Bool) → IsFinished f → Contains f.codes b
    → All (HasIndex f.space.cartan) indices → q + 1 ≡ place → place ≤ length indices → AreMarked f b (drop place indices) old
    → AreMarkedFrom f (get_or indices q 0) old new → back ≡ new → AreMarked f b (drop q indices) back
next_index f b place q indices old new back finished there all next within before lowered is =
    let split : drop q indices ≡ get_or indices q 0 ∷ drop place indices = rw (sym next) (drop_more indices q 0 (omega arith)) in
    rw (split, is) (more_marked f b (get_or indices q 0) (drop place indices) old new finished there (All-drop (HasIndex f.space.cartan) place indices all) before lowered)

pub members_ascend : (marks : List Bool) (keys : List ℕ) → keys ≡ marked_ranks marks → IsStrictlyIncreasing keys
members_ascend marks keys is = subst IsStrictlyIncreasing (sym is) (kept_ascend (is_marked marks) (length marks))

pub members_are : (f : FinishedType) (b : ℕ) (indices : List ℕ) (marks : List Bool) (keys : List ℕ) → length marks ≡ length f.codes → AreMarked f b indices marks
    → keys ≡ marked_ranks marks → (r : ℕ) → Contains keys r ↔ ((r < length f.codes) × Demazure f.space b indices (code_at f r))
members_are f b indices marks keys size marked is r = (
  λ there.
      let back = kept_back (is_marked marks) 0 (length marks) r (subst (λ xs. Contains xs r) is there) in
      let below : r < length f.codes = omega (arith, back.1) in
      (below, (marked r below).0 back.2),
  λ (below, member). subst (λ xs. Contains xs r) (sym is) (kept (is_marked marks) 0 (length marks) r (omega arith) (omega arith) ((marked r below).1 member)),
)
