-- A growth from the roots to its end.
use Rattle.std.proofs.Common.{◌≡◌, ◌∙◌, refl, sym, ap, subst, ℕ, ◌+◌, ◌<◌, ◌≤◌, inl, inr, nat_eq, eqb-true, List, [], ◌∷◌, length, take, get_or, None, Some, true, false, All, Contains, length-append, arith}
use Rattle.std.specs.List.{IsDistinct}
use Rattle.std.specs.List.Sorted.{IsPermutation, IsNonDecreasing}
use Rattle.std.specs.Option.{option_and_then}
use Rattle.std.proofs.lemmas.Bool.Decides.{nat_tests}
use Rattle.std.proofs.lemmas.List.Sorted.{Contains-permutation, IsPermutation-sym, length_permutation}
use Rattle.std.proofs.lemmas.Map.Keys.{IsStrictlyIncreasing-from_distinct, IsDistinct-IsPermutation}
use Rattle.std.specs.Set.{is_member}
use Rattle.std.proofs.lemmas.Bool.{cases_lt}
use Rattle.std.proofs.lemmas.Cmp.{nat_eq_equiv}
use Rattle.std.proofs.lemmas.List.{get_or_default, get_or_append_left, get_or-take, length-take-le}
use Rattle.std.proofs.lemmas.List.Elements.{Contains-get_or}
use Rattle.std.proofs.lemmas.Map.Keys.{apart_from_distinct, IsDistinct-from_apart}
use Rattle.std.proofs.lemmas.Map.Made.{length-le_from_is_member}
use Rattle.std.proofs.lemmas.Map.Views.{list_any-from_Contains, Contains-from_any}
use Rattle.tensor_words.proofs.Walks.{root_reached, reached_more}
use Rattle.crystal_cartan.specs.declared.types.Arrow.{Arrow}
use Rattle.tensor_words.specs.Spaces.{SpaceType, size}
use Rattle.tensor_words.specs.Operators.{op}
use Rattle.tensor_words.specs.Worlds.{WorldType, IsWorld}
use Rattle.tensor_words.specs.Reach.{IsPath, walk, IsReached, Outnumber}
use Rattle.canonical_graph.specs.Graphs.{IsClosedList, IsFinished, finished_graph}
use Rattle.plain_growth.specs.Growth.{IsFollowed, Expands, HasFirstRoots, IsFrontier, HasNexts, IsWholeGrowth, MakesGraph, IsSortedFrom, IsGrownList}
use Rattle.plain_growth.proofs.Expanding.{still_in, old_or_more}

-- an element by its place
place_is : (xs : List ℕ) (c : ℕ) → Contains xs c → (k : ℕ) × (k < length xs) × (get_or xs k 0 ≡ c)
place_is xs c (k, lt, is) = (k, lt, get_or_default xs k 0 c lt ∙ is)

pub first_frontier : (w : WorldType) (found : List ℕ) → IsWorld w → HasFirstRoots w.roots (length w.roots) found → IsFrontier w 0 found
first_frontier w found world roots = record {
  within = omega arith;
  few = omega arith;
  below = below;
  rooted = rooted;
  sound = λ c h. root_reached w.space w.roots c (roots.only c h);
  followed = λ k low. absurd (omega arith);
}
  where
    below : (c : ℕ) → Contains found c → c < size w.space
    below c h =
        let place = place_is w.roots c (roots.only c h) in
        let low : get_or w.roots place.0 0 < size w.space = world.words place.0 0 place.1 in
        rw place.2 at low

    rooted : (c : ℕ) → Contains w.roots c → Contains found c
    rooted c h = let place = place_is w.roots c h in subst (λ x. Contains found x) place.2 (roots.there place.0 place.1)

pub next_frontier : (w : WorldType) (n code : ℕ) (found new : List ℕ) → IsFrontier w n found → n < length found → length found ≤ w.cells
    → code ≡ get_or found n 0 → Expands w.space w.space.cartan.rank code found new → IsFrontier w (n + 1) new
next_frontier w n code found new fr at room is e = record {
  within = omega (arith, ap (λ (xs : List ℕ). length xs) e.is, length-append found e.more);
  few = omega arith;
  below = below;
  rooted = λ c h. still_in found e.more new c e.is (fr.rooted c h);
  sound = sound;
  followed = followed;
}
  where
    below : (c : ℕ) → Contains new c → c < size w.space
    below c h = elim (old_or_more found e.more new c e.is h) [
      | inl before ↦ fr.below c before
      | inr later ↦ (e.only c later).below
    ]

    code_reached : IsReached w code
    code_reached = fr.sound code (subst (λ x. Contains found x) (sym is) (Contains-get_or found n 0 at))

    sound : (c : ℕ) → Contains new c → IsReached w c
    sound c h = elim (old_or_more found e.more new c e.is h) [
      | inl before ↦ fr.sound c before
      | inr later ↦ let n = e.only c later in reached_more w.space w.roots n.arrow code c code_reached n.fits n.leads
    ]

    kept : (k : ℕ) → k < length found → get_or new k 0 ≡ get_or found k 0
    kept k lt = ap (λ (xs : List ℕ). get_or xs k 0) e.is ∙ get_or_append_left found e.more 0 k lt

    followed : (k : ℕ) → k < n + 1 → IsFollowed w.space w.space.cartan.rank (get_or new k 0) new
    followed k low a c fits within leads = elim (cases_lt k n) [
      | inl before ↦ still_in found e.more new c e.is (fr.followed k before a c fits within (rw (kept k (omega arith)) at leads))
      | inr after ↦
          let same : get_or new k 0 ≡ code = kept k (omega arith) ∙ ap (λ j. get_or found j 0) (omega arith) ∙ sym is in
          e.followed a c fits within (rw same at leads)
    ]

pub code_below : (w : WorldType) (n code : ℕ) (found : List ℕ) → IsFrontier w n found → n < length found → code ≡ get_or found n 0 → code < size w.space
code_below w n code found fr at is = fr.below code (subst (λ x. Contains found x) (sym is) (Contains-get_or found n 0 at))

-- the cells do not suffice
pub overfull : (w : WorldType) (n : ℕ) (found : List ℕ) → IsFrontier w n found → IsDistinct nat_eq found → w.cells < length found → Outnumber w
overfull w n found fr distinct over = record {
  codes = take (w.cells + 1) found;
  many = length-take-le (w.cells + 1) found (omega arith);
  distinct = IsDistinct-from_apart nat_eq (take (w.cells + 1) found) apart;
  sound = sound;
}
  where
    many : length (take (w.cells + 1) found) ≡ w.cells + 1
    many = length-take-le (w.cells + 1) found (omega arith)

    apart : (i j d : ℕ) → i < j → j < length (take (w.cells + 1) found) → nat_eq (get_or (take (w.cells + 1) found) i d) (get_or (take (w.cells + 1) found) j d) ≡ false
    apart i j d low high =
        let first : get_or (take (w.cells + 1) found) i d ≡ get_or found i d = get_or-take (w.cells + 1) found i d (omega (arith, many)) in
        let second : get_or (take (w.cells + 1) found) j d ≡ get_or found j d = get_or-take (w.cells + 1) found j d (omega (arith, many)) in
        rw (first, second) (apart_from_distinct nat_eq found i j d distinct low (omega (arith, many)))

    sound : (c : ℕ) → Contains (take (w.cells + 1) found) c → IsReached w c
    sound c h =
        let place = place_is (take (w.cells + 1) found) c h in
        let same : get_or (take (w.cells + 1) found) place.0 0 ≡ get_or found place.0 0 = get_or-take (w.cells + 1) found place.0 0 (omega (arith, many, place.1)) in
        fr.sound c (subst (λ x. Contains found x) (sym same ∙ place.2) (Contains-get_or found place.0 0 (omega (arith, many, place.1))))

walk_closed : (s : SpaceType) (xs : List ℕ) → IsClosedList s xs → (path : List Arrow) (c d : ℕ) → IsPath s path → Contains xs c → walk s path c ≡ Some d → Contains xs d
unfolding walk
walk_closed s xs closed [] c d arrows there leads = let same : c ≡ d = cc in subst (λ x. Contains xs x) same there
walk_closed s xs closed (a ∷ path) c d arrows there leads =
    elim (op s a c) as (λ o. op s a c ≡ o → option_and_then (walk s path) o ≡ Some d → Contains xs d) [
      | None ↦ λ is none. cc
      | Some x ↦ λ is rest. walk_closed s xs closed path x d arrows.1 (closed a c x there arrows.0 is) rest
    ] refl leads

closed_found : (w : WorldType) (n : ℕ) (found : List ℕ) → IsFrontier w n found → length found ≤ n → IsClosedList w.space found
closed_found w n found fr all = λ a c d there fits leads.
    let place = place_is found c there in
    fr.followed place.0 (omega (arith, place.1)) a d fits fits.index.high (rw place.2 leads)

all_reached : (w : WorldType) (n c : ℕ) (found : List ℕ) → IsFrontier w n found → length found ≤ n → IsReached w c → Contains found c
all_reached w n c found fr all r =
    walk_closed w.space found (closed_found w n found fr all) r.path r.root c r.arrows (fr.rooted r.root r.rooted) r.leads

-- the codes that were found, sorted
pub sorted_from : (found xs ys : List ℕ) → xs ≡ found → IsDistinct nat_eq xs → IsPermutation xs ys → IsNonDecreasing ys → IsSortedFrom found ys
sorted_from found xs ys copied distinct moved sorted = record {
  ascending =
      IsStrictlyIncreasing-from_distinct ys sorted
      (IsDistinct-IsPermutation nat_eq flips xs ys moved distinct);
  few = omega (arith, length_permutation xs ys moved, ap (λ (zs : List ℕ). length zs) copied);
  from = λ c h. subst (λ zs. Contains zs c) copied (Contains-permutation ys xs c (IsPermutation-sym xs ys moved) h);
  all = λ c h. Contains-permutation xs ys c moved (subst (λ zs. Contains zs c) (sym copied) h);
}
  where
    flips : (x y : ℕ) → nat_eq x y ≡ nat_eq y x
    flips x y = grind (arith, nat_tests)

pub grown : (w : WorldType) (n : ℕ) (found codes : List ℕ) → IsWorld w → IsFrontier w n found → length found ≤ n → IsDistinct nat_eq found
    → IsSortedFrom found codes → IsGrownList w codes
grown w n found codes world fr all distinct sorted = record {
  finished = record {
    space = world.space;
    ascending = sorted.ascending;
    below = below;
    few = omega (arith, sorted.few, fr.few, world.few);
    closed = λ a c d there fits leads. sorted.all d (closed_found w n found fr all a c d (sorted.from c there) fits leads);
  };
  listed = record {
    ascending = sorted.ascending;
    sound = λ c h. fr.sound c (sorted.from c h);
    complete = λ c r. sorted.all c (all_reached w n c found fr all r);
  };
  fits = fits;
}
  where
    below : All (λ c. c < size w.space) codes
    below k d lt = fr.below (get_or codes k d) (sorted.from (get_or codes k d) (Contains-get_or codes k d lt))

    fits : Outnumber w → ⊥
    fits o = omega (arith, o.many, fr.few, counted o)
      where
        member : (o : Outnumber w) (q : ℕ) → is_member nat_eq o.codes q ≡ true → is_member nat_eq found q ≡ true
        member o q h = list_any-from_Contains nat_eq_equiv q found (all_reached w n q found fr all (o.sound q (Contains-from_any eqb-true q o.codes h)))

        counted : (o : Outnumber w) → length o.codes ≤ length found
        counted o = length-le_from_is_member nat_eq_equiv o.codes found o.distinct (member o)

pub whole : (w : WorldType) (n : ℕ) (found notes : List ℕ) → IsFrontier w n found → length found ≤ n → IsDistinct nat_eq found
    → HasNexts w.space found n notes → IsWholeGrowth w found notes
whole w n found notes fr all distinct lowered =
    let same : n ≡ length found = omega (arith, fr.within) in
    record {
      frontier = rw same at fr;
      distinct = distinct;
      lowered = rw same at lowered;
    }

pub grown_whole : (w : WorldType) (found codes notes : List ℕ) → IsWorld w → IsWholeGrowth w found notes → IsSortedFrom found codes → IsGrownList w codes
grown_whole w found codes notes world whole sorted = grown w (length found) found codes world whole.frontier (omega arith) whole.distinct sorted

pub ended_whole : (w : WorldType) (found notes : List ℕ) → IsWorld w → IsWholeGrowth w found notes → MakesGraph w.space found notes
ended_whole w found notes world whole = record {
  space = world.space;
  below = whole.frontier.below;
  few = omega (arith, whole.frontier.few, world.few);
  closed = closed_found w (length found) found whole.frontier (omega arith);
  distinct = whole.distinct;
  lowered = whole.lowered;
}

-- the graph of a growth that has ended
pub finished_ended : (s : SpaceType) (found codes notes : List ℕ) → MakesGraph s found notes → IsSortedFrom found codes → IsFinished (finished_graph s codes)
finished_ended s found codes notes ended sorted = record {
  space = ended.space;
  ascending = sorted.ascending;
  below = λ k d lt. ended.below (get_or codes k d) (sorted.from (get_or codes k d) (Contains-get_or codes k d lt));
  few = omega (arith, sorted.few, ended.few);
  closed = λ a c d there fits leads. sorted.all d (ended.closed a c d (sorted.from c there) fits leads);
}
