-- What following the operators adds to those found.
use Rattle.std.proofs.Common.{◌≡◌, ◌∙◌, refl, sym, ap, subst, ℕ, ◌+◌, ◌<◌, ◌≤◌, ◌⊎◌, inl, inr, Bool, true, false, if◌then◌else◌, List, [], ◌++◌, length, get_or, Option, None, Some, Contains, append_assoc, arith}
use Rattle.std.proofs.lemmas.Bool.{cases_lt}
use Rattle.std.proofs.lemmas.List.{append-nil, get_or_append_left, length-append}
use Rattle.std.proofs.lemmas.List.Elements.{Contains-append_left, Contains-append_cases, Contains-get_or}
use Rattle.crystal_cartan.specs.Types.{HasIndex}
use Rattle.tensor_words.specs.Spaces.{SpaceType, IsSpace, size}
use Rattle.tensor_words.specs.Operators.{op}
use Rattle.tensor_words.proofs.Keeps.{op_below}
use Rattle.canonical_graph.specs.Tables.{arrow_to}
use Rattle.plain_growth.specs.Growth.{AddsCode, Follows, IsFollowed, IsNeighbour, Expands, HasFirstRoots}
use Rattle.plain_growth.proofs.Adding.{none_in}

pub still_in : (old more new : List ℕ) (c : ℕ) → new ≡ old ++ more → Contains old c → Contains new c
still_in old more new c is there = subst (λ xs. Contains xs c) (sym is) (Contains-append_left old more c there)

pub old_or_more : (old more new : List ℕ) (c : ℕ) → new ≡ old ++ more → Contains new c → Contains old c ⊎ Contains more c
old_or_more old more new c is there = Contains-append_cases old more c (subst (λ xs. Contains xs c) is there)

pub longer : (old mid new a b : List ℕ) → mid ≡ old ++ a → new ≡ mid ++ b → length old ≤ length new
longer old mid new a b first second =
    let one : length mid ≡ length old + length a = ap (λ (xs : List ℕ). length xs) first ∙ length-append old a in
    let two : length new ≡ length mid + length b = ap (λ (xs : List ℕ). length xs) second ∙ length-append mid b in
    omega arith

-- the code at a place is still there where more are found
pub at_place : (old mid new a b : List ℕ) (k code : ℕ) → mid ≡ old ++ a → new ≡ mid ++ b → k < length old → code ≡ get_or old k 0 → code ≡ get_or new k 0
at_place old mid new a b k code first second lt is =
    let within : k < length mid = omega (arith, lt, ap (λ (xs : List ℕ). length xs) first, length-append old a) in
    is ∙ sym (ap (λ (xs : List ℕ). get_or xs k 0) first ∙ get_or_append_left old a 0 k lt) ∙ sym (ap (λ (xs : List ℕ). get_or xs k 0) second ∙ get_or_append_left mid b 0 k within)

pub follows_zero : (next : Option ℕ) (old : List ℕ) → next ≡ None → Follows next old old
follows_zero next old zero_is = record {
  more = [];
  is = sym (append-nil old);
  there = λ c is. cc;
  only = λ c h. none_in c h;
}

pub follows_some : (next : Option ℕ) (code : ℕ) (old new : List ℕ) → next ≡ Some code → AddsCode old code new → Follows next old new
follows_some next code old new leads added = record {
  more = added.more;
  is = added.is;
  there = λ c is. let same : code ≡ c = cc in subst (λ x. Contains new x) same added.there;
  only = λ c h. let same : c ≡ code = added.only c h in rw same leads;
}

-- what is known to be found need not be followed
pub follows_unless : (known : Bool) (next : Option ℕ) (old new : List ℕ) → (known ≡ true → (c : ℕ) → next ≡ Some c → Contains old c)
    → Follows (if known then None else next) old new → Follows next old new
follows_unless true next old new there f = record {
  more = f.more;
  is = f.is;
  there = λ c is. still_in old f.more new c f.is (there refl c is);
  only = λ c h. let none : None ≡ Some c = f.only c h in cc;
}
follows_unless false next old new there f = f

pub expands_none : (s : SpaceType) (code : ℕ) (old : List ℕ) → Expands s 0 code old old
expands_none s code old = record {
  more = [];
  is = sym (append-nil old);
  followed = λ a c fits low leads. absurd (omega (arith, fits.index.low));
  only = λ c h. none_in c h;
}

pub expands_more : (s : SpaceType) (n i code : ℕ) (old mid half new : List ℕ) → IsSpace s → code < size s → n + 1 ≡ i → HasIndex s.cartan i → Expands s n code old mid
    → Follows (op s (arrow_to true i) code) mid half → Follows (op s (arrow_to false i) code) half new → Expands s (n + 1) code old new
expands_more s n i code old mid half new space lt next index e low high = record {
  more = (e.more ++ low.more) ++ high.more;
  is = whole;
  followed = followed;
  only = only;
}
  where
    whole : new ≡ old ++ ((e.more ++ low.more) ++ high.more)
    whole =
        high.is ∙ ap (λ xs. xs ++ high.more) (low.is ∙ ap (λ xs. xs ++ low.more) e.is) ∙ ap (λ xs. xs ++ high.more) (append_assoc old e.more low.more) ∙ append_assoc old (e.more ++ low.more) high.more

    last : (down : Bool) (j c : ℕ) → j ≡ i → op s (arrow_to down j) code ≡ Some c → Contains new c
    last true j c same leads = still_in half high.more new c high.is (low.there c (rw same at leads))
    last false j c same leads = high.there c (rw same at leads)

    followed : IsFollowed s (n + 1) code new
    followed a c fits within leads = elim (cases_lt n a.index) [
      | inl over ↦ last a.down a.index c (omega arith) leads
      | inr under ↦ still_in half high.more new c high.is (still_in mid low.more half c low.is (e.followed a c fits under leads))
    ]

    by_arrow : (down : Bool) (c : ℕ) → op s (arrow_to down i) code ≡ Some c → IsNeighbour s code c
    by_arrow down c leads = record {
      arrow = arrow_to down i;
      fits = record { index = index };
      leads = leads;
      below = op_below s (arrow_to down i) code c space (record { index = index }) lt leads;
    }

    only : (c : ℕ) → Contains ((e.more ++ low.more) ++ high.more) c → IsNeighbour s code c
    only c h = elim (Contains-append_cases (e.more ++ low.more) high.more c h) [
      | inl before ↦ elim (Contains-append_cases e.more low.more c before) [
        | inl first ↦ e.only c first
        | inr second ↦ by_arrow true c (low.only c second)
      ]
      | inr third ↦ by_arrow false c (high.only c third)
    ]

pub no_roots : (roots : List ℕ) → HasFirstRoots roots 0 []
no_roots roots = record { there = λ j low. absurd (omega arith); only = λ c h. none_in c h }

pub more_roots : (roots old new : List ℕ) (k code : ℕ) → k < length roots → code ≡ get_or roots k 0 → HasFirstRoots roots k old → AddsCode old code new
    → HasFirstRoots roots (k + 1) new
more_roots roots old new k code lt is have added = record {
  there = there;
  only = only;
}
  where
    there : (j : ℕ) → j < k + 1 → Contains new (get_or roots j 0)
    there j low = elim (cases_lt j k) [
      | inl before ↦ still_in old added.more new (get_or roots j 0) added.is (have.there j before)
      | inr after ↦ let same : j ≡ k = omega arith in rw same (subst (λ x. Contains new x) is added.there)
    ]

    only : (c : ℕ) → Contains new c → Contains roots c
    only c h = elim (old_or_more old added.more new c added.is h) [
      | inl before ↦ have.only c before
      | inr later ↦ let same : get_or roots k 0 ≡ c = sym (added.only c later ∙ is) in subst (λ x. Contains roots x) same (Contains-get_or roots k 0 lt)
    ]
