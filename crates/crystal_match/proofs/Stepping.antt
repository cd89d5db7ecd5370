-- The steps of a search.
use Rattle.std.proofs.Common.{◌≡◌, refl, sym, ap, subst, ◌∙◌, ℕ, ◌+◌, ◌*◌, ◌<◌, ◌≤◌, ◌⊎◌, inl, inr, Bool, true, false, List, [], ◌∷◌, ◌++◌, map, length, length-append, Option, Some, None, Contains, arith}
use Rattle.std.proofs.Math.Nat.{mul-le-mul_right}
use Rattle.std.proofs.lemmas.Bool.{cases_lt}
use Rattle.std.proofs.lemmas.List.{get_or_append_left, get_or_push, get_or_default}
use Rattle.crystal_cartan.specs.declared.types.Arrow.{Arrow}
use Rattle.tensor_words.specs.Spaces.{size}
use Rattle.tensor_words.specs.Operators.{IsArrow, op}
use Rattle.tensor_words.specs.Reach.{walk}
use Rattle.crystal_match.specs.declared.search.PairOrigin.{PairOrigin}
use Rattle.crystal_match.specs.Relabelling.{relabelled}
use Rattle.crystal_match.specs.Listings.{pair_at, no_arrow}
use Rattle.crystal_match.specs.Telling.{PointedType, IsPointed, AreEndsApart}
use Rattle.signature_rule.specs.ArrowOrder.{arrow_place}
use Rattle.crystal_match.specs.Search.{IsEntered, walk_at, origin_at, AreWalks, number, step_number, Leads, IsFollowed, IsTried, IsSearch, FollowsPair}
use Rattle.crystal_match.proofs.Numbers.{place_below, same_arrow, numbered-push}
use Rattle.crystal_match.proofs.Relabels.{rank_some, relabelled_path}
use Rattle.crystal_match.proofs.Back.{walk_below, map-push}
use Rattle.tensor_words.proofs.Walks.{path-push, walk-nil, walk-push}

-- the last element, or one before
last_or : {X : Type 0} (xs : List X) (x : X) (j : ℕ) → j < length (xs ++ x ∷ []) → (j < length xs) ⊎ (j ≡ length xs)
last_or xs x j low = elim (cases_lt j (length xs)) [
  | inl before ↦ inl before
  | inr over ↦ inr (omega (arith, over, low, length-append xs (x ∷ [])))
]

was_followed : (n at j place : ℕ) → IsTried (n + 1) at j place → IsTried n at j place ⊎ ((j ≡ at) × (place ≡ n))
was_followed n at j place (inl before) = inl (inl before)
was_followed n at j place (inr (here, low)) = elim (cases_lt place n) [
  | inl done ↦ inl (inr (here, done))
  | inr over ↦ inr (here, omega (arith, over, low))
]

pub begun : (m : PointedType) → IsPointed m → IsSearch m 0 0 0 ((m.first, m.second) ∷ []) []
begun m is = record {
  walks = [] ∷ [];
  are_walks = record { count = refl; first = refl; from = λ j low. absurd (omega (arith, low)); next = λ j low. absurd (omega (arith, low)) };
  count = refl;
  begun = omega arith;
  within = omega arith;
  marks = refl;
  leads = λ j low. let z : j ≡ 0 = omega (arith, low) in rw z start;
  never_apart = λ j low. let z : j ≡ 0 = omega (arith, low) in rw z alike;
  rising = λ i j less low. absurd (omega (arith, less, low));
  early = λ j there low. let z : j ≡ 0 = omega (arith, low) in rw z (omega (arith, some));
  followed = λ j a low fits followed. absurd (not_followed j (arrow_place m.space.cartan.rank a) followed);
  level = 0;
  shorter = λ j low. absurd (omega (arith, low));
  same = λ j low high. absurd (omega (arith, high));
  longer = λ j low high. let z : j ≡ 0 = omega (arith, high) in rw z refl;
}
  where
    start : Leads m [] (m.first, m.second)
    start = record { arrows = tt; first = walk-nil m.space m.first; second = walk-nil m.space m.second }

    alike : AreEndsApart m (Some m.first) (Some m.second) → ⊥
    alike (inl h) = h.1 refl
    alike (inr h) = h.0 refl

    some : 1 ≤ m.space.cartan.rank
    some = rank_some m is

    not_followed : (j place : ℕ) → IsTried 0 0 j place → ⊥
    not_followed j place (inl low) = omega (arith, low)
    not_followed j place (inr h) = omega (arith, h.1)

module _ (m : PointedType) (at end : ℕ) (found : List (ℕ × ℕ)) (origins : List PairOrigin) where
  abbrev rank : ℕ
  rank = m.space.cartan.rank

  -- the next pair
  pub next_pair : (n : ℕ) → n ≡ m.space.cartan.rank + m.space.cartan.rank → IsSearch m n at end found origins → at < end → IsSearch m 0 (at + 1) end found origins
  next_pair n all s low = record {
    walks = s.walks;
    are_walks = s.are_walks;
    count = s.count;
    begun = omega (arith, low);
    within = s.within;
    marks = s.marks;
    leads = s.leads;
    never_apart = s.never_apart;
    rising = s.rising;
    early = λ j there within.
        let old = s.early j (omega (arith, there)) within in
        let rises = s.rising at (at + 1) (omega arith) there in
        let up : (number m (walk_at s.walks at) + 1) * (rank + rank) ≤ number m (walk_at s.walks (at + 1)) * (rank + rank) = mul-le-mul_right (rank + rank) (omega (arith, rises)) in
        omega (arith, old, up, all);
    followed = λ j a within fits followed. s.followed j a within fits (earlier j a fits followed);
    level = s.level;
    shorter = s.shorter;
    same = λ j above below. s.same j (omega (arith, above)) below;
    longer = s.longer;
  }
    where
      earlier : (j : ℕ) (a : Arrow) → IsArrow m.space a → IsTried 0 (at + 1) j (arrow_place m.space.cartan.rank a) → IsTried n at j (arrow_place m.space.cartan.rank a)
      earlier j a fits (inl before) = elim (cases_lt j at) [
        | inl old ↦ inl old
        | inr over ↦ inr (omega (arith, before, over), omega (arith, all, place_below m.space a fits))
      ]
      earlier j a fits (inr h) = absurd (omega (arith, h.1))

  -- the next level
  pub next_level : IsSearch m 0 at end found origins → at ≡ end → at < length found → IsSearch m 0 at (length found) found origins
  next_level s here low = record {
    walks = s.walks;
    are_walks = s.are_walks;
    count = s.count;
    begun = omega (arith, low);
    within = omega arith;
    marks = s.marks;
    leads = s.leads;
    never_apart = s.never_apart;
    rising = s.rising;
    early = s.early;
    followed = s.followed;
    level = s.level + 1;
    shorter = λ j within. elim (cases_lt j end) [
      | inl old ↦ omega (arith, s.shorter j old)
      | inr over ↦ omega (arith, s.longer j over within)
    ];
    same = λ j above within. omega (arith, s.longer j (omega (arith, above, here)) within);
    longer = λ j above within. absurd (omega (arith, above, within));
  }

  module _ (n : ℕ) (a : Arrow) (s : IsSearch m n at end found origins) (low : at < end) (fits : IsArrow m.space a) (place : arrow_place m.space.cartan.rank a ≡ n) where
    there : at < length found
    there = omega (arith, low, s.within)

    -- the arrow leads to none, or to a pair that was found
    stay : IsFollowed m found s.walks (step_number m s.walks at n) (op m.space a (pair_at found at).0) (op m.space (relabelled m.relabel a) (pair_at found at).1)
        → IsSearch m (n + 1) at end found origins
    stay ends = record {
      walks = s.walks;
      are_walks = s.are_walks;
      count = s.count;
      begun = s.begun;
      within = s.within;
      marks = s.marks;
      leads = s.leads;
      never_apart = s.never_apart;
      rising = s.rising;
      early = λ j here within. omega (arith, s.early j here within);
      followed = all_followed;
      level = s.level;
      shorter = s.shorter;
      same = s.same;
      longer = s.longer;
    }
      where
        all_followed : (j : ℕ) (b : Arrow) → j < length found → IsArrow m.space b → IsTried (n + 1) at j (arrow_place m.space.cartan.rank b)
            → IsFollowed m found s.walks (step_number m s.walks j (arrow_place m.space.cartan.rank b)) (op m.space b (pair_at found j).0) (op m.space (relabelled m.relabel b) (pair_at found j).1)
        all_followed j b within is followed = elim (was_followed n at j (arrow_place m.space.cartan.rank b) followed) [
          | inl old ↦ s.followed j b within is old
          | inr new ↦
              let same : b ≡ a = same_arrow m.space b a is fits (new.1 ∙ sym place) in
              rw (same, new.0, place) ends
        ]

    abbrev own : List Arrow
    own = walk_at s.walks at ++ a ∷ []

    abbrev origin : PairOrigin
    origin = record { from = at; arrow = a }

    abbrev longer_walks : List (List Arrow)
    longer_walks = s.walks ++ (walk_at s.walks at ++ a ∷ []) ∷ []

    -- the arrow leads to a new pair
    push : (x y : ℕ) → op m.space a (pair_at found at).0 ≡ Some x → op m.space (relabelled m.relabel a) (pair_at found at).1 ≡ Some y
        → (AreEndsApart m (Some x) (Some y) → ⊥)
        → IsSearch m (n + 1) at end (found ++ (x, y) ∷ []) (origins ++ (record { from = at; arrow = a }) ∷ [])
    push x y is_x is_y alike = record {
      walks = longer_walks;
      are_walks = are_walks;
      count = omega (arith, s.count, more, length-append origins (origin ∷ []));
      begun = s.begun;
      within = omega (arith, s.within, more);
      marks = old_pair 0 (omega (arith, there)) ∙ s.marks;
      leads = leads;
      never_apart = never_apart;
      rising = rising;
      early = early;
      followed = all_followed;
      level = s.level;
      shorter = λ j below. rw (old_walk j (omega (arith, below, s.within))) (s.shorter j below);
      same = λ j above below. rw (old_walk j (omega (arith, below, s.within))) (s.same j above below);
      longer = longer;
    }
      where
        count : length s.walks ≡ length found
        count = s.are_walks.count ∙ sym s.count

        more : length (found ++ (x, y) ∷ []) ≡ length found + 1
        more = length-append found ((x, y) ∷ [])

        old_walk : (j : ℕ) → j < length found → walk_at longer_walks j ≡ walk_at s.walks j
        old_walk j within = get_or_append_left s.walks (own ∷ []) [] j (omega (arith, within, count))

        new_walk : (j : ℕ) → j ≡ length found → walk_at longer_walks j ≡ own
        new_walk j is = get_or_push s.walks own [] j (count ∙ sym is)

        old_pair : (j : ℕ) → j < length found → pair_at (found ++ (x, y) ∷ []) j ≡ pair_at found j
        old_pair j within = get_or_append_left found ((x, y) ∷ []) (0, 0) j within

        new_pair : (j : ℕ) → j ≡ length found → pair_at (found ++ (x, y) ∷ []) j ≡ (x, y)
        new_pair j is = get_or_push found (x, y) (0, 0) j (sym is)

        own_number : number m own ≡ step_number m s.walks at n
        own_number = numbered-push rank 1 (walk_at s.walks at) a ∙ ap (λ d. number m (walk_at s.walks at) * (rank + rank) + d) place

        old_next : (j d : ℕ) → j < length found → step_number m longer_walks j d ≡ step_number m s.walks j d
        old_next j d within = ap (λ (p : List Arrow). number m p * (rank + rank) + d) (old_walk j within)

        own_leads : Leads m own (x, y)
        own_leads =
            let before = s.leads at there in
            record {
              arrows = path-push m.space (walk_at s.walks at) a before.arrows fits;
              first = walk-push m.space (walk_at s.walks at) a m.first (pair_at found at).0 before.first ∙ is_x;
              second =
                  ap (λ (p : List Arrow). walk m.space p m.second) (map-push m (walk_at s.walks at) a)
                  ∙ walk-push m.space (map (relabelled m.relabel) (walk_at s.walks at)) (relabelled m.relabel a) m.second (pair_at found at).1 before.second ∙ is_y;
            }

        leads : (j : ℕ) → j < length (found ++ (x, y) ∷ []) → Leads m (walk_at longer_walks j) (pair_at (found ++ (x, y) ∷ []) j)
        leads j within = elim (last_or found (x, y) j within) [
          | inl old ↦ rw (old_walk j old, old_pair j old) (s.leads j old)
          | inr new ↦ rw (new_walk j new, new_pair j new) own_leads
        ]

        never_apart : (j : ℕ) → j < length (found ++ (x, y) ∷ [])
            → AreEndsApart m (Some (pair_at (found ++ (x, y) ∷ []) j).0) (Some (pair_at (found ++ (x, y) ∷ []) j).1) → ⊥
        never_apart j within = elim (last_or found (x, y) j within) [
          | inl old ↦ rw (old_pair j old) (s.never_apart j old)
          | inr new ↦ rw (new_pair j new) alike
        ]

        rising : (i j : ℕ) → i < j → j < length (found ++ (x, y) ∷ []) → number m (walk_at longer_walks i) < number m (walk_at longer_walks j)
        rising i j less within = elim (last_or found (x, y) j within) [
          | inl old ↦ rw (old_walk i (omega (arith, less, old)), old_walk j old) (s.rising i j less old)
          | inr new ↦ rw (old_walk i (omega (arith, less, new)), new_walk j new, own_number) (s.early i there (omega (arith, less, new)))
        ]

        early : (j : ℕ) → at < length (found ++ (x, y) ∷ []) → j < length (found ++ (x, y) ∷ []) → number m (walk_at longer_walks j) < step_number m longer_walks at (n + 1)
        early j here within =
            let next = old_next at (n + 1) there in
            elim (last_or found (x, y) j within) [
              | inl old ↦ let same = ap (λ (p : List Arrow). number m p) (old_walk j old) in omega (arith, next, same, s.early j there old)
              | inr new ↦ let same = ap (λ (p : List Arrow). number m p) (new_walk j new) in omega (arith, next, same, own_number)
            ]

        lift : (k : ℕ) (first second : Option ℕ) → IsFollowed m found s.walks k first second → IsFollowed m (found ++ (x, y) ∷ []) longer_walks k first second
        lift k first second (inl none) = inl none
        lift k first second (inr f) = inr (record {
          place = f.place;
          within = omega (arith, more, f.within);
          is_first = rw (old_pair f.place f.within) f.is_first;
          is_second = rw (old_pair f.place f.within) f.is_second;
          early = rw (old_walk f.place f.within) f.early;
        })

        own_followed : IsFollowed m (found ++ (x, y) ∷ []) longer_walks (step_number m s.walks at n) (op m.space a (pair_at found at).0) (op m.space (relabelled m.relabel a) (pair_at found at).1)
        own_followed = inr (record {
          place = length found;
          within = omega (arith, more);
          is_first = rw (new_pair (length found) refl) is_x;
          is_second = rw (new_pair (length found) refl) is_y;
          early = let same = ap (λ (p : List Arrow). number m p) (new_walk (length found) refl) in omega (arith, same, own_number);
        })

        all_followed : (j : ℕ) (b : Arrow) → j < length (found ++ (x, y) ∷ []) → IsArrow m.space b → IsTried (n + 1) at j (arrow_place m.space.cartan.rank b)
            → IsFollowed m (found ++ (x, y) ∷ []) longer_walks (step_number m longer_walks j (arrow_place m.space.cartan.rank b)) (op m.space b (pair_at (found ++ (x, y) ∷ []) j).0) (op m.space (relabelled m.relabel b) (pair_at (found ++ (x, y) ∷ []) j).1)
        all_followed j b within is followed =
            elim (was_followed n at j (arrow_place m.space.cartan.rank b) followed) [
              | inl old ↦
                  let before : j < length found = begun_before old in
                  rw (old_next j (arrow_place m.space.cartan.rank b) before, old_pair j before)
                  (lift (step_number m s.walks j (arrow_place m.space.cartan.rank b)) (op m.space b (pair_at found j).0) (op m.space (relabelled m.relabel b) (pair_at found j).1) (s.followed j b before is old))
              | inr new ↦
                  let same : b ≡ a = same_arrow m.space b a is fits (new.1 ∙ sym place) in
                  rw (same, new.0, place, old_next at n there, old_pair at there) own_followed
            ]
          where
            begun_before : IsTried n at j (arrow_place m.space.cartan.rank b) → j < length found
            begun_before (inl before) = omega (arith, before, there)
            begun_before (inr here) = omega (arith, here.0, there)

        longer : (j : ℕ) → end ≤ j → j < length (found ++ (x, y) ∷ []) → length (walk_at longer_walks j) ≡ s.level
        longer j above within = elim (last_or found (x, y) j within) [
          | inl old ↦ rw (old_walk j old) (s.longer j above old)
          | inr new ↦
              let same = ap (λ (p : List Arrow). length p) (new_walk j new) in
              omega (arith, same, length-append (walk_at s.walks at) (a ∷ []), s.same at (omega arith) low)
        ]

        old_origin : (j : ℕ) → j < length origins → origin_at (origins ++ origin ∷ []) j ≡ origin_at origins j
        old_origin j within = get_or_append_left origins (origin ∷ []) (record { from = 0; arrow = no_arrow }) j within

        new_origin : (j : ℕ) → j ≡ length origins → origin_at (origins ++ origin ∷ []) j ≡ origin
        new_origin j is = get_or_push origins origin (record { from = 0; arrow = no_arrow }) j (sym is)

        are_walks : AreWalks (origins ++ origin ∷ []) longer_walks
        are_walks = record {
          count = omega (arith, length-append s.walks (own ∷ []), length-append origins (origin ∷ []), s.are_walks.count);
          first = old_walk 0 (omega (arith, there)) ∙ s.are_walks.first;
          from = λ j within. elim (last_or origins origin j within) [
            | inl old ↦ rw (old_origin j old) (s.are_walks.from j old)
            | inr new ↦ rw (new_origin j new) (omega (arith, there, s.count, new))
          ];
          next = next;
        }
          where
            next : (j : ℕ) → j < length (origins ++ origin ∷ [])
                → walk_at longer_walks (j + 1) ≡ walk_at longer_walks (origin_at (origins ++ origin ∷ []) j).from ++ (origin_at (origins ++ origin ∷ []) j).arrow ∷ []
            next j within = elim (last_or origins origin j within) [
              | inl old ↦
                  rw (old_origin j old, old_walk (j + 1) (omega (arith, old, s.count)), old_walk (origin_at origins j).from (omega (arith, s.are_walks.from j old, old, s.count)))
                  (s.are_walks.next j old)
              | inr new ↦ rw (new_origin j new, new_walk (j + 1) (omega (arith, new, s.count)), old_walk at there) refl
            ]

    place_of : (p : ℕ × ℕ) → Contains found p → (j : ℕ) × (j < length found) × (pair_at found j ≡ p)
    place_of p (j, within, is) = (j, within, get_or_default found j (0, 0) p within ∙ is)

    -- one more arrow is followed
    pub follow_on : (first second : Option ℕ) (new : List (ℕ × ℕ)) (later : List PairOrigin) → op m.space a (pair_at found at).0 ≡ first
        → op m.space (relabelled m.relabel a) (pair_at found at).1 ≡ second → (AreEndsApart m first second → ⊥)
        → FollowsPair at a first second found origins new later → IsSearch m (n + 1) at end new later
    follow_on None None new later is_x is_y alike same = rw (same.0, same.1) (stay (inl (is_x, is_y)))
    follow_on None (Some y) new later is_x is_y alike same = absurd (alike tt)
    follow_on (Some x) None new later is_x is_y alike same = absurd (alike tt)
    follow_on (Some x) (Some y) new later is_x is_y alike (inl old) =
        let p = place_of (x, y) old.2 in
        let e = s.early p.0 there p.1 in
        rw (old.0, old.1) (stay (inr (record {
          place = p.0;
          within = p.1;
          is_first = is_x ∙ ap (λ (q : ℕ × ℕ). Some q.0) (sym p.2);
          is_second = is_y ∙ ap (λ (q : ℕ × ℕ). Some q.1) (sym p.2);
          early = omega (arith, e);
        })))
    follow_on (Some x) (Some y) new later is_x is_y alike (inr fresh) = rw (fresh.0, fresh.1) (push x y is_x is_y alike)

-- the first pair is entered into an empty list
pub entered_first : (pair : ℕ × ℕ) (old new : List (ℕ × ℕ)) (is_new : Bool) → old ≡ [] → IsEntered pair old is_new new → new ≡ pair ∷ []
entered_first pair old new true empty is = is ∙ ap (λ (xs : List (ℕ × ℕ)). xs ++ pair ∷ []) empty
entered_first pair old new false empty is = let there = rw empty at is.1 in absurd (omega (arith, there.1))

-- the codes of a pair that was found are words'
pub pair_below : (m : PointedType) → IsPointed m → (n at end : ℕ) (found : List (ℕ × ℕ)) (origins : List PairOrigin) → IsSearch m n at end found origins
    → (j : ℕ) → j < length found → ((pair_at found j).0 < size m.space) × ((pair_at found j).1 < size m.space)
pair_below m is n at end found origins s j low =
    let leads = s.leads j low in (
      walk_below m.space (walk_at s.walks j) m.first (pair_at found j).0 is.space leads.arrows is.first leads.first,
      walk_below m.space (map (relabelled m.relabel) (walk_at s.walks j)) m.second (pair_at found j).1 is.space (relabelled_path m is (walk_at s.walks j) leads.arrows) is.second leads.second,
    )

-- what was found stays where it is
pub pair_stays : (at : ℕ) (a : Arrow) (first second : Option ℕ) (found : List (ℕ × ℕ)) (origins : List PairOrigin) (new : List (ℕ × ℕ)) (later : List PairOrigin)
    → FollowsPair at a first second found origins new later → at < length found → pair_at new at ≡ pair_at found at
pair_stays at a None second found origins new later same low = ap (λ (xs : List (ℕ × ℕ)). pair_at xs at) same.0
pair_stays at a (Some x) None found origins new later same low = ap (λ (xs : List (ℕ × ℕ)). pair_at xs at) same.0
pair_stays at a (Some x) (Some y) found origins new later (inl old) low = ap (λ (xs : List (ℕ × ℕ)). pair_at xs at) old.0
pair_stays at a (Some x) (Some y) found origins new later (inr fresh) low =
    ap (λ (xs : List (ℕ × ℕ)). pair_at xs at) fresh.0 ∙ get_or_append_left found ((x, y) ∷ []) (0, 0) at low

-- one more arrow of the pair at `at` is followed
pub expand_on : (m both : PointedType) (n at end rank : ℕ) (pair : ℕ × ℕ) (found : List (ℕ × ℕ)) (origins : List PairOrigin) (new : List (ℕ × ℕ)) (later : List PairOrigin)
    (a : Arrow) (first second : Option ℕ) → both ≡ m → rank ≡ m.space.cartan.rank → IsSearch m n at end found origins → at < end → pair ≡ pair_at found at
    → 1 ≤ a.index → a.index ≤ rank → arrow_place rank a ≡ n → first ≡ op m.space a pair.0 → second ≡ op m.space (relabelled m.relabel a) pair.1
    → (AreEndsApart both first second → ⊥) → FollowsPair at a first second found origins new later → IsSearch both (n + 1) at end new later
expand_on m both n at end rank pair found origins new later a first second own is_rank s low is_pair lo hi place is_first is_second alike follows =
    subst (λ (b : PointedType). IsSearch b (n + 1) at end new later) (sym own)
    (follow_on m at end found origins n a s low (record { index = record { low = lo; high = omega (arith, hi, is_rank) } })
    (ap (λ r. arrow_place r a) (sym is_rank) ∙ place) first second new later
    (ap (λ (p : ℕ × ℕ). op m.space a p.0) (sym is_pair) ∙ sym is_first)
    (ap (λ (p : ℕ × ℕ). op m.space (relabelled m.relabel a) p.1) (sym is_pair) ∙ sym is_second)
    (subst (λ (b : PointedType). AreEndsApart b first second → ⊥) own alike) follows)
