-- Each move keeps the rule of a deque.
use Rattle.std.proofs.Common.{◌≡◌, ◌≢◌, ◌∙◌, ◌⊎◌, ⊎_elim, refl, sym, ap, subst, ℕ, zero, suc, ◌+◌, ◌<◌, ◌≤◌, true, true≢false, List, [], ◌∷◌, ◌++◌, length, length-append, set, append_assoc, min, arith}
use Rattle.std.proofs.lemmas.List.{append-nil}
use Rattle.std.proofs.lemmas.List.Elements.{All-nil, All-append}
use mathlib.Core.Option.{some, some-injective, some-ne-none}
use lib.ListN.{get_elem?}
use Rattle.crossbeam_deque.specs.Tasks.{Pushes, Takes, Finds, FindsFew, Forks, Merges}
use Rattle.crossbeam_deque.proofs.Lists.{at_set, at_snoc}
use Rattle.parcel_deques.specs.declared.parcel.Slip.{Slip}
use Rattle.parcel_deques.specs.declared.rule.Hand.{Hand}
use Rattle.parcel_deques.specs.Lists.{weigh, SameItems}
use Rattle.parcel_deques.specs.Parcels.{tag_of, IsOwned, AllOwned}
use Rattle.parcel_deques.specs.Rule.{all_shares, founder, loaded, took, share_kept, share_given, absorbed, used_up, AllTagged, FitsDeque, DequeHolds, Drained, IsTaking, IsLoading}
use Rattle.parcel_deques.proofs.Weights.{weigh-append, weigh-push, weigh-set, weigh-at, weigh-two, weigh_ones, weigh_alone, no_items}
use Rattle.parcel_deques.proofs.Slips.{tagged_owned, tagged_left, tagged_right, tagged_push}

share_of : Hand → ℕ
share_of v = v.share

-- a fact of each view stands where one view is replaced
fit_set : (F : ℕ → Hand → Type 0) (views : List Hand) (port : ℕ) (w : Hand) → F port w → ((j : ℕ) (u : Hand) → j ≢ port → get_elem? views j ≡ some u → F j u)
    → (j : ℕ) (u : Hand) → get_elem? (set views port w) j ≡ some u → F j u
fit_set F views port w mine others j u e = ⊎_elim (λ (x : (j ≡ port) × (w ≡ u)). subst (λ (y : ℕ × Hand). F y.0 y.1) (λ i. (sym x.0 i, x.1 i)) mine)
    (λ (x : (j ≢ port) × (get_elem? views j ≡ some u)). others j u x.0 x.1) (at_set views port j w u e)

pub begins : DequeHolds [] (founder ∷ [])
begins = record {
  owner = 0;
  deque = 0;
  pushed = [];
  taken = [];
  rest = refl;
  tagged = tt;
  whole_is = refl;
  each = λ h. refl;
  fits = fits;
}
  where
    fits : (port : ℕ) (v : Hand) → get_elem? (founder ∷ []) port ≡ some v → FitsDeque 0 0 [] port v
    fits zero v at = subst (λ (u : Hand). FitsDeque 0 0 [] 0 u) (some-injective founder v at) (record { pushes = λ _. (refl, refl); idle = λ _. refl; deque_is = λ _. refl; owned = λ _. All-nil (IsOwned 0) })
    fits (suc j) v at = absurd (some-ne-none v (sym at))

-- a parcel is loaded
module _ (port : ℕ) (v : Hand) (x : Slip) (may : v.pushes ≡ true) (live : 0 < v.share) (tag : x.tag ≡ tag_of v.deque (length v.pushed)) (items : List Slip) (views : List Hand) (h : DequeHolds items views) (at : get_elem? views port ≡ some v) where
  loading_tag : x.tag ≡ tag_of h.deque (0 + length h.pushed)
  loading_tag = tag ∙ (λ i. tag_of ((h.fits port v at).deque_is live i) (length (((h.fits port v at).pushes may).1 i))) ∙ ap (tag_of h.deque) (let e : length h.pushed ≡ 0 + length h.pushed = omega arith in e)

  loading_on : DequeHolds (items ++ x ∷ []) (set views port (loaded v (x ∷ [])))
  loading_on = record {
    owner = h.owner;
    deque = h.deque;
    pushed = h.pushed ++ x ∷ [];
    taken = h.taken;
    rest = ap (λ (l : List Slip). l ++ x ∷ []) h.rest ∙ append_assoc h.taken items (x ∷ []);
    tagged = tagged_push h.deque 0 h.pushed x h.tagged loading_tag;
    whole_is = let step = weigh-set (λ (u : Hand). u.share) views port v (loaded v (x ∷ [])) at in let all = h.whole_is in omega arith;
    each = λ g. let step = weigh-set (λ (u : Hand). weigh g u.taken) views port v (loaded v (x ∷ [])) at in let all = h.each g in omega arith;
    fits = fit_set (FitsDeque h.deque h.owner (h.pushed ++ x ∷ [])) views port (loaded v (x ∷ []))
        (record { pushes = λ _. (((h.fits port v at).pushes may).0, ap (λ (l : List Slip). l ++ x ∷ []) ((h.fits port v at).pushes may).1); idle = (h.fits port v at).idle; deque_is = (h.fits port v at).deque_is; owned = (h.fits port v at).owned })
        (λ j u other e. record { pushes = λ p. absurd (other (((h.fits j u e).pushes p).0 ∙ sym ((h.fits port v at).pushes may).0)); idle = (h.fits j u e).idle; deque_is = (h.fits j u e).deque_is; owned = (h.fits j u e).owned });
  }

pub loads : (port : ℕ) (v : Hand) (x : Slip) → v.pushes ≡ true → 0 < v.share → x.tag ≡ tag_of v.deque (length v.pushed) → Pushes DequeHolds port v (x ∷ []) (IsLoading v (x ∷ []))
loads port v x may live tag items views h at = (loaded v (x ∷ []), loading_on port v x may live tag items views h at, refl)

-- slips are taken
module _ (port : ℕ) (v : Hand) (live : 0 < v.share) (xs items : List Slip) (views : List Hand) (h : DequeHolds (xs ++ items) views) (at : get_elem? views port ≡ some v) where
  taking_owned : AllOwned v.deque xs
  taking_owned = subst (λ (n : ℕ). AllOwned n xs) (sym ((h.fits port v at).deque_is live)) (tagged_owned h.deque (0 + length h.taken) xs
      (tagged_left h.deque (0 + length h.taken) xs items (tagged_right h.deque 0 h.taken (xs ++ items) (subst (AllTagged h.deque 0) h.rest h.tagged))))

  taking_rest : h.pushed ≡ (h.taken ++ xs) ++ items
  taking_rest = h.rest ∙ sym (append_assoc h.taken xs items)

  taking_few : v.pushes ≡ true → length (v.taken ++ xs) ≤ length v.pushed
  taking_few may =
      let mine = weigh-at (λ (u : Hand). weigh (λ (x : Slip). 1) u.taken) views port v at in
      let all = h.each (λ (x : Slip). 1) in
      let a = weigh_ones v.taken in let b = weigh_ones h.taken in
      let c : length v.pushed ≡ length ((h.taken ++ xs) ++ items) = ap length (((h.fits port v at).pushes may).1 ∙ taking_rest) in
      let d = length-append v.taken xs in let e = length-append (h.taken ++ xs) items in let f = length-append h.taken xs in omega arith

  taking_on : DequeHolds items (set views port (took v xs))
  taking_on = record {
    owner = h.owner;
    deque = h.deque;
    pushed = h.pushed;
    taken = h.taken ++ xs;
    rest = taking_rest;
    tagged = h.tagged;
    whole_is = let step = weigh-set (λ (u : Hand). u.share) views port v (took v xs) at in let all = h.whole_is in omega arith;
    each = λ g. let step = weigh-set (λ (u : Hand). weigh g u.taken) views port v (took v xs) at in let all = h.each g in let a = weigh-append g v.taken xs in let b = weigh-append g h.taken xs in omega arith;
    fits = fit_set (FitsDeque h.deque h.owner h.pushed) views port (took v xs)
        (record { pushes = (h.fits port v at).pushes; idle = λ none. absurd (omega arith); deque_is = (h.fits port v at).deque_is; owned = λ _. All-append (IsOwned v.deque) v.taken xs ((h.fits port v at).owned live) taking_owned })
        (λ j u other e. h.fits j u e);
  }

pub takes : (port : ℕ) (v : Hand) → 0 < v.share → Takes DequeHolds port v 1 (IsTaking v)
takes port v live xs items views more few h at = (took v xs, taking_on port v live xs items views h at, (refl, taking_owned port v live xs items views h at, taking_few port v live xs items views h at))

-- where the deque is empty
module _ (port : ℕ) (v : Hand) (views : List Hand) (h : DequeHolds [] views) (at : get_elem? views port ≡ some v) where
  -- beside the whole share nobody has taken anything
  others_none : all_shares ≤ v.share → (g : Slip → ℕ) (j : ℕ) (u : Hand) → j ≢ port → get_elem? views j ≡ some u → weigh g u.taken ≡ 0
  others_none all g j u other e = ap (weigh g) ((h.fits j u e).idle (let two = weigh-two (λ (w : Hand). w.share) views port j v u at e other in let sum = h.whole_is in omega arith))

  all_taken : v.pushes ≡ true → all_shares ≤ v.share → SameItems v.taken v.pushed
  all_taken may all g = sym (weigh_alone (λ (u : Hand). weigh g u.taken) views port v at (others_none all g)) ∙ h.each g ∙ ap (weigh g) (sym (append-nil h.taken) ∙ sym h.rest ∙ sym ((h.fits port v at).pushes may).1)

pub finds : (port : ℕ) (v : Hand) → Finds DequeHolds port v (Drained v)
finds port v views h at = ((port, views, h, at), all_taken port v views h at)

pub finds_few : (port flavor : ℕ) (v : Hand) → flavor ≡ 0 → FindsFew DequeHolds (min flavor 1) port v (Drained v)
finds_few port flavor v first items views few h at = finds port v views (subst (λ (l : List Slip). DequeHolds l views) (no_items items (let m : min flavor 1 ≡ 0 = ap (λ (n : ℕ). min n 1) first in omega arith)) h) at

-- the owner gives a share away
module _ (port : ℕ) (v : Hand) (deque taker : ℕ) (may : v.pushes ≡ true) (live : 1 < v.share) (number : (deque ≡ v.deque) ⊎ ((all_shares ≤ v.share) × (v.pushed ≡ []))) (items : List Slip) (views : List Hand) (h : DequeHolds items views) (at : get_elem? views port ≡ some v) where
  -- the number was the deque's, or nothing was pushed yet and nobody else has a share
  fork_tags : AllTagged deque 0 h.pushed
  fork_tags = ⊎_elim (λ (same : deque ≡ v.deque). subst (λ (n : ℕ). AllTagged n 0 h.pushed) (sym (same ∙ (h.fits port v at).deque_is (omega arith))) h.tagged)
      (λ (new : (all_shares ≤ v.share) × (v.pushed ≡ [])). subst (AllTagged deque 0) (sym new.1 ∙ ((h.fits port v at).pushes may).1) tt) number

  fork_owned : AllOwned deque v.taken
  fork_owned = ⊎_elim (λ (same : deque ≡ v.deque). subst (λ (n : ℕ). AllOwned n v.taken) (sym same) ((h.fits port v at).owned (omega arith)))
      (λ (new : (all_shares ≤ v.share) × (v.pushed ≡ [])). subst (AllOwned deque) (sym (none new.1)) (All-nil (IsOwned deque))) number
    where
      none : v.pushed ≡ [] → v.taken ≡ []
      none empty = no_items v.taken (
          let mine = weigh-at (λ (u : Hand). weigh (λ (x : Slip). 1) u.taken) views port v at in
          let all = h.each (λ (x : Slip). 1) in
          let a = weigh_ones v.taken in let b = weigh_ones h.taken in
          let c : length {A = Slip} [] ≡ length (h.taken ++ items) = ap length (sym empty ∙ ((h.fits port v at).pushes may).1 ∙ h.rest) in
          let d = length-append h.taken items in omega arith)

  fork_named : (j : ℕ) (u : Hand) → j ≢ port → get_elem? views j ≡ some u → 0 < u.share → u.deque ≡ deque
  fork_named j u other e some_share = ⊎_elim (λ (same : deque ≡ v.deque). (h.fits j u e).deque_is some_share ∙ sym ((h.fits port v at).deque_is (omega arith)) ∙ sym same)
      (λ (new : (all_shares ≤ v.share) × (v.pushed ≡ [])). let two = weigh-two (λ (w : Hand). w.share) views port j v u at e other in let sum = h.whole_is in let all = new.0 in absurd (omega arith)) number

  fork_left : FitsDeque deque h.owner h.pushed port (share_kept deque v)
  fork_left = record { pushes = λ _. (h.fits port v at).pushes may; idle = λ none. absurd (omega arith); deque_is = λ _. refl; owned = λ _. fork_owned }

  fork_right : (j : ℕ) → FitsDeque deque h.owner h.pushed j (share_given deque taker)
  fork_right j = record { pushes = λ p. absurd (true≢false (sym p)); idle = λ _. refl; deque_is = λ _. refl; owned = λ _. All-nil (IsOwned deque) }

  fork_others : (j : ℕ) (u : Hand) → j ≢ port → get_elem? views j ≡ some u → FitsDeque deque h.owner h.pushed j u
  fork_others j u other e = record { pushes = (h.fits j u e).pushes; idle = (h.fits j u e).idle; deque_is = fork_named j u other e; owned = (h.fits j u e).owned }

  forking_on : DequeHolds items (set views port (share_kept deque v) ++ share_given deque taker ∷ [])
  forking_on = record {
    owner = h.owner;
    deque = deque;
    pushed = h.pushed;
    taken = h.taken;
    rest = h.rest;
    tagged = fork_tags;
    whole_is = let step = weigh-set (λ (u : Hand). u.share) views port v (share_kept deque v) at in let more = weigh-push (λ (u : Hand). u.share) (set views port (share_kept deque v)) (share_given deque taker) in
        let all = h.whole_is in omega arith;
    each = λ g. let step = weigh-set (λ (u : Hand). weigh g u.taken) views port v (share_kept deque v) at in let more = weigh-push (λ (u : Hand). weigh g u.taken) (set views port (share_kept deque v)) (share_given deque taker) in
        let all = h.each g in omega arith;
    fits = λ j u e. ⊎_elim (λ (x : get_elem? (set views port (share_kept deque v)) j ≡ some u). fit_set (FitsDeque deque h.owner h.pushed) views port (share_kept deque v) fork_left fork_others j u x)
        (λ (is : share_given deque taker ≡ u). subst (λ (w : Hand). FitsDeque deque h.owner h.pushed j w) is (fork_right j)) (at_snoc (set views port (share_kept deque v)) (share_given deque taker) u j e);
  }

pub forks : (port : ℕ) (v : Hand) (deque taker : ℕ) → v.pushes ≡ true → 1 < v.share → (deque ≡ v.deque) ⊎ ((all_shares ≤ v.share) × (v.pushed ≡ []))
    → Forks DequeHolds port v (share_kept deque v) (share_given deque taker)
forks port v deque taker may live number items views h at = forking_on port v deque taker may live number items views h at

-- the owner takes a pass in
module _ (port : ℕ) (v : Hand) (other : ℕ) (u : Hand) (may : v.pushes ≡ true) (live : 0 < v.share) (alive : 0 < u.share) (items : List Slip) (views : List Hand) (h : DequeHolds items views) (at : get_elem? views port ≡ some v) (two : ¬ (other ≡ port)) (was : get_elem? views other ≡ some u) where
  glue_owned : AllOwned v.deque (v.taken ++ u.taken)
  glue_owned = All-append (IsOwned v.deque) v.taken u.taken ((h.fits port v at).owned live)
      (subst (λ (n : ℕ). AllOwned n u.taken) ((h.fits other u was).deque_is alive ∙ sym ((h.fits port v at).deque_is live)) ((h.fits other u was).owned alive))

  glue_both : FitsDeque h.deque h.owner h.pushed port (absorbed v u)
  glue_both = record { pushes = λ _. (h.fits port v at).pushes may; idle = λ none. absurd (omega arith); deque_is = λ _. (h.fits port v at).deque_is live; owned = λ _. glue_owned }

  glue_used_up : FitsDeque h.deque h.owner h.pushed other used_up
  glue_used_up = record { pushes = λ p. absurd (true≢false (sym p)); idle = λ _. refl; deque_is = λ (some_share : 0 < 0). absurd (omega arith); owned = λ (some_share : 0 < 0). absurd (omega arith) }

  merging_on : get_elem? (set views port (absorbed v u)) other ≡ some u → DequeHolds items (set (set views port (absorbed v u)) other used_up)
  merging_on there = record {
    owner = h.owner;
    deque = h.deque;
    pushed = h.pushed;
    taken = h.taken;
    rest = h.rest;
    tagged = h.tagged;
    whole_is = let one = weigh-set (λ (w : Hand). w.share) views port v (absorbed v u) at in let next = weigh-set (λ (w : Hand). w.share) (set views port (absorbed v u)) other u used_up there in
        let all = h.whole_is in omega arith;
    each = λ g. let one = weigh-set (λ (w : Hand). weigh g w.taken) views port v (absorbed v u) at in let next = weigh-set (λ (w : Hand). weigh g w.taken) (set views port (absorbed v u)) other u used_up there in
        let all = h.each g in let sum = weigh-append g v.taken u.taken in omega arith;
    fits = fit_set (FitsDeque h.deque h.owner h.pushed) (set views port (absorbed v u)) other used_up glue_used_up
        (λ j w apart e. fit_set (FitsDeque h.deque h.owner h.pushed) views port (absorbed v u) glue_both (λ i y _ f. h.fits i y f) j w e);
  }

pub merges : (port : ℕ) (v : Hand) (other : ℕ) (u : Hand) → v.pushes ≡ true → 0 < v.share → 0 < u.share → Merges DequeHolds port v other u (absorbed v u) used_up
merges port v other u may live alive items views h at two there = merging_on port v other u may live alive items views h at two
    (⊎_elim (λ (x : (other ≡ port) × (absorbed v u ≡ u)). absurd (two x.0)) (λ (x : (other ≢ port) × (get_elem? views other ≡ some u)). x.1) (at_set views port other (absorbed v u) u there)) there
