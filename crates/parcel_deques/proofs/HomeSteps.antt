-- A pass comes home.
use Rattle.std.proofs.Common.{◌≡◌, ◌≢◌, ◌∙◌, ⊎_elim, refl, sym, ap, subst, ℕ, zero, suc, ◌+◌, ◌<◌, ◌==◌, List, [], ◌∷◌, ◌++◌, map, length, length-append, length-set, set, get_or, not, Some, None, zero-add, arith}
use Rattle.std.specs.List.{slice_get, Contains}
use Rattle.std.proofs.lemmas.Bool.Decides.{eqb_tells}
use Rattle.std.proofs.lemmas.List.Elements.{All-append, Contains-append_left, filter-append}
use Rattle.std.proofs.lemmas.Option.{none-some, same_Some}
use Rattle.parcel_deques.specs.declared.parcel.Slip.{Slip}
use Rattle.parcel_deques.specs.declared.rule.Hand.{Hand}
use Rattle.parcel_deques.specs.Lists.{weigh, SameItems}
use Rattle.parcel_deques.specs.Parcels.{AllOwned, IsOwned, owned_by, others_than}
use Rattle.parcel_deques.specs.Rule.{absorbed}
use Rattle.parcel_deques.specs.Ends.{DequeId, EndValue}
use Rattle.parcel_deques.specs.Owners.{OwnValue}
use Rattle.parcel_deques.specs.Benches.{BenchValue, IsEnd, IsBench, bench_of, passes_taken, pass_taken, away_from}
use Rattle.parcel_deques.proofs.Weights.{weigh-append, weigh-push}
use Rattle.parcel_deques.proofs.Slips.{others_same}
use Rattle.parcel_deques.proofs.EndSteps.{there_too, get_set_same, get_set_other, one_item}
use Rattle.parcel_deques.proofs.Passes.{ends_here, others_at, has_pass, away_more, deque_at}
use Rattle.parcel_deques.proofs.BenchSteps.{other_slips, length_calls}

-- two benches of one call; d is the other's end of this bench's deque
module _ (o : OwnValue) (es : List EndValue) (p : OwnValue) (fs : List EndValue) (is : IsBench o es) (be : IsBench p fs)
    (call : map (λ (e : EndValue). e.deque) fs ≡ map (λ (e : EndValue). e.deque) es) (home : ¬ (Contains o.hand.home p.hand.deque)) (away : ¬ (Contains (away_from p.hand.deque 0 fs) o.hand.deque)) where
  pub as_many : length fs ≡ length es
  as_many = sym (length_calls fs) ∙ ap length call ∙ length_calls es

  apart : o.hand.deque ≢ p.hand.deque
  apart s = home (subst (λ (n : ℕ). Contains o.hand.home n) s is.home)

  pub within_other : o.hand.deque < length fs
  within_other = let m = as_many in let w = is.within in omega arith

  module _ (d : EndValue) (at : slice_get fs o.hand.deque ≡ Some d) where
    pub same_deque : d.deque ≡ o.deque
    same_deque = let there = there_too fs es o.hand.deque d (sym as_many) at in deque_at es fs o.hand.deque (get_or es o.hand.deque d) d call there at ∙ is.deque (get_or es o.hand.deque d) there

    pub its_pass : (v : Hand) × (d.pass ≡ Some v)
    its_pass = has_pass p.hand.deque 0 o.hand.deque fs d (λ there. away (subst (λ (m : ℕ). Contains (away_from p.hand.deque 0 fs) m) (zero-add o.hand.deque) there)) (λ s. apart (sym (zero-add o.hand.deque) ∙ s)) at

    -- what comes of it
    module _ (q : OwnValue) (e : EndValue) (deque : e.deque ≡ d.deque) (none : e.pass ≡ None) (took : (v : Hand) → d.pass ≡ Some v → q ≡ record o { hand = absorbed o.hand v }) where
      abbrev v : Hand
      v = its_pass.0

      view : (v.deque ≡ o.hand.deque) × (v.share ≡ 1) × (v.home ≡ p.hand.deque ∷ []) × AllOwned o.hand.deque v.taken
      view = (be.each o.hand.deque d at).view v its_pass.1

      now : q ≡ record o { hand = absorbed o.hand v }
      now = took v its_pass.1

      pub home_bench : IsBench q es
      home_bench = subst (λ (r : OwnValue). IsBench r es) (sym now) (record {
        few = is.few;
        within = is.within;
        pushes = refl;
        share = let s = is.share in let l = length-append o.hand.home v.home in let h : length v.home ≡ 1 = ap length view.2 in let one = view.1 in omega arith;
        home = Contains-append_left o.hand.home v.home o.hand.deque is.home;
        owned = All-append (IsOwned o.hand.deque) o.hand.taken v.taken is.owned view.3;
        deque = is.deque;
        each = is.each;
      })

      pub home_same : bench_of q es ≡ record (bench_of o es) { home = o.hand.home ++ p.hand.deque ∷ []; taken = (bench_of q es).taken }
      home_same = λ i. record (bench_of (now i) es) { home = homes i; taken = q.hand.taken ++ passes_taken es }
        where
          homes : q.hand.home ≡ o.hand.home ++ p.hand.deque ∷ []
          homes = ap (λ (r : OwnValue). r.hand.home) now ∙ ap (λ (l : List ℕ). o.hand.home ++ l) view.2

      its_slips : owned_by o.hand.deque (p.hand.taken ++ passes_taken fs) ≡ v.taken
      its_slips = other_slips p fs be o.hand.deque d apart at ∙ ap pass_taken its_pass.1

      pub home_taken : SameItems (q.hand.taken ++ passes_taken es) ((o.hand.taken ++ passes_taken es) ++ owned_by o.hand.deque (p.hand.taken ++ passes_taken fs))
      home_taken g = let a = weigh-append g q.hand.taken (passes_taken es) in
          let b : weigh g q.hand.taken ≡ weigh g (o.hand.taken ++ v.taken) = ap (λ (r : OwnValue). weigh g r.hand.taken) now in
          let c = weigh-append g o.hand.taken v.taken in
          let e = weigh-append g (o.hand.taken ++ passes_taken es) (owned_by o.hand.deque (p.hand.taken ++ passes_taken fs)) in
          let f = weigh-append g o.hand.taken (passes_taken es) in
          let s : weigh g (owned_by o.hand.deque (p.hand.taken ++ passes_taken fs)) ≡ weigh g v.taken = ap (weigh g) its_slips in omega arith

      pub away_bench : IsBench p (set fs o.hand.deque e)
      away_bench = record {
        few = let m = length-set fs o.hand.deque e in let f = be.few in omega arith;
        within = let m = length-set fs o.hand.deque e in let w = be.within in omega arith;
        pushes = be.pushes;
        share = let m = length-set fs o.hand.deque e in let s = be.share in omega arith;
        home = be.home;
        owned = be.owned;
        deque = λ f there. be.deque f (sym (get_set_other fs o.hand.deque p.hand.deque e (λ s. apart (sym s))) ∙ there);
        each = each;
      }
        where
          each : (k : ℕ) (f : EndValue) → slice_get (set fs o.hand.deque e) k ≡ Some f → IsEnd p.hand.deque k f
          each k f there = ⊎_elim
              (λ (t : _ × (k ≡ o.hand.deque)). here (one_item (set fs o.hand.deque e) o.hand.deque e f (get_set_same fs o.hand.deque d e at) (subst (λ (n : ℕ). slice_get (set fs o.hand.deque e) n ≡ Some f) t.1 there)))
              (λ (t : _ × (k ≢ o.hand.deque)). be.each k f (sym (get_set_other fs o.hand.deque k e t.1) ∙ there))
              (eqb_tells k o.hand.deque)
            where
              here : f ≡ e → IsEnd p.hand.deque k f
              here same = record { own = λ _. ap (λ (t : EndValue). t.pass) same ∙ none; view = λ w has. absurd (none-some w (sym none ∙ ap (λ (t : EndValue). t.pass) (sym same) ∙ has)) }

      calls : (ds : List EndValue) (k : ℕ) → slice_get ds k ≡ Some d → map (λ (t : EndValue). t.deque) (set ds k e) ≡ map (λ (t : EndValue). t.deque) ds
      calls [] k there = refl
      calls (c ∷ cs) zero there = λ i. (deque ∙ ap (λ (t : EndValue). t.deque) (same_Some d c (sym there))) i ∷ map (λ (t : EndValue). t.deque) cs
      calls (c ∷ cs) (suc k) there = ap (λ (l : List DequeId). c.deque ∷ l) (calls cs k there)

      others : p.hand.taken ++ passes_taken (set fs o.hand.deque e) ≡ others_than o.hand.deque (p.hand.taken ++ passes_taken fs)
      others = sym (filter-append (λ (x : Slip). not (x.tag.owner == o.hand.deque)) p.hand.taken (passes_taken fs)
          ∙ (λ i. others_same o.hand.deque p.hand.deque p.hand.taken (λ s. apart (sym s)) be.owned i ++ rest i))
        where
          rest : others_than o.hand.deque (passes_taken fs) ≡ passes_taken (set fs o.hand.deque e)
          rest = ap (λ (m : ℕ). others_than m (passes_taken fs)) (let z : o.hand.deque ≡ 0 + o.hand.deque = omega arith in z) ∙ others_at p.hand.deque 0 o.hand.deque fs d e at none (ends_here p.hand.deque fs be.each)

      pub away_same : bench_of p (set fs o.hand.deque e) ≡ record (bench_of p fs) { away = (bench_of p (set fs o.hand.deque e)).away; known = (bench_of p (set fs o.hand.deque e)).known; taken = others_than o.hand.deque (p.hand.taken ++ passes_taken fs) }
      away_same = λ i. record (bench_of p (set fs o.hand.deque e)) { call = calls fs o.hand.deque at i; taken = others i }

      pub away_added : SameItems (away_from p.hand.deque 0 (set fs o.hand.deque e)) (away_from p.hand.deque 0 fs ++ o.hand.deque ∷ [])
      away_added g = let a = away_more g p.hand.deque 0 o.hand.deque fs d e v (λ s. apart (sym (zero-add o.hand.deque) ∙ s)) at its_pass.1 none in
          let b = weigh-push g (away_from p.hand.deque 0 fs) o.hand.deque in let c : g (0 + o.hand.deque) ≡ g o.hand.deque = ap g (let z : 0 + o.hand.deque ≡ o.hand.deque = omega arith in z) in omega arith

-- what `take_over` says
module _ (o : OwnValue) (es : List EndValue) (is : IsBench o es) (v : BenchValue) (at : bench_of o es ≡ v) (p : OwnValue) (fs : List EndValue) (be : IsBench p fs) (w : BenchValue) (bt : bench_of p fs ≡ w)
    (call : w.call ≡ v.call) (home : ¬ (Contains v.home w.number)) (away : ¬ (Contains w.away v.number)) (n : ℕ) (number : n ≡ o.hand.deque) where
  calls_same : map (λ (e : EndValue). e.deque) fs ≡ map (λ (e : EndValue). e.deque) es
  calls_same = ap (λ (b : BenchValue). b.call) bt ∙ call ∙ sym (ap (λ (b : BenchValue). b.call) at)

  home_not : ¬ (Contains o.hand.home p.hand.deque)
  home_not there = home (subst (λ (b : BenchValue × BenchValue). Contains b.0.home b.1.number) (λ i. (at i, bt i)) there)

  away_not : ¬ (Contains (away_from p.hand.deque 0 fs) o.hand.deque)
  away_not there = away (subst (λ (b : BenchValue × BenchValue). Contains b.1.away b.0.number) (λ i. (at i, bt i)) there)

  pub other_within : n < length fs
  other_within = let b = within_other o es p fs is be calls_same home_not away_not in let e = number in omega arith

  module _ (d : EndValue) (there : slice_get fs n ≡ Some d) where
    its_place : slice_get fs o.hand.deque ≡ Some d
    its_place = subst (λ (m : ℕ). slice_get fs m ≡ Some d) number there

    pub other_deque : d.deque ≡ o.deque
    other_deque = same_deque o es p fs is be calls_same home_not away_not d its_place

    module _ (q : OwnValue) (e : EndValue) (end : (e.deque ≡ d.deque) × (e.pass ≡ None)) (own : (u : Hand) → d.pass ≡ Some u → q ≡ record o { hand = absorbed o.hand u }) where
      pub over_bench : IsBench q es
      over_bench = home_bench o es p fs is be calls_same home_not away_not d its_place q e end.0 end.1 own

      pub over_same : bench_of q es ≡ record v { home = v.home ++ w.number ∷ []; taken = (bench_of q es).taken }
      over_same = subst (λ (b : BenchValue × BenchValue). bench_of q es ≡ record b.0 { home = b.0.home ++ b.1.number ∷ []; taken = (bench_of q es).taken }) (λ i. (at i, bt i))
          (home_same o es p fs is be calls_same home_not away_not d its_place q e end.0 end.1 own)

      pub over_taken : SameItems (q.hand.taken ++ passes_taken es) (v.taken ++ owned_by v.number w.taken)
      over_taken = subst (λ (b : BenchValue × BenchValue). SameItems (q.hand.taken ++ passes_taken es) (b.0.taken ++ owned_by b.0.number b.1.taken)) (λ i. (at i, bt i))
          (home_taken o es p fs is be calls_same home_not away_not d its_place q e end.0 end.1 own)

      pub other_bench : IsBench p (set fs n e)
      other_bench = subst (λ (m : ℕ). IsBench p (set fs m e)) (sym number) (away_bench o es p fs is be calls_same home_not away_not d its_place q e end.0 end.1 own)

      pub other_same : bench_of p (set fs n e) ≡ record w { away = (bench_of p (set fs n e)).away; known = (bench_of p (set fs n e)).known; taken = others_than v.number w.taken }
      other_same = subst (λ (m : ℕ). bench_of p (set fs m e) ≡ record w { away = (bench_of p (set fs m e)).away; known = (bench_of p (set fs m e)).known; taken = others_than v.number w.taken }) (sym number)
          (subst (λ (b : BenchValue × BenchValue). bench_of p (set fs o.hand.deque e) ≡ record b.1 { away = (bench_of p (set fs o.hand.deque e)).away; known = (bench_of p (set fs o.hand.deque e)).known; taken = others_than b.0.number b.1.taken }) (λ i. (at i, bt i))
          (away_same o es p fs is be calls_same home_not away_not d its_place q e end.0 end.1 own))

      pub other_away : SameItems (away_from p.hand.deque 0 (set fs n e)) (w.away ++ v.number ∷ [])
      other_away = subst (λ (m : ℕ). SameItems (away_from p.hand.deque 0 (set fs m e)) (w.away ++ v.number ∷ [])) (sym number)
          (subst (λ (b : BenchValue × BenchValue). SameItems (away_from p.hand.deque 0 (set fs o.hand.deque e)) (b.1.away ++ b.0.number ∷ [])) (λ i. (at i, bt i))
          (away_added o es p fs is be calls_same home_not away_not d its_place q e end.0 end.1 own))
