-- Slips stolen from others, or none found.
use Rattle.std.proofs.Common.{◌≡◌, ◌≢◌, ◌∙◌, ⊎_elim, inl, inr, sym, ap, subst, ℕ, ◌+◌, ◌<◌, List, [], ◌∷◌, ◌++◌, map, length, get_or, Option, Some, None, zero-add, arith}
use Rattle.std.specs.List.{slice_get, Contains}
use Rattle.std.specs.Option.{IfSome, IfNone}
use Rattle.std.proofs.lemmas.Bool.Decides.{eqb_tells}
use Rattle.std.proofs.lemmas.List.Elements.{All-append, All-head}
use Rattle.std.proofs.lemmas.Option.{same_Some, slice_get_within, slice_get-get_or}
use Rattle.parcel_deques.specs.declared.parcel.Slip.{Slip}
use Rattle.parcel_deques.specs.declared.rule.Hand.{Hand}
use Rattle.parcel_deques.specs.Lists.{SameItems}
use Rattle.parcel_deques.specs.Parcels.{AllOwned, IsOwned}
use Rattle.parcel_deques.specs.Rule.{took, WasEmpty}
use Rattle.parcel_deques.specs.Ends.{EndValue, Took, Each, IsTriedAround, StoleAround}
use Rattle.parcel_deques.specs.Owners.{OwnValue}
use Rattle.parcel_deques.specs.Benches.{BenchValue, IsEnd, IsBench, bench_of, passes_taken, pass_taken, gone, away_from, FoundNone}
use Rattle.parcel_deques.proofs.Weights.{weigh-append}
use Rattle.parcel_deques.proofs.EndSteps.{there_too, one_item}
use Rattle.parcel_deques.proofs.Passes.{IsLike, AreLike, gone_same, calls_like, away_like, has_pass, passes_same, passes_stole, known_at}
use Rattle.parcel_deques.proofs.BenchSteps.{other_slips, length_calls}

-- a bench whose ends have the same deques, with passes at the same places
module _ (o : OwnValue) (old new : List EndValue) (like : AreLike old new) where
  pub like_same : bench_of o new ≡ record (bench_of o old) { taken = o.hand.taken ++ passes_taken new; known = map (λ (e : EndValue). e.known) new }
  like_same = λ i. record (bench_of o new) { call = calls_like old new like i; away = away_like o.hand.deque 0 old new like i }

  pub like_bench : IsBench o old → ((k : ℕ) (d e : EndValue) → slice_get old k ≡ Some d → slice_get new k ≡ Some e → IsEnd o.hand.deque k d → IsEnd o.hand.deque k e) → IsBench o new
  like_bench is ends = record {
    few = let m = like.0 in let f = is.few in omega arith;
    within = let m = like.0 in let w = is.within in omega arith;
    pushes = is.pushes;
    share = let m = like.0 in let s = is.share in omega arith;
    home = is.home;
    owned = is.owned;
    deque = λ e at. let there = there_too new old o.hand.deque e (sym like.0) at in (like.1 o.hand.deque (get_or old o.hand.deque e) e there at).0 ∙ is.deque (get_or old o.hand.deque e) there;
    each = λ k e at. let there = there_too new old k e (sym like.0) at in ends k (get_or old k e) e there at (is.each k (get_or old k e) there);
  }

-- an end with the same pass
end_same : (n k : ℕ) (d e : EndValue) → e.pass ≡ d.pass → IsEnd n k d → IsEnd n k e
end_same n k d e same is = record { own = λ s. same ∙ is.own s; view = λ v at. is.view v (sym same ∙ at) }

-- a slip was stolen
module _ (o : OwnValue) (old new : List EndValue) (x : Slip) (is : IsBench o old) (stole : StoleAround o.hand.deque old new x) where
  took_like : (k : ℕ) (d e : EndValue) → Took d e x → IsLike d e
  took_like k d e took = (took.deque, λ j. ap (gone j) took.now ∙ sym (ap (gone j) took.was))

  stolen_like : AreLike old new
  stolen_like = (stole.0.others.many, each)
    where
      each : (k : ℕ) (d e : EndValue) → slice_get old k ≡ Some d → slice_get new k ≡ Some e → IsLike d e
      each k d e p q = ⊎_elim
          (λ (t : _ × (k ≡ stole.0.place)). subst (λ (u : EndValue × EndValue). IsLike u.0 u.1)
          (λ i. (one_item old stole.0.place d stole.0.end (subst (λ (n : ℕ). slice_get old n ≡ Some d) t.1 p) stole.0.was i, one_item new stole.0.place e stole.0.next (subst (λ (n : ℕ). slice_get new n ≡ Some e) t.1 q) stole.0.now i))
          (took_like k stole.0.end stole.0.next stole.0.took))
          (λ (t : _ × (k ≢ stole.0.place)). let same = stole.0.others.each k d e p q t.1 in (same.deque, gone_same d e same.pass))
          (eqb_tells k stole.0.place)

  was_end : IsEnd o.hand.deque stole.0.place stole.0.end
  was_end = is.each stole.0.place stole.0.end stole.0.was

  pub stolen_owner : x.tag.owner ≡ stole.0.place
  stolen_owner = All-head (IsOwned stole.0.took.hand.deque) x [] stole.0.took.owned ∙ (was_end.view stole.0.took.hand stole.0.took.was).0

  taken_end : IsEnd o.hand.deque stole.0.place stole.0.next
  taken_end = record {
    own = λ s. absurd (stole.1 s);
    view = λ v at. subst (λ (w : Hand). (w.deque ≡ stole.0.place) × (w.share ≡ 1) × (w.home ≡ o.hand.deque ∷ []) × AllOwned stole.0.place w.taken) (same_Some (took stole.0.took.hand (x ∷ [])) v (sym stole.0.took.now ∙ at)) after;
  }
    where
      before : (stole.0.took.hand.deque ≡ stole.0.place) × (stole.0.took.hand.share ≡ 1) × (stole.0.took.hand.home ≡ o.hand.deque ∷ []) × AllOwned stole.0.place stole.0.took.hand.taken
      before = was_end.view stole.0.took.hand stole.0.took.was

      after : (stole.0.took.hand.deque ≡ stole.0.place) × (stole.0.took.hand.share ≡ 1) × (stole.0.took.hand.home ≡ o.hand.deque ∷ []) × AllOwned stole.0.place (stole.0.took.hand.taken ++ x ∷ [])
      after = (before.0, before.1, before.2, All-append (IsOwned stole.0.place) stole.0.took.hand.taken (x ∷ []) before.3 (subst (λ (n : ℕ). AllOwned n (x ∷ [])) before.0 stole.0.took.owned))

  pub stolen_bench : IsBench o new
  stolen_bench = like_bench o old new stolen_like is ends
    where
      ends : (k : ℕ) (d e : EndValue) → slice_get old k ≡ Some d → slice_get new k ≡ Some e → IsEnd o.hand.deque k d → IsEnd o.hand.deque k e
      ends k d e p q was = ⊎_elim
          (λ (t : _ × (k ≡ stole.0.place)). subst (λ (u : ℕ × EndValue). IsEnd o.hand.deque u.0 u.1)
          (λ i. (sym t.1 i, one_item new stole.0.place e stole.0.next (subst (λ (n : ℕ). slice_get new n ≡ Some e) t.1 q) stole.0.now i)) taken_end)
          (λ (t : _ × (k ≢ stole.0.place)). end_same o.hand.deque k d e (stole.0.others.each k d e p q t.1).pass was)
          (eqb_tells k stole.0.place)

  pub stolen_same : bench_of o new ≡ record (bench_of o old) { taken = (bench_of o new).taken; known = (bench_of o new).known }
  stolen_same = like_same o old new stolen_like

  pub stolen_taken : SameItems (o.hand.taken ++ passes_taken new) ((o.hand.taken ++ passes_taken old) ++ x ∷ [])
  stolen_taken g = let step = passes_stole g old new stole.0.place stole.0.end stole.0.next x stole.0.others.many stole.0.was stole.0.now stole.0.took stole.0.others.each in
      let a = weigh-append g o.hand.taken (passes_taken new) in let b = weigh-append g (o.hand.taken ++ passes_taken old) (x ∷ []) in let c = weigh-append g o.hand.taken (passes_taken old) in omega arith

  pub stolen_other : x.tag.owner ≢ o.hand.deque
  stolen_other s = stole.1 (sym stolen_owner ∙ s)

  pub stolen_within : x.tag.owner < length (map (λ (e : EndValue). e.deque) old)
  stolen_within = let m = length_calls old in let b = slice_get_within old stole.0.place stole.0.end stole.0.was in let e = stolen_owner in omega arith

-- all others were tried in vain
module _ (o : OwnValue) (old new : List EndValue) (is : IsBench o old) (tried : Each (IsTriedAround o.hand.deque) old new) where
  same_pass : (k : ℕ) (d e : EndValue) → slice_get old k ≡ Some d → slice_get new k ≡ Some e → (e.deque ≡ d.deque) × (e.pass ≡ d.pass)
  same_pass k d e p q = let one = tried.each k d e p q in ⊎_elim
      (λ (t : _ × (k ≡ o.hand.deque)). let s = one.1 t.1 in (ap (λ (f : EndValue). f.deque) s, ap (λ (f : EndValue). f.pass) s))
      (λ (t : _ × (k ≢ o.hand.deque)). let s = one.0 t.1 in (s.deque, s.pass))
      (eqb_tells k o.hand.deque)

  vain_like : AreLike old new
  vain_like = (tried.many, λ k d e p q. let s = same_pass k d e p q in (s.0, gone_same d e s.1))

  pub vain_bench : IsBench o new
  vain_bench = like_bench o old new vain_like is (λ k d e p q. end_same o.hand.deque k d e (same_pass k d e p q).1)

  pub vain_same : bench_of o new ≡ record (bench_of o old) { taken = (bench_of o new).taken; known = (bench_of o new).known }
  vain_same = like_same o old new vain_like

  pub vain_taken : o.hand.taken ++ passes_taken new ≡ o.hand.taken ++ passes_taken old
  vain_taken = ap (λ (l : List Slip). o.hand.taken ++ l) (passes_same old new tried.many (λ k d e p q. (same_pass k d e p q).1))

  pub vain_found : away_from o.hand.deque 0 old ≡ [] → (k : ℕ) → k < length (map (λ (e : EndValue). e.deque) old) → k ≢ o.hand.deque → FoundNone (bench_of o old) (bench_of o new) k
  vain_found home k below other = by (has_pass o.hand.deque 0 k old d none (λ s. other (sym (zero-add k) ∙ s)) p)
    where
      blank : EndValue
      blank = record { deque = o.deque; pass = None; known = 0 }

      d : EndValue
      d = get_or old k blank

      p : slice_get old k ≡ Some d
      p = slice_get-get_or old k blank (let m = length_calls old in omega arith)

      e : EndValue
      e = get_or new k d

      q : slice_get new k ≡ Some e
      q = there_too old new k d tried.many p

      none : Contains (away_from o.hand.deque 0 old) (0 + k) → ⊥
      none there = let l : Contains {X = ℕ} [] (0 + k) = subst (λ (m : List ℕ). Contains m (0 + k)) home there in let b = l.1 in omega arith

      by : (v : Hand) × (d.pass ≡ Some v) → FoundNone (bench_of o old) (bench_of o new) k
      by (v, has) = ⊎_elim
          (λ (more : d.known < e.known). inl (let a = known_at old k d p in let b = known_at new k e q in omega arith))
          (λ (empty : WasEmpty v). inr (v, ((is.each k d p).view v has).0, sym (other_slips o old is k d other p ∙ ap pass_taken has), empty))
          (((tried.each k d e p q).0 other).cause v has)

-- what `steal` says, by cases
module _ (o : OwnValue) (old new : List EndValue) (is : IsBench o old) (v : BenchValue) (at : bench_of o old ≡ v) (n : ℕ) (number : n ≡ o.hand.deque) where
  abbrev pub NoneStolen : Option Slip → Type 0
  NoneStolen r = IfNone r (Each (IsTriedAround n) old new)

  abbrev pub OneStolen : Option Slip → Type 0
  OneStolen r = IfSome r (StoleAround n old new)

  as_tried : Each (IsTriedAround n) old new → Each (IsTriedAround o.hand.deque) old new
  as_tried = subst (λ (m : ℕ). Each (IsTriedAround m) old new) number

  as_stole : (x : Slip) → StoleAround n old new x → StoleAround o.hand.deque old new x
  as_stole x = subst (λ (m : ℕ). StoleAround m old new x) number

  pub steal_bench : (r : Option Slip) → NoneStolen r → OneStolen r → IsBench o new
  steal_bench None none some = vain_bench o old new is (as_tried none)
  steal_bench (Some x) none some = stolen_bench o old new x is (as_stole x some)

  pub steal_same : (r : Option Slip) → NoneStolen r → OneStolen r → bench_of o new ≡ record v { taken = (bench_of o new).taken; known = (bench_of o new).known }
  steal_same None none some = subst (λ (b : BenchValue). bench_of o new ≡ record b { taken = (bench_of o new).taken; known = (bench_of o new).known }) at (vain_same o old new is (as_tried none))
  steal_same (Some x) none some = subst (λ (b : BenchValue). bench_of o new ≡ record b { taken = (bench_of o new).taken; known = (bench_of o new).known }) at (stolen_same o old new x is (as_stole x some))

  pub steal_some : (r : Option Slip) → OneStolen r → IfSome r (λ (x : Slip). SameItems (o.hand.taken ++ passes_taken new) (v.taken ++ x ∷ []) × (x.tag.owner ≢ v.number) × (x.tag.owner < length v.call))
  steal_some None some = tt
  steal_some (Some x) some = subst (λ (b : BenchValue). SameItems (o.hand.taken ++ passes_taken new) (b.taken ++ x ∷ []) × (x.tag.owner ≢ b.number) × (x.tag.owner < length b.call)) at
      (stolen_taken o old new x is (as_stole x some), stolen_other o old new x is (as_stole x some), stolen_within o old new x is (as_stole x some))

  pub steal_none : (r : Option Slip) → v.away ≡ [] → NoneStolen r → IfNone r ((o.hand.taken ++ passes_taken new ≡ v.taken) × ((k : ℕ) → k < length v.call → k ≢ v.number → FoundNone v (bench_of o new) k))
  steal_none None home none = subst (λ (b : BenchValue). (o.hand.taken ++ passes_taken new ≡ b.taken) × ((k : ℕ) → k < length b.call → k ≢ b.number → FoundNone b (bench_of o new) k)) at
      (vain_taken o old new is (as_tried none), vain_found o old new is (as_tried none) (ap (λ (b : BenchValue). b.away) at ∙ home))
  steal_none (Some x) home none = tt
