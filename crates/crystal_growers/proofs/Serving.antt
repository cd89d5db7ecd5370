-- What a bench takes and pushes, and what is left in its deque.
use Rattle.std.proofs.Common.{◌≡◌, refl, sym, ap, subst, ◌∙◌, ℕ, ◌+◌, ◌-◌, ◌<◌, ◌==◌, Bool, true, false, cond, List, [], ◌∷◌, ◌++◌, length, filter, Option, Some, None, Contains, append-nil, append_assoc, length-append, arith}
use Rattle.std.specs.Option.{is_some}
use Rattle.std.proofs.lemmas.List.Elements.{filter-append, All-cons, All-nil}
use Rattle.graph_rule.specs.Rule.{IsKnown}
use Rattle.graph_rule.specs.Values.{GraphValue, SeatValue, Belongs}
use Rattle.parcel_deques.specs.declared.parcel.Slip.{Slip}
use Rattle.parcel_deques.specs.Lists.{weigh, SameItems}
use Rattle.parcel_deques.specs.Parcels.{IsOwned, owned_by}
use Rattle.parcel_deques.specs.Benches.{BenchValue, HasAll, FoundOwnEmpty}
use Rattle.parcel_deques.proofs.Weights.{weigh-append, weigh_ones}
use Rattle.parcel_deques.proofs.Slips.{owned_same}
use Rattle.crystal_growers.specs.Drawing.{IsWaiting, IsEnded}
use Rattle.crystal_growers.specs.Grower.{HasActed, HasWorked, IsBenchServed, IsWorking, IsSweeping, GoesOn, HasSwept}
use Rattle.crystal_growers.proofs.Acting.{works_none, works_then, spent_later}

-- the slips of one owner
weigh_part : (h : Slip → ℕ) (test : Slip → Bool) (xs : List Slip) → weigh h (filter test xs) ≡ weigh (λ (x : Slip). cond (test x) (h x) 0) xs
weigh_part h test [] = refl
weigh_part h test (x ∷ xs) = by (test x) (weigh_part h test xs)
  where
    by : (b : Bool) → weigh h (filter test xs) ≡ weigh (λ (y : Slip). cond (test y) (h y) 0) xs
        → weigh h (cond b (x ∷ filter test xs) (filter test xs)) ≡ cond b (h x) 0 + weigh (λ (y : Slip). cond (test y) (h y) 0) xs
    by true rest = ap (λ (n : ℕ). h x + n) rest
    by false rest = let e : weigh h (filter test xs) ≡ 0 + weigh (λ (y : Slip). cond (test y) (h y) 0) xs = omega arith in e

same_part : (test : Slip → Bool) (xs ys : List Slip) → SameItems xs ys → SameItems (filter test xs) (filter test ys)
same_part test xs ys same = λ h. weigh_part h test xs ∙ same (λ (x : Slip). cond (test x) (h x) 0) ∙ sym (weigh_part h test ys)

owned_one : (n : ℕ) (x : Slip) → x.tag.owner ≡ n → owned_by n (x ∷ []) ≡ x ∷ []
owned_one n x is = owned_same n (x ∷ []) (All-cons (IsOwned n) x [] is (All-nil (IsOwned n)))

-- one own slip more was taken
pub owned_more : (n : ℕ) (old new : List Slip) (x : Slip) → SameItems new (old ++ x ∷ []) → x.tag.owner ≡ n → SameItems (owned_by n new) (owned_by n old ++ x ∷ [])
owned_more n old new x same is = λ h.
    same_part (λ (y : Slip). y.tag.owner == n) new (old ++ x ∷ []) same h ∙ ap (λ (l : List Slip). weigh h l) (filter-append (λ (y : Slip). y.tag.owner == n) old (x ∷ []) ∙ ap (λ (l : List Slip). owned_by n old ++ l) (owned_one n x is))

pub owned_longer : (n : ℕ) (old new : List Slip) (x : Slip) → SameItems new (old ++ x ∷ []) → x.tag.owner ≡ n → length (owned_by n new) ≡ length (owned_by n old) + 1
owned_longer n old new x same is = sym (weigh_ones (owned_by n new)) ∙ owned_more n old new x same is (λ (y : Slip). 1) ∙ weigh_ones (owned_by n old ++ x ∷ []) ∙ length-append (owned_by n old) (x ∷ [])

-- so fewer are left
pub fewer_left : (b next : BenchValue) (x : Slip) → next ≡ record b { taken = next.taken } → SameItems next.taken (b.taken ++ x ∷ []) → x.tag.owner ≡ b.number → length (owned_by b.number b.taken) < length b.pushed
    → length next.pushed - length (owned_by next.number next.taken) < length b.pushed - length (owned_by b.number b.taken)
fewer_left b next x is same owner few =
    let pushed : length next.pushed ≡ length b.pushed = ap (λ (c : BenchValue). length c.pushed) is in
    let owned : length (owned_by next.number next.taken) ≡ length (owned_by b.number b.taken) + 1 = ap (λ (c : BenchValue). length (owned_by c.number next.taken)) is ∙ owned_longer b.number b.taken next.taken x same owner in
    omega arith

-- nothing was taken yet
pub served_none : (b : BenchValue) → IsBenchServed b b [] []
served_none b = record { is = λ i. record b { pushed = sym (append-nil b.pushed) i }; taken = λ h. ap (λ (l : List Slip). weigh h l) (sym (append-nil b.taken)) }

pub served_then : (a b c : BenchValue) (xs us ys vs : List Slip) → IsBenchServed a b xs us → IsBenchServed b c ys vs → IsBenchServed a c (xs ++ ys) (us ++ vs)
served_then a b c xs us ys vs p q = record {
  is = q.is ∙ ap (λ (k : BenchValue). record k { pushed = k.pushed ++ vs; taken = c.taken; known = c.known }) p.is ∙ (λ i. record a { pushed = append_assoc a.pushed us vs i; taken = c.taken; known = c.known });
  taken = λ h.
      let k = p.taken h in let l = q.taken h in
      let m = weigh-append h a.taken xs in let n = weigh-append h b.taken ys in let o = weigh-append h a.taken (xs ++ ys) in let r = weigh-append h xs ys in omega arith;
}

-- a slip was taken, or some were pushed
pub served_taken : (old new : BenchValue) (x : Slip) → new ≡ record old { taken = new.taken; known = new.known } → SameItems new.taken (old.taken ++ x ∷ []) → IsBenchServed old new (x ∷ []) []
served_taken old new x is same = record { is = is ∙ (λ i. record old { pushed = sym (append-nil old.pushed) i; taken = new.taken; known = new.known }); taken = same }

pub served_pushed : (old new : BenchValue) (given : List Slip) → new ≡ record old { pushed = old.pushed ++ given } → IsBenchServed old new [] given
served_pushed old new given is = record {
  is = is ∙ (λ i. record old { pushed = old.pushed ++ given; taken = sym taken i; known = sym known i });
  taken = λ h. ap (λ (l : List Slip). weigh h l) (taken ∙ sym (append-nil old.taken));
}
  where
    taken : new.taken ≡ old.taken
    taken = ap (λ (b : BenchValue). b.taken) is

    known : new.known ≡ old.known
    known = ap (λ (b : BenchValue). b.known) is

pub sweeping_none : (g : GraphValue) (s : SeatValue) (b : BenchValue) → Belongs s g → IsKnown s.view → s.view.dues.pledge ≡ 0 → IsSweeping g s s b b []
sweeping_none g s b belongs known pledge = record {
  worked = works_none g s belongs known pledge;
  served = served_none b;
  owned = λ h. ap (λ (l : List Slip). weigh h l) (sym (append-nil (owned_by b.number b.taken)));
}

-- one parcel more
module _ (g : GraphValue) (first s mid now : SeatValue) (b0 b next : BenchValue) (got : List Slip) (x : Slip) (p : IsSweeping g first s b0 b got) (is : next ≡ record b { taken = next.taken })
    (same : SameItems next.taken (b.taken ++ x ∷ [])) (owner : x.tag.owner ≡ b.number) (joined : HasWorked g s mid (x ∷ []) []) where
  known_is : next ≡ record b { taken = next.taken; known = next.known }
  known_is = is ∙ (λ i. record b { taken = next.taken; known = sym (ap (λ (c : BenchValue). c.known) is) i })

  number_is : b.number ≡ b0.number
  number_is = ap (λ (c : BenchValue). c.number) p.served.is

  pub joined_works : HasWorked g first mid (got ++ x ∷ []) []
  joined_works = works_then g first s mid got [] (x ∷ []) [] p.worked joined

  pub joined_served : IsBenchServed b0 next (got ++ x ∷ []) []
  joined_served = served_then b0 b next got [] (x ∷ []) [] p.served (served_taken b next x known_is same)

  pub sweeping_next : HasWorked g mid now [] [] → IsSweeping g first now b0 next (got ++ x ∷ [])
  sweeping_next worked = record {
    worked = subst (λ (l : List Slip). HasWorked g first now l []) (append-nil (got ++ x ∷ [])) (works_then g first mid now (got ++ x ∷ []) [] [] [] joined_works worked);
    served = joined_served;
    owned = λ h.
        let k = p.owned h in
        let m = owned_more b0.number b.taken next.taken x same (owner ∙ number_is) h in
        let n = weigh-append h (owned_by b0.number b.taken) (x ∷ []) in
        let o = weigh-append h (owned_by b0.number b0.taken) got in
        let q = weigh-append h (owned_by b0.number b0.taken) (got ++ x ∷ []) in
        let r = weigh-append h got (x ∷ []) in
        omega arith;
  }

  -- for want of memory
  pub working_next : HasWorked g mid now [] [] → IsWorking g first now b0 next
  working_next worked = record { got = got ++ x ∷ []; given = []; worked = (sweeping_next worked).worked; served = joined_served }

-- the deque was empty
pub swept : (g : GraphValue) (first now : SeatValue) (b0 b : BenchValue) (got : List Slip) → IsSweeping g first now b0 b got → FoundOwnEmpty b → (HasAll b → SameItems (owned_by b.number b.taken) b.pushed) → HasSwept g first now b0 b
swept g first now b0 b got p empty all = record {
  got = got;
  sweeping = p;
  empty = empty;
  all = λ home h.
      let number : b.number ≡ b0.number = ap (λ (c : BenchValue). c.number) p.served.is in
      let here : HasAll b = λ k below. subst (λ (l : List ℕ). Contains l k) (sym (ap (λ (c : BenchValue). c.home) p.served.is)) (home k (let e = ap (λ (c : BenchValue). length c.call) p.served.is in omega arith)) in
      sym (p.owned h) ∙ ap (λ (n : ℕ). weigh h (owned_by n b.taken)) (sym number) ∙ all here h ∙ ap (λ (l : List Slip). weigh h l) (ap (λ (c : BenchValue). c.pushed) p.served.is ∙ append-nil b0.pushed);
}

-- whether some word found no cell

pub goes_some : (g : GraphValue) (s : SeatValue) (f : Option ℕ) → is_some f ≡ true → GoesOn f g s f
goes_some g s None is = cc
goes_some g s (Some x) is = refl

pub goes_none : (g : GraphValue) (s : SeatValue) (f full : Option ℕ) → is_some f ≡ false → IsEnded g [] s full → GoesOn f g s full
goes_none g s None full is ended = ended
goes_none g s (Some x) full is ended = cc

pub no_some : (f : Option ℕ) → is_some f ≡ false → f ≡ None
no_some None is = refl
no_some (Some x) is = cc

pub goes_begin : (g : GraphValue) (s : SeatValue) (f : Option ℕ) → (f ≡ None → IsWaiting g [] s) → GoesOn f g s f
goes_begin g s None waits = waits refl
goes_begin g s (Some x) waits = refl

pub goes_waits : (g : GraphValue) (s : SeatValue) (f full : Option ℕ) → GoesOn f g s full → full ≡ None → IsWaiting g [] s
goes_waits g s None None goes is = goes
goes_waits g s None (Some x) goes is = cc
goes_waits g s (Some x) full goes is = cc

pub goes_then : (g : GraphValue) (s t : SeatValue) (f mid full : Option ℕ) (got given : List Slip) → GoesOn f g s mid → HasActed g s t got given → GoesOn mid g t full → GoesOn f g t full
goes_then g s t None None full got given p acted q = q
goes_then g s t None (Some y) full got given p acted q = subst (λ (h : Option ℕ). IsEnded g [] t h) (sym q) (spent_later g s t got given y acted p)
goes_then g s t (Some x) mid full got given p acted q = subst (λ (h : Option ℕ). GoesOn h g t full) p q
