-- What a bench knows of its own deque.
use Rattle.std.proofs.Common.{◌≡◌, ◌≢◌, ◌∙◌, refl, sym, ap, subst, ℕ, zero, suc, ◌+◌, ◌<◌, ◌≤◌, ◌==◌, nat_lt, get_or, if◌then◌else◌, List, [], ◌∷◌, ◌++◌, map, length, length-append, Option, Some, None, arith}
use Rattle.std.specs.List.{slice_get, Contains}
use Rattle.std.specs.Option.{IfSome, IfNone, MatchOption}
use Rattle.std.proofs.lemmas.Grind.{common_steps}
use Rattle.std.proofs.lemmas.Bool.Decides.{nat_tests}
use Rattle.std.proofs.lemmas.Option.{slice_get-get_or}
use Rattle.std.proofs.lemmas.List.{append-nil}
use Rattle.std.proofs.lemmas.List.Elements.{All-append, All-head, All-weaker, filter-append}
use Rattle.parcel_deques.specs.declared.parcel.Slip.{Slip}
use Rattle.parcel_deques.specs.declared.rule.Hand.{Hand}
use Rattle.parcel_deques.specs.Lists.{weigh, SameItems}
use Rattle.parcel_deques.specs.Parcels.{IsOwned, AllBelow, owned_by}
use Rattle.parcel_deques.specs.Rule.{all_shares, took, Drained, IsTaking}
use Rattle.parcel_deques.specs.Ends.{EndValue}
use Rattle.parcel_deques.specs.Owners.{OwnValue}
use Rattle.parcel_deques.specs.Benches.{BenchValue, IsBench, bench_of, passes_taken, pass_taken, HasAll, FoundOwnEmpty}
use Rattle.parcel_deques.proofs.Weights.{weigh-append}
use Rattle.parcel_deques.proofs.Slips.{owned_same, owned_none}
use Rattle.parcel_deques.proofs.Passes.{ends_here, passes_at, passes_within}

-- numbers in a list

one_at : ℕ → ℕ → ℕ
one_at k x = if x == k then 1 else 0

one_below : ℕ → ℕ → ℕ
one_below n x = if nat_lt x n then 1 else 0

weigh_sum : (f g h : ℕ → ℕ) → ((x : ℕ) → f x ≡ g x + h x) → (xs : List ℕ) → weigh f xs ≡ weigh g xs + weigh h xs
weigh_sum f g h each [] = omega arith
weigh_sum f g h each (x ∷ xs) = let one = each x in let rest = weigh_sum f g h each xs in omega arith

weigh_most : (f : ℕ → ℕ) → ((x : ℕ) → f x ≤ 1) → (xs : List ℕ) → weigh f xs ≤ length xs
weigh_most f each [] = omega arith
weigh_most f each (x ∷ xs) = let one = each x in let rest = weigh_most f each xs in omega arith

below_next : (n x : ℕ) → one_below (n + 1) x ≡ one_below n x + one_at n x
unfolding one_below one_at
below_next n x = grind (arith, common_steps, nat_tests)

below_most : (n x : ℕ) → one_below n x ≤ 1
unfolding one_below
below_most n x = grind (arith, common_steps, nat_tests)

at_itself : (k : ℕ) → one_at k k ≡ 1
unfolding one_at
at_itself k = grind (arith, common_steps, nat_tests)

is_there : (xs : List ℕ) (k i : ℕ) → i < length xs → get_or xs i k ≡ k → 1 ≤ weigh (one_at k) xs
is_there [] k i below at = absurd (omega arith)
is_there (x ∷ xs) k zero below at = let one : one_at k x ≡ 1 = ap (one_at k) at ∙ at_itself k in omega arith
is_there (x ∷ xs) k (suc i) below at = let rest = is_there xs k i (let b : suc i < suc (length xs) = below in omega arith) at in omega arith

counts : (n : ℕ) (xs : List ℕ) → ((k : ℕ) → k < n → Contains xs k) → n ≤ weigh (one_below n) xs
counts zero xs all = omega arith
counts (suc n) xs all =
    let there = all n (omega arith) in
    let one = is_there xs n there.0 there.1 there.2 in
    let rest = counts n xs (λ k b. all k (omega arith)) in
    let sum = weigh_sum (one_below (n + 1)) (one_below n) (one_at n) (below_next n) xs in
    let s : weigh (one_below (suc n)) xs ≡ weigh (one_below (n + 1)) xs = ap (λ (m : ℕ). weigh (one_below m) xs) (let e : suc n ≡ n + 1 = omega arith in e) in omega arith

-- a list that has all numbers below n is as long
pub has_so_many : (n : ℕ) (xs : List ℕ) → ((k : ℕ) → k < n → Contains xs k) → n ≤ length xs
has_so_many n xs all = let c = counts n xs all in let m = weigh_most (one_below n) (below_most n) xs in omega arith

-- lists in another order

pub same_mid : {T : Type 0} → (a b x : List T) → SameItems ((a ++ x) ++ b) ((a ++ b) ++ x)
same_mid a b x h = let p = weigh-append h (a ++ x) b in let q = weigh-append h a x in let r = weigh-append h (a ++ b) x in let s = weigh-append h a b in omega arith

pub length_calls : (es : List EndValue) → length (map (λ (e : EndValue). e.deque) es) ≡ length es
length_calls [] = refl
length_calls (e ∷ es) = ap suc (length_calls es)

module _ (o : OwnValue) (es : List EndValue) (is : IsBench o es) where
  -- the own deque has no pass
  own_end : (e : EndValue) → slice_get es o.hand.deque ≡ Some e → e.pass ≡ None
  own_end e at = (is.each o.hand.deque e at).own refl

  pub own_slips : owned_by o.hand.deque (o.hand.taken ++ passes_taken es) ≡ o.hand.taken
  own_slips = filter-append (λ (x : Slip). x.tag.owner == o.hand.deque) o.hand.taken (passes_taken es)
      ∙ (λ i. owned_same o.hand.deque o.hand.taken is.owned i ++ none i) ∙ append-nil o.hand.taken
    where
      none : owned_by o.hand.deque (passes_taken es) ≡ []
      none = let e = slice_get-get_or es o.hand.deque (record { deque = o.deque; pass = None; known = 0 }) is.within in
          ap (λ (m : ℕ). owned_by m (passes_taken es)) (let z : o.hand.deque ≡ 0 + o.hand.deque = omega arith in z)
          ∙ passes_at o.hand.deque 0 o.hand.deque es (get_or es o.hand.deque (record { deque = o.deque; pass = None; known = 0 })) e (ends_here o.hand.deque es is.each)
          ∙ ap pass_taken (own_end (get_or es o.hand.deque (record { deque = o.deque; pass = None; known = 0 })) e)

  pub other_slips : (k : ℕ) (e : EndValue) → k ≢ o.hand.deque → slice_get es k ≡ Some e → owned_by k (o.hand.taken ++ passes_taken es) ≡ pass_taken e.pass
  other_slips k e other at = filter-append (λ (x : Slip). x.tag.owner == k) o.hand.taken (passes_taken es)
      ∙ ap (λ (l : List Slip). l ++ owned_by k (passes_taken es)) (owned_none k o.hand.deque o.hand.taken (λ s. other (sym s)) is.owned)
      ∙ ap (λ (m : ℕ). owned_by m (passes_taken es)) (let z : k ≡ 0 + k = omega arith in z)
      ∙ passes_at o.hand.deque 0 k es e at (ends_here o.hand.deque es is.each)

  pub all_below : AllBelow (length (map (λ (e : EndValue). e.deque) es)) (o.hand.taken ++ passes_taken es)
  all_below = let m = length_calls es in let w = is.within in
      All-append (λ (x : Slip). x.tag.owner < length (map (λ (e : EndValue). e.deque) es)) o.hand.taken (passes_taken es)
      (All-weaker (IsOwned o.hand.deque) (λ (x : Slip). x.tag.owner < length (map (λ (e : EndValue). e.deque) es)) (λ x s. let t : x.tag.owner ≡ o.hand.deque = s in omega arith) o.hand.taken is.owned)
      (passes_within o.hand.deque 0 (length (map (λ (e : EndValue). e.deque) es)) es (omega arith) (ends_here o.hand.deque es is.each))

  pub has_whole : HasAll (bench_of o es) → all_shares ≤ o.hand.share
  has_whole all = let m = length_calls es in let n = has_so_many (length es) o.hand.home (λ k b. all k (omega arith)) in let s = is.share in omega arith

-- the first parcel of the own deque is taken, or there is none
module _ (o p : OwnValue) (es : List EndValue) (is : IsBench o es) (deque : p.deque ≡ o.deque) (capacity : p.capacity ≡ o.capacity) where
  module _ (x : Slip) (taking : IsTaking o.hand (x ∷ []) p.hand) where
    drained : p ≡ record { deque = o.deque; capacity = o.capacity; hand = took o.hand (x ∷ []) }
    drained = λ i. record { deque = deque i; capacity = capacity i; hand = taking.0 i }

    pub drained_bench : IsBench p es
    drained_bench = subst (λ (q : OwnValue). IsBench q es) (sym drained) (record {
      few = is.few;
      within = is.within;
      pushes = is.pushes;
      share = is.share;
      home = is.home;
      owned = All-append (IsOwned o.hand.deque) o.hand.taken (x ∷ []) is.owned taking.1;
      deque = is.deque;
      each = is.each;
    })

    pub drained_same : bench_of p es ≡ record (bench_of o es) { taken = (bench_of p es).taken }
    drained_same = λ i. record (bench_of (drained i) es) { taken = p.hand.taken ++ passes_taken es }

    pub drained_taken : SameItems (p.hand.taken ++ passes_taken es) ((o.hand.taken ++ passes_taken es) ++ x ∷ [])
    drained_taken = subst (λ (l : List Slip). SameItems (l ++ passes_taken es) ((o.hand.taken ++ passes_taken es) ++ x ∷ [])) (sym (ap (λ (v : Hand). v.taken) taking.0)) (same_mid o.hand.taken (passes_taken es) (x ∷ []))

    pub drained_owner : x.tag.owner ≡ o.hand.deque
    drained_owner = All-head (IsOwned o.hand.deque) x [] taking.1

    pub drained_few : length (owned_by o.hand.deque (o.hand.taken ++ passes_taken es)) < length o.hand.pushed
    drained_few = let e = ap length (own_slips o es is) in let l = length-append o.hand.taken (x ∷ []) in let t = taking.2 is.pushes in omega arith

  module _ (same : p.hand ≡ o.hand) (drained : Drained o.hand) where
    pub undrained : p ≡ o
    undrained = λ i. record { deque = deque i; capacity = capacity i; hand = same i }

    pub found_empty : FoundOwnEmpty (bench_of o es)
    found_empty = (o.hand, refl, is.pushes, refl, sym (own_slips o es is), drained.0)

    pub found_all : HasAll (bench_of o es) → SameItems (owned_by o.hand.deque (o.hand.taken ++ passes_taken es)) o.hand.pushed
    found_all all = subst (λ (l : List Slip). SameItems l o.hand.pushed) (sym (own_slips o es is)) (drained.1 is.pushes (has_whole o es is all))

-- what `drain` says, by cases
module _ (o p : OwnValue) (es : List EndValue) (is : IsBench o es) (v : BenchValue) (at : bench_of o es ≡ v) (same : (p.deque ≡ o.deque) × (p.capacity ≡ o.capacity)) where
  abbrev pub Popped : Option Slip → Type 0
  Popped r = MatchOption r ((p.hand ≡ o.hand) × Drained o.hand) (λ (x : Slip). IsTaking o.hand (x ∷ []) p.hand)

  pub drain_bench : (r : Option Slip) → Popped r → IsBench p es
  drain_bench None rule = subst (λ (q : OwnValue). IsBench q es) (sym (undrained o p es is same.0 same.1 rule.0 rule.1)) is
  drain_bench (Some x) rule = drained_bench o p es is same.0 same.1 x rule

  pub drain_some : (r : Option Slip) → Popped r → IfSome r (λ (x : Slip). SameItems (p.hand.taken ++ passes_taken es) (v.taken ++ x ∷ []) × (x.tag.owner ≡ v.number))
  drain_some None rule = tt
  drain_some (Some x) rule = subst (λ (b : BenchValue). SameItems (p.hand.taken ++ passes_taken es) (b.taken ++ x ∷ []) × (x.tag.owner ≡ b.number)) at
      (drained_taken o p es is same.0 same.1 x rule, drained_owner o p es is same.0 same.1 x rule)

  pub drain_few : (r : Option Slip) → Popped r → IfSome r (λ (x : Slip). length (owned_by v.number v.taken) < length v.pushed)
  drain_few None rule = tt
  drain_few (Some x) rule = subst (λ (b : BenchValue). length (owned_by b.number b.taken) < length b.pushed) at (drained_few o p es is same.0 same.1 x rule)

  pub drain_none : (r : Option Slip) → Popped r → IfNone r ((bench_of p es ≡ v) × FoundOwnEmpty v)
  drain_none None rule = (
    ap (λ (q : OwnValue). bench_of q es) (undrained o p es is same.0 same.1 rule.0 rule.1) ∙ at,
    subst FoundOwnEmpty at (found_empty o p es is same.0 same.1 rule.0 rule.1),
  )
  drain_none (Some x) rule = tt

  pub drain_all : (r : Option Slip) → Popped r → IfNone r (HasAll v → SameItems (owned_by v.number v.taken) v.pushed)
  drain_all None rule = subst (λ (b : BenchValue). HasAll b → SameItems (owned_by b.number b.taken) b.pushed) at (found_all o p es is same.0 same.1 rule.0 rule.1)
  drain_all (Some x) rule = tt
