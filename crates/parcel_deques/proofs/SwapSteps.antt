-- Two benches swap passes: each takes the other's pass of its own deque over.
use Rattle.std.proofs.Common.{◌≡◌, ◌≢◌, refl, sym, ap, ap₂, ◌∙◌, ℕ, ◌+◌, ◌==◌, Bool, true, false, not, cond, List, [], ◌∷◌, ◌++◌, filter, arith}
use Rattle.std.proofs.lemmas.Bool.{eqb-true, ne_eqb, not-true, cond-false}
use Rattle.parcel_deques.specs.declared.parcel.Slip.{Slip}
use Rattle.parcel_deques.specs.Lists.{weigh, SameItems}
use Rattle.parcel_deques.specs.Parcels.{owned_by, others_than}
use Rattle.parcel_deques.specs.Benches.{BenchValue}
use Rattle.parcel_deques.specs.Swapping.{count_of, HasSwapped, HaveSwapped}
use Rattle.parcel_deques.proofs.Weights.{weigh-append}

module _ {T : Type 0} (h : T → ℕ) where
  -- what a filter keeps and what it leaves out
  pub weigh_split : (p : T → Bool) (xs : List T) → weigh h (filter p xs) + weigh h (filter (λ (x : T). not (p x)) xs) ≡ weigh h xs
  weigh_split p [] = omega arith
  weigh_split p (x ∷ xs) = by (p x) (weigh_split p xs)
    where
      by : (b : Bool) → weigh h (filter p xs) + weigh h (filter (λ (y : T). not (p y)) xs) ≡ weigh h xs
          → weigh h (cond b (x ∷ filter p xs) (filter p xs)) + weigh h (cond (not b) (x ∷ filter (λ (y : T). not (p y)) xs) (filter (λ (y : T). not (p y)) xs)) ≡ h x + weigh h xs
      by true rest = omega arith
      by false rest = omega arith

  -- a filter keeps nothing that weighs
  pub weigh_nothing : (p : T → Bool) (xs : List T) → ((x : T) → p x ≡ true → h x ≡ 0) → weigh h (filter p xs) ≡ 0
  weigh_nothing p [] light = refl
  weigh_nothing p (x ∷ xs) light = by (p x) refl (weigh_nothing p xs light)
    where
      by : (b : Bool) → p x ≡ b → weigh h (filter p xs) ≡ 0 → weigh h (cond b (x ∷ filter p xs) (filter p xs)) ≡ 0
      by true is rest = let here = light x is in omega arith
      by false is rest = rest

pub count_owned : (n x : ℕ) (xs : List Slip) → x ≢ n → count_of x (owned_by n xs) ≡ 0
count_owned n x xs differ =
    weigh_nothing (λ (s : Slip). cond (s.tag.owner == x) 1 0) (λ (s : Slip). s.tag.owner == n) xs
    (λ s is. cond-false (s.tag.owner == x) 1 0 (ne_eqb s.tag.owner x (λ e. differ (sym e ∙ eqb-true s.tag.owner n is))))

pub count_others : (n : ℕ) (xs : List Slip) → count_of n (others_than n xs) ≡ 0
count_others n xs =
    weigh_nothing (λ (s : Slip). cond (s.tag.owner == n) 1 0) (λ (s : Slip). not (s.tag.owner == n)) xs
    (λ s is. cond-false (s.tag.owner == n) 1 0 (not-true (s.tag.owner == n) is))

-- the slips of one owner, and all others
pub weigh_owned : (h : Slip → ℕ) (n : ℕ) (xs : List Slip) → weigh h (owned_by n xs) + weigh h (others_than n xs) ≡ weigh h xs
weigh_owned h n xs = weigh_split h (λ (s : Slip). s.tag.owner == n) xs

-- without the slips of one owner there are as many of each other
pub count_rest : (n x : ℕ) (xs : List Slip) → x ≢ n → count_of x (others_than n xs) ≡ count_of x xs
count_rest n x xs differ =
    let split : count_of x (owned_by n xs) + count_of x (others_than n xs) ≡ count_of x xs = weigh_owned (λ (s : Slip). cond (s.tag.owner == x) 1 0) n xs in
    let none = count_owned n x xs differ in
    omega arith

-- one bench took over the other's pass of its deque
pub record TookOver (one two now_one now_two : BenchValue) : Type 0 where
  pub own : now_one ≡ record one { home = one.home ++ two.number ∷ []; taken = now_one.taken }
  pub taken : SameItems now_one.taken (one.taken ++ owned_by one.number two.taken)
  pub lent : now_two ≡ record two { away = now_two.away; known = now_two.known; taken = others_than one.number two.taken }
  pub away : SameItems now_two.away (two.away ++ one.number ∷ [])

-- what was taken over is counted
counted : (one two now_one now_two : BenchValue) (x : ℕ) → TookOver one two now_one now_two → count_of x now_one.taken ≡ count_of x one.taken + count_of x (owned_by one.number two.taken)
counted one two now_one now_two x t = t.taken (λ (s : Slip). cond (s.tag.owner == x) 1 0) ∙ weigh-append (λ (s : Slip). cond (s.tag.owner == x) 1 0) one.taken (owned_by one.number two.taken)

-- first one takes over, then the other
module _ (a b a1 b1 a2 b2 : BenchValue) (s : TookOver a b a1 b1) (t : TookOver b1 a1 b2 a2) (differ : a.number ≢ b.number) where
  one_number : a1.number ≡ a.number
  one_number = ap (λ (v : BenchValue). v.number) s.own

  two_number : b1.number ≡ b.number
  two_number = ap (λ (v : BenchValue). v.number) s.lent

  one_left : a2.taken ≡ others_than b.number a1.taken
  one_left = ap (λ (v : BenchValue). v.taken) t.lent ∙ ap (λ (n : ℕ). others_than n a1.taken) two_number

  two_left : b1.taken ≡ others_than a.number b.taken
  two_left = ap (λ (v : BenchValue). v.taken) s.lent

  -- the slips of the second bench that the first one had
  two_gets : (h : Slip → ℕ) → weigh h b2.taken ≡ weigh h b1.taken + weigh h (owned_by b.number a1.taken)
  two_gets h = t.taken h ∙ weigh-append h b1.taken (owned_by b1.number a1.taken) ∙ ap (λ (n : ℕ). weigh h b1.taken + weigh h (owned_by n a1.taken)) two_number

  first_met : HasSwapped b.number a a2
  first_met = record {
    number = ap (λ (v : BenchValue). v.number) t.lent ∙ one_number;
    call = ap (λ (v : BenchValue). v.call) t.lent ∙ ap (λ (v : BenchValue). v.call) s.own;
    pushed = ap (λ (v : BenchValue). v.pushed) t.lent ∙ ap (λ (v : BenchValue). v.pushed) s.own;
    capacity = ap (λ (v : BenchValue). v.capacity) t.lent ∙ ap (λ (v : BenchValue). v.capacity) s.own;
    home = ap (λ (v : BenchValue). v.home) t.lent ∙ ap (λ (v : BenchValue). v.home) s.own;
    away = λ h. t.away h ∙ ap₂ (λ (l : List ℕ) (n : ℕ). weigh h (l ++ n ∷ [])) (ap (λ (v : BenchValue). v.away) s.own) two_number;
    none = ap (count_of b.number) one_left ∙ count_others b.number a1.taken;
    others = λ x not_own not_other.
        let left = ap (count_of x) one_left ∙ count_rest b.number x a1.taken not_other in
        let got = counted a b a1 b1 x s in
        let none = count_owned a.number x b.taken not_own in
        let is : count_of x a2.taken ≡ count_of x a.taken = omega arith in is;
  }

  second_met : HasSwapped a.number b b2
  second_met = record {
    number = ap (λ (v : BenchValue). v.number) t.own ∙ two_number;
    call = ap (λ (v : BenchValue). v.call) t.own ∙ ap (λ (v : BenchValue). v.call) s.lent;
    pushed = ap (λ (v : BenchValue). v.pushed) t.own ∙ ap (λ (v : BenchValue). v.pushed) s.lent;
    capacity = ap (λ (v : BenchValue). v.capacity) t.own ∙ ap (λ (v : BenchValue). v.capacity) s.lent;
    home = ap (λ (v : BenchValue). v.home) t.own ∙ ap₂ (λ (l : List ℕ) (n : ℕ). l ++ n ∷ []) (ap (λ (v : BenchValue). v.home) s.lent) one_number;
    away = λ h. ap (λ (v : BenchValue). weigh h v.away) t.own ∙ s.away h;
    none =
        let left = ap (count_of a.number) two_left ∙ count_others a.number b.taken in
        let got = two_gets (λ (x : Slip). cond (x.tag.owner == a.number) 1 0) in
        let none = count_owned b.number a.number a1.taken differ in
        let is : count_of a.number b2.taken ≡ 0 = omega arith in is;
    others = λ x not_own not_other.
        let left = ap (count_of x) two_left ∙ count_rest a.number x b.taken not_other in
        let got = two_gets (λ (y : Slip). cond (y.tag.owner == x) 1 0) in
        let none = count_owned b.number x a1.taken not_own in
        let is : count_of x b2.taken ≡ count_of x b.taken = omega arith in is;
  }

  pub have_swapped : HaveSwapped a b a2 b2
  have_swapped = record {
    first = first_met;
    second = second_met;
    slips = λ h.
        let one = s.taken h ∙ weigh-append h a.taken (owned_by a.number b.taken) in
        let one_split = weigh_owned h a.number b.taken in
        let one_kept = ap (weigh h) two_left in
        let two = two_gets h in
        let two_split = weigh_owned h b.number a1.taken in
        let two_kept = ap (weigh h) one_left in
        let is : weigh h a2.taken + weigh h b2.taken ≡ weigh h a.taken + weigh h b.taken = omega arith in is;
  }
