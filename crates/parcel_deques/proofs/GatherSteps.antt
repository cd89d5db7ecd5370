-- All benches of a call swap passes, pair by pair.
use Rattle.std.proofs.Common.{◌≡◌, ◌≢◌, refl, sym, ap, subst, ◌∙◌, ℕ, zero, suc, ◌+◌, ◌-◌, ◌<◌, ◌≤◌, ◌==◌, ◌⊎◌, inl, inr, Bool, true, false, cond, List, [], ◌∷◌, ◌++◌, length, set, get_or, take, drop, Contains, arith}
use Rattle.std.proofs.lemmas.Bool.{cases_eq, cases_lt, eqb-true, eq-eqb, ne_eqb, cond-true, cond-false}
use Rattle.std.proofs.lemmas.List.{append-nil, length-set, length-append, get_or-set_same, get_or-set_other, get_or_default, get_or_append_left, get_or-append_right, set-append_left, set-append_right, take_all, drop_all}
use Rattle.std.proofs.lemmas.List.Elements.{All-nil, All-cons, All-head, All-tail, Contains-append_left, Contains-append_right, Contains-push, Contains-push_cases}
use Rattle.parcel_deques.specs.declared.parcel.Slip.{Slip}
use Rattle.parcel_deques.specs.Lists.{weigh, SameItems}
use Rattle.parcel_deques.specs.Parcels.{IsOwned, AllOwned, AllBelow}
use Rattle.parcel_deques.specs.Ends.{DequeId}
use Rattle.parcel_deques.specs.Benches.{BenchValue}
use Rattle.parcel_deques.specs.Making.{AreApart}
use Rattle.parcel_deques.specs.Gather.{all_taken, AreGathered}
use Rattle.parcel_deques.specs.Swapping.{count_of, HasSwapped, HaveSwapped, MaySwap, HaveSwappedAt, IsStage, AreSwapping}
use Rattle.parcel_deques.proofs.Weights.{weigh-append}

one_true : (b : Bool) → b ≡ true → cond {A = ℕ} b 1 0 ≡ 1
one_true b is = cond-true b 1 0 is

none_false : (b : Bool) → b ≡ false → cond {A = ℕ} b 1 0 ≡ 0
none_false b is = cond-false b 1 0 is

-- a number stands in a list where it weighs there
contains_weighs : (xs : List ℕ) (x : ℕ) → Contains xs x → 0 < weigh (λ (y : ℕ). cond (y == x) 1 0) xs
contains_weighs [] x (k, within, is) = absurd (omega arith)
contains_weighs (y ∷ ys) x (zero, within, is) = let one = one_true (y == x) (eq-eqb y x is) in omega arith
contains_weighs (y ∷ ys) x (suc k, within, is) = let rest = contains_weighs ys x (k, omega arith, is) in omega arith

weighs_contains : (xs : List ℕ) (x : ℕ) → 0 < weigh (λ (y : ℕ). cond (y == x) 1 0) xs → Contains xs x
weighs_contains [] x some = absurd (omega arith)
weighs_contains (y ∷ ys) x some = by (y == x) refl (λ h. weighs_contains ys x h)
  where
    by : (b : Bool) → (y == x) ≡ b → (0 < weigh (λ (z : ℕ). cond (z == x) 1 0) ys → Contains ys x) → Contains (y ∷ ys) x
    by true is rest = (0, omega arith, eqb-true y x is)
    by false is rest = let none = none_false (y == x) is in Contains-append_right (y ∷ []) ys x (rest (omega arith))

pub same_contains : (xs ys : List ℕ) (x : ℕ) → SameItems xs ys → Contains xs x → Contains ys x
same_contains xs ys x same there =
    let some = contains_weighs xs x there in
    let weight = same (λ (y : ℕ). cond (y == x) 1 0) in
    weighs_contains ys x (omega arith)

-- the owners of slips
count_past : (n x : ℕ) (xs : List Slip) → AllBelow n xs → n ≤ x → count_of x xs ≡ 0
count_past n x [] below past = refl
count_past n x (s ∷ ss) below past =
    let here : s.tag.owner < n = All-head (λ (y : Slip). y.tag.owner < n) s ss below in
    let rest = count_past n x ss (All-tail (λ (y : Slip). y.tag.owner < n) s ss below) past in
    let none = none_false (s.tag.owner == x) (ne_eqb s.tag.owner x (λ e. omega arith)) in
    omega arith

all_owned : (n : ℕ) (xs : List Slip) → ((x : ℕ) → x ≢ n → count_of x xs ≡ 0) → AllOwned n xs
all_owned n [] none = All-nil (IsOwned n)
all_owned n (s ∷ ss) none = All-cons (IsOwned n) s ss (here (cases_eq s.tag.owner n)) (all_owned n ss (λ x other. let count = none x other in omega arith))
  where
    here : (s.tag.owner ≡ n) ⊎ (s.tag.owner ≡ n → ⊥) → IsOwned n s
    here (inl is) = is
    here (inr other) = let one = one_true (s.tag.owner == s.tag.owner) (eq-eqb s.tag.owner s.tag.owner refl) in let count = none s.tag.owner other in absurd (omega arith)

-- one bench, one other more
pub stage_next : (call : List DequeId) (k c : ℕ) (old b now : BenchValue) → IsStage call k c old b → HasSwapped c b now → c ≢ k → IsStage call k (c + 1) old now
stage_next call k c old b now s swapped differ = record {
  number = swapped.number ∙ s.number;
  call_is = swapped.call ∙ s.call_is;
  pushed = swapped.pushed ∙ s.pushed;
  capacity = swapped.capacity ∙ s.capacity;
  own = at_home k (Contains-append_left b.home (c ∷ []) k s.own);
  home = λ x low. at_home x (elim (cases_eq x c) [
    | inl is ↦ subst (λ (n : ℕ). Contains (b.home ++ c ∷ []) n) (sym is) (Contains-push b.home c)
    | inr other ↦ Contains-append_left b.home (c ∷ []) x (s.home x (omega arith))
  ]);
  home_only = λ x high other there. elim (Contains-push_cases b.home c x (subst (λ (l : List ℕ). Contains l x) swapped.home there)) [
    | inl before ↦ s.home_only x (omega arith) other before
    | inr is ↦ absurd (omega arith)
  ];
  away_only = λ x high other there. elim (Contains-push_cases b.away c x (same_contains now.away (b.away ++ c ∷ []) x swapped.away there)) [
    | inl before ↦ s.away_only x (omega arith) other before
    | inr is ↦ absurd (omega arith)
  ];
  taken = λ x out other. taken x out other (cases_eq x c);
}
  where
    at_home : (x : ℕ) → Contains (b.home ++ c ∷ []) x → Contains now.home x
    at_home x h = subst (λ (l : List ℕ). Contains l x) (sym swapped.home) h

    taken : (x : ℕ) → (x < c + 1) ⊎ (length call ≤ x) → x ≢ k → (x ≡ c) ⊎ (x ≡ c → ⊥) → count_of x now.taken ≡ 0
    taken x out other (inl is) = subst (λ (n : ℕ). count_of n now.taken ≡ 0) (sym is) swapped.none
    taken x (inl low) other (inr not_c) = swapped.others x (λ e. other (e ∙ s.number)) not_c ∙ s.taken x (inl (omega arith)) other
    taken x (inr past) other (inr not_c) = swapped.others x (λ e. other (e ∙ s.number)) not_c ∙ s.taken x (inr past) other

-- it need not swap with itself
pub stage_skip : (call : List DequeId) (k : ℕ) (old b : BenchValue) → IsStage call k k old b → IsStage call k (k + 1) old b
stage_skip call k old b s = record {
  number = s.number;
  call_is = s.call_is;
  pushed = s.pushed;
  capacity = s.capacity;
  own = s.own;
  home = λ x low. elim (cases_eq x k) [
    | inl is ↦ subst (λ (n : ℕ). Contains b.home n) (sym is) s.own
    | inr other ↦ s.home x (omega arith)
  ];
  home_only = λ x high other. s.home_only x (omega arith) other;
  away_only = λ x high other. s.away_only x (omega arith) other;
  taken = λ x out other. taken x out other;
}
  where
    taken : (x : ℕ) → (x < k + 1) ⊎ (length call ≤ x) → x ≢ k → count_of x b.taken ≡ 0
    taken x (inl low) other = s.taken x (inl (omega arith)) other
    taken x (inr past) other = s.taken x (inr past) other

-- the slips of all benches, where one bench is put in place of another
all_weigh-set : (h : Slip → ℕ) (bs : List BenchValue) (k : ℕ) (b d : BenchValue) → k < length bs
    → weigh h (all_taken (set bs k b)) + weigh h (get_or bs k d).taken ≡ weigh h (all_taken bs) + weigh h b.taken
all_weigh-set h [] k b d within = absurd (omega arith)
all_weigh-set h (x ∷ xs) zero b d within =
    let new = weigh-append h b.taken (all_taken xs) in let old = weigh-append h x.taken (all_taken xs) in omega arith
all_weigh-set h (x ∷ xs) (suc k) b d within =
    let new = weigh-append h x.taken (all_taken (set xs k b)) in let old = weigh-append h x.taken (all_taken xs) in
    let rest = all_weigh-set h xs k b d (omega arith) in omega arith

-- the two halves of a list, with an element written in each
halves : (xs front back : List BenchValue) (i j n : ℕ) (one two : BenchValue) → xs ≡ front ++ back → length front ≡ j → i < j → n ≡ length xs
    → take n ((set front i one ++ set back 0 two) ++ drop (length (set front i one ++ set back 0 two)) xs) ≡ set (set xs i one) j two
halves xs front back i j n one two parts long before all =
    let whole = ap length parts in
    let sum = length-append front back in
    let new = length-append (set front i one) (set back 0 two) in
    let one_long = length-set front i one in
    let two_long = length-set back 0 two in
    let none : drop (length (set front i one ++ set back 0 two)) xs ≡ [] = drop_all (length (set front i one ++ set back 0 two)) xs (omega arith) in
    let at : j - j ≡ 0 = omega arith in
    ap (λ (l : List BenchValue). take n ((set front i one ++ set back 0 two) ++ l)) none
    ∙ ap (take n) (append-nil (set front i one ++ set back 0 two))
    ∙ take_all n (set front i one ++ set back 0 two) (omega arith)
    ∙ ap (λ (k : ℕ). set front i one ++ set back k two) (sym at)
    ∙ sym (set-append_right (set front i one) back j j two (one_long ∙ long) (omega arith))
    ∙ ap (λ (l : List BenchValue). set l j two) (sym (set-append_left front back i one (omega arith)))
    ∙ ap (λ (l : List BenchValue). set (set l i one) j two) (sym parts)

pub swapped_halves : (xs front back : List BenchValue) (i j n : ℕ) (e f one two : BenchValue) → xs ≡ front ++ back → length front ≡ j → i < j → j < length xs → n ≡ length xs
    → HaveSwapped (get_or front i e) (get_or back 0 f) one two
    → HaveSwappedAt i j xs (take n ((set front i one ++ set back 0 two) ++ drop (length (set front i one ++ set back 0 two)) xs))
swapped_halves xs front back i j n e f one two parts long before within all swapped = record {
  one = one;
  two = two;
  is = halves xs front back i j n one two parts long before all;
  swapped = λ d.
      let whole = ap length parts in
      let sum = length-append front back in
      let at : j - j ≡ 0 = omega arith in
      let first : get_or xs i d ≡ get_or front i e = ap (λ (l : List BenchValue). get_or l i d) parts ∙ get_or_append_left front back d i (omega arith) ∙ get_or_default front i d e (omega arith) in
      let second : get_or xs j d ≡ get_or back 0 f =
      ap (λ (l : List BenchValue). get_or l j d) parts ∙ get_or-append_right front back j j d long (omega arith) ∙ ap (λ (k : ℕ). get_or back k d) at ∙ get_or_default back 0 d f (omega arith) in
      subst (λ (a : BenchValue). HaveSwapped a (get_or xs j d) one two) (sym first) (subst (λ (b : BenchValue). HaveSwapped (get_or front i e) b one two) (sym second) swapped);
}

-- two benches may swap passes
pub may_swap : (i j : ℕ) (old now : List BenchValue) (d : BenchValue) → AreSwapping i j old now → i < j → j < length old → MaySwap (get_or now i d) (get_or now j d)
may_swap i j old now d p before within =
    let one = p.between i d d (omega arith) before in
    let two = p.this d d within in
    record {
      call = one.call_is ∙ sym two.call_is;
      apart = λ e. let m = one.number in let n = two.number in omega arith;
      one_home = subst (λ (n : ℕ). ¬ (Contains (get_or now i d).home n)) (sym two.number) (one.home_only j (omega arith) (λ e. omega arith));
      one_away = subst (λ (n : ℕ). ¬ (Contains (get_or now i d).away n)) (sym two.number) (one.away_only j (omega arith) (λ e. omega arith));
      two_home = subst (λ (n : ℕ). ¬ (Contains (get_or now j d).home n)) (sym one.number) (two.home_only i (omega arith) (λ e. omega arith));
      two_away = subst (λ (n : ℕ). ¬ (Contains (get_or now j d).away n)) (sym one.number) (two.away_only i (omega arith) (λ e. omega arith));
    }

-- one pair more
module _ (i j : ℕ) (old now new : List BenchValue) (p : AreSwapping i j old now) (m : HaveSwappedAt i j now new) (before : i < j) (within : j < length old) where
  at_one : (e : BenchValue) → get_or new i e ≡ m.one
  at_one e =
      let many = p.many in
      ap (λ (l : List BenchValue). get_or l i e) m.is
      ∙ get_or-set_other (set now i m.one) j i m.two e (λ same. omega arith)
      ∙ get_or-set_same now i m.one e (omega arith)

  at_two : (e : BenchValue) → get_or new j e ≡ m.two
  at_two e =
      let many = p.many in let long = length-set now i m.one in
      ap (λ (l : List BenchValue). get_or l j e) m.is ∙ get_or-set_same (set now i m.one) j m.two e (omega arith)

  at_other : (k : ℕ) (e : BenchValue) → k ≢ i → k ≢ j → get_or new k e ≡ get_or now k e
  at_other k e not_one not_two =
      ap (λ (l : List BenchValue). get_or l k e) m.is
      ∙ get_or-set_other (set now i m.one) j k m.two e not_two
      ∙ get_or-set_other now i k m.one e not_one

  stage_one : (d e : BenchValue) → IsStage p.call i (j + 1) (get_or old i d) (get_or new i e)
  stage_one d e =
      let swapped : HasSwapped j (get_or now i e) m.one = subst (λ (n : ℕ). HasSwapped n (get_or now i e) m.one) (p.this d e within).number (m.swapped e).first in
      subst (λ (b : BenchValue). IsStage p.call i (j + 1) (get_or old i d) b) (sym (at_one e))
      (stage_next p.call i j (get_or old i d) (get_or now i e) m.one (p.between i d e (omega arith) before) swapped (λ same. omega arith))

  stage_two : (d e : BenchValue) → IsStage p.call j (i + 1) (get_or old j d) (get_or new j e)
  stage_two d e =
      let swapped : HasSwapped i (get_or now j e) m.two = subst (λ (n : ℕ). HasSwapped n (get_or now j e) m.two) (p.between i d e (omega arith) before).number (m.swapped e).second in
      subst (λ (b : BenchValue). IsStage p.call j (i + 1) (get_or old j d) b) (sym (at_two e))
      (stage_next p.call j i (get_or old j d) (get_or now j e) m.two (p.this d e within) swapped (λ same. omega arith))

  stage_other : (k c : ℕ) (d e : BenchValue) → k ≢ i → k ≢ j → IsStage p.call k c (get_or old k d) (get_or now k e) → IsStage p.call k c (get_or old k d) (get_or new k e)
  stage_other k c d e not_one not_two s = subst (λ (b : BenchValue). IsStage p.call k c (get_or old k d) b) (sym (at_other k e not_one not_two)) s

  same_slips : (h : Slip → ℕ) → weigh h (all_taken new) ≡ weigh h (all_taken now)
  same_slips h =
      let d = m.one in
      let many = p.many in let long = length-set now i m.one in
      let is = ap (λ (l : List BenchValue). weigh h (all_taken l)) m.is in
      let first = all_weigh-set h now i m.one d (omega arith) in
      let second = all_weigh-set h (set now i m.one) j m.two d (omega arith) in
      let kept = ap (λ (b : BenchValue). weigh h b.taken) (get_or-set_other now i j m.one d (λ same. omega arith)) in
      let pair = (m.swapped d).slips h in
      omega arith

  pub swap_next : AreSwapping (i + 1) j old new
  swap_next = record {
    many = ap length m.is ∙ length-set (set now i m.one) j m.two ∙ length-set now i m.one ∙ p.many;
    call = p.call;
    long = p.long;
    begun = p.begun;
    below = λ k d e low also. elim (cases_eq k i) [
      | inl same ↦ subst (λ (n : ℕ). IsStage p.call n (j + 1) (get_or old n d) (get_or new n e)) (sym same) (stage_one d e)
      | inr other ↦ stage_other k (j + 1) d e other (λ same. omega arith) (p.below k d e (omega arith) also)
    ];
    between = λ k d e high low. stage_other k j d e (λ same. omega arith) (λ same. omega arith) (p.between k d e (omega arith) low);
    this = λ d e in_list. stage_two d e;
    above = λ k d e high in_list. stage_other k 0 d e (λ same. omega arith) (λ same. omega arith) (p.above k d e high in_list);
    slips = λ h. same_slips h ∙ p.slips h;
  }

-- the bench j has swapped passes with all below it
pub swap_more : (j : ℕ) (old now : List BenchValue) → AreSwapping j j old now → j < length old → AreSwapping 0 (j + 1) old now
swap_more j old now p within = record {
  many = p.many;
  call = p.call;
  long = p.long;
  begun = p.begun;
  below = λ k d e low also. absurd (omega arith);
  between = λ k d e high low. elim (cases_eq k j) [
    | inl same ↦ subst (λ (n : ℕ). IsStage p.call n (j + 1) (get_or old n d) (get_or now n e)) (sym same) (stage_skip p.call j (get_or old j d) (get_or now j e) (p.this d e within))
    | inr other ↦ p.below k d e (omega arith) (omega arith)
  ];
  this = λ d e in_list. p.above (j + 1) d e (omega arith) in_list;
  above = λ k d e high in_list. p.above k d e (omega arith) in_list;
  slips = p.slips;
}

-- no bench has swapped passes with another
pub swap_none : (bs : List BenchValue) → AreApart bs → ((k : ℕ) (d : BenchValue) → k < length bs → AllBelow (length (get_or bs k d).call) (get_or bs k d).taken) → AreSwapping 0 0 bs bs
swap_none bs a owners = record {
  many = refl;
  call = a.call;
  long = a.long;
  begun = λ k d in_list. ((a.each k d in_list).number, (a.each k d in_list).call_is);
  below = λ k d e low also. absurd (omega arith);
  between = λ k d e high low. absurd (omega arith);
  this = λ d e in_list. first 0 d e in_list;
  above = λ k d e high in_list. first k d e in_list;
  slips = λ h. refl;
}
  where
    first : (k : ℕ) (d e : BenchValue) → k < length bs → IsStage a.call k 0 (get_or bs k d) (get_or bs k e)
    first k d e in_list =
        let b = a.each k e in_list in
        let same : get_or bs k e ≡ get_or bs k d = get_or_default bs k e d in_list in
        record {
          number = b.number;
          call_is = b.call_is;
          pushed = ap (λ (x : BenchValue). x.pushed) same;
          capacity = ap (λ (x : BenchValue). x.capacity) same;
          own = subst (λ (l : List ℕ). Contains l k) (sym b.home) (Contains-push [] k);
          home = λ x low. absurd (omega arith);
          home_only = λ x high other there. elim (Contains-push_cases [] k x (subst (λ (l : List ℕ). Contains l x) b.home there)) [
            | inl nothing ↦ let within = nothing.1 in omega arith
            | inr is ↦ other (sym is)
          ];
          away_only = λ x high other there. let nothing = subst (λ (l : List ℕ). Contains l x) b.away there in let within = nothing.1 in omega arith;
          taken = λ x out other. elim out [
            | inl low ↦ absurd (omega arith)
            | inr past ↦ count_past (length a.call) x (get_or bs k e).taken (subst (λ (l : List DequeId). AllBelow (length l) (get_or bs k e).taken) b.call_is (owners k e in_list)) past
          ];
        }

-- all have swapped passes
pub swap_all : (old now : List BenchValue) → AreSwapping 0 (length old) old now → AreGathered old now
swap_all old now p = record {
  many = p.many;
  each = λ k d e in_list.
      let s = p.between k d e (omega arith) in_list in
      record {
        number = s.number ∙ sym (p.begun k d in_list).0;
        call = s.call_is ∙ sym (p.begun k d in_list).1;
        pushed = s.pushed;
        capacity = s.capacity;
        home = λ x low. let long = p.long in let same = ap length s.call_is in s.home x (omega arith);
        taken = subst (λ (n : ℕ). AllOwned n (get_or now k e).taken) (sym s.number) (all_owned k (get_or now k e).taken (λ x other. none k d e in_list x other (cases_lt x (length old))));
      };
  slips = p.slips;
}
  where
    none : (k : ℕ) (d e : BenchValue) → k < length old → (x : ℕ) → x ≢ k → (x < length old) ⊎ (length old ≤ x) → count_of x (get_or now k e).taken ≡ 0
    none k d e in_list x other (inl low) = (p.between k d e (omega arith) in_list).taken x (inl low) other
    none k d e in_list x other (inr past) = let long = p.long in (p.between k d e (omega arith) in_list).taken x (inr (omega arith)) other
