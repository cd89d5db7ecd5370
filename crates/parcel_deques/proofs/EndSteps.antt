-- Ends that are tried one after another.
use Rattle.std.proofs.Common.{◌≡◌, ◌≢◌, ◌∙◌, ◌⊎◌, ⊎_elim, inl, inr, refl, sym, ap, subst, ℕ, zero, suc, ◌+◌, ◌<◌, ◌≤◌, List, [], ◌∷◌, length, set, length-set, Option, Some, None, arith}
use Rattle.std.specs.List.{slice_get}
use Rattle.std.specs.Option.{IfNone}
use Rattle.std.proofs.lemmas.Option.{none-some, same_Some, slice_get_within, slice_get-get_or}
use Rattle.std.proofs.lemmas.Bool.{cases_lt}
use Rattle.std.proofs.lemmas.Bool.Decides.{eqb_tells}
use lib.ListN.{get_or}
use Rattle.parcel_deques.specs.declared.parcel.Slip.{Slip}
use Rattle.parcel_deques.specs.Ends.{EndValue, Tried, Took, Each, IsBetween, IsTriedAround, SameEnd, StoleBetween, StoleAround}

module _ {T : Type 0} where
  pub get_set_same : (xs : List T) (k : ℕ) (x y : T) → slice_get xs k ≡ Some x → slice_get (set xs k y) k ≡ Some y
  get_set_same [] k x y at = absurd (none-some x at)
  get_set_same (z ∷ zs) zero x y at = refl
  get_set_same (z ∷ zs) (suc k) x y at = get_set_same zs k x y at

  pub get_set_other : (xs : List T) (k j : ℕ) (y : T) → j ≢ k → slice_get (set xs k y) j ≡ slice_get xs j
  get_set_other [] k j y other = refl
  get_set_other (z ∷ zs) zero zero y other = absurd (other refl)
  get_set_other (z ∷ zs) zero (suc j) y other = refl
  get_set_other (z ∷ zs) (suc k) zero y other = refl
  get_set_other (z ∷ zs) (suc k) (suc j) y other = get_set_other zs k j y (λ e. other (ap suc e))

  -- a list that is as long has an element there too
  pub there_too : (xs ys : List T) (k : ℕ) (x : T) → length ys ≡ length xs → slice_get xs k ≡ Some x → slice_get ys k ≡ Some (get_or ys k x)
  there_too xs ys k x many at = slice_get-get_or ys k x (let b = slice_get_within xs k x at in omega arith)

  pub one_item : (xs : List T) (k : ℕ) (x y : T) → slice_get xs k ≡ Some x → slice_get xs k ≡ Some y → y ≡ x
  one_item xs k x y p q = same_Some y x (sym q ∙ p)

-- what a None says
pub of_none : {X A : Type 0} (r : Option X) → ((x : X) → r ≡ Some x → ⊥) → IfNone r A → A
of_none None not a = a
of_none (Some x) not a = absurd (not x refl)

pub none_then : {X A B : Type 0} (r : Option X) → IfNone r A → (A → B) → IfNone r B
none_then None a f = f a
none_then (Some x) a f = tt

pub none_tried : (from : ℕ) (es : List EndValue) → Each (IsBetween from from) es es
none_tried from es = record { many = refl; each = λ k d e p q. ((λ low high. absurd (omega arith)), λ _. one_item es k d e p q) }

-- one more end was tried; from here on nothing is changed yet
module _ (from place : ℕ) (old mid : List EndValue) (d e : EndValue) (so_far : Each (IsBetween from place) old mid) (at : slice_get mid place ≡ Some d) (low : from ≤ place) where
  first : (f : EndValue) → slice_get old place ≡ Some f → d ≡ f
  first f was = (so_far.each place f d was at).1 (inr (omega arith))

  long : length (set mid place e) ≡ length old
  long = length-set mid place e ∙ so_far.many

  pub one_more : Tried d e → Each (IsBetween from (place + 1)) old (set mid place e)
  one_more tried = record { many = long; each = each }
    where
      each : (k : ℕ) (f g : EndValue) → slice_get old k ≡ Some f → slice_get (set mid place e) k ≡ Some g → IsBetween from (place + 1) k f g
      each k f g was now = ⊎_elim
          (λ (x : _ × (k ≡ place)). here x.1)
          (λ (x : _ × (k ≢ place)). let before = so_far.each k f g was (sym (get_set_other mid place k e x.1) ∙ now) in
          ((λ l h. before.0 l (let n : k ≢ place = x.1 in omega arith)), λ out. before.1 (⊎_elim (λ (b : k < from). inl b) (λ (b : place + 1 ≤ k). inr (omega arith)) out)))
          (eqb_tells k place)
        where
          here : k ≡ place → IsBetween from (place + 1) k f g
          here is = (
            (λ l h. subst (λ (t : EndValue × EndValue). Tried t.0 t.1) (λ i. (first f (subst (λ (n : ℕ). slice_get old n ≡ Some f) is was) i, one_item (set mid place e) place g e (subst (λ (n : ℕ). slice_get (set mid place e) n ≡ Some g) is now) (get_set_same mid place d e at) i)) tried),
            λ out. absurd (⊎_elim (λ (b : k < from). let c : ⊥ = omega arith in c) (λ (b : place + 1 ≤ k). let c : ⊥ = omega arith in c) out),
          )

  pub stole_here : (to : ℕ) (x : Slip) → place < to → Took d e x → StoleBetween from to old (set mid place e) x
  stole_here to x high took = (
    record {
      place = place;
      end = d;
      next = e;
      was = at_old;
      now = get_set_same mid place d e at;
      took = took;
      others = record { many = long; each = each };
    },
    low,
    high,
  )
    where
      at_old : slice_get old place ≡ Some d
      at_old = let there = there_too mid old place d (sym so_far.many) at in there ∙ ap (λ (f : EndValue). Some f) (sym (first (get_or old place d) there))

      each : (k : ℕ) (f g : EndValue) → slice_get old k ≡ Some f → slice_get (set mid place e) k ≡ Some g → k ≢ place → SameEnd f g
      each k f g was now other = by (so_far.each k f g was (sym (get_set_other mid place k e other) ∙ now)) (cases_lt k place) (cases_lt k from)
        where
          by : IsBetween from place k f g → (k < place) ⊎ (place ≤ k) → (k < from) ⊎ (from ≤ k) → SameEnd f g
          by between (inl before) (inl out) = let is = between.1 (inl out) in record { deque = ap (λ (t : EndValue). t.deque) is; pass = ap (λ (t : EndValue). t.pass) is }
          by between (inl before) (inr l) = let tried = between.0 l before in record { deque = tried.deque; pass = tried.pass }
          by between (inr after) out = let is = between.1 (inr after) in record { deque = ap (λ (t : EndValue). t.deque) is; pass = ap (λ (t : EndValue). t.pass) is }

-- the own end is left out
module _ (n : ℕ) (old mid new : List EndValue) (within : n < length old) (after : Each (IsBetween (n + 1) (length old)) old mid) where
  pub tried_around : Each (IsBetween 0 n) mid new → Each (IsTriedAround n) old new
  tried_around before = record { many = before.many ∙ after.many; each = each }
    where
      each : (k : ℕ) (d e : EndValue) → slice_get old k ≡ Some d → slice_get new k ≡ Some e → IsTriedAround n k d e
      each k d e was now = let there = there_too old mid k d after.many was in let one = after.each k d (get_or mid k d) was there in let two = before.each k (get_or mid k d) e there now in
          let b = slice_get_within old k d was in
          ((λ other. by other one two (cases_lt k n)), λ is. two.1 (inr (omega arith)) ∙ one.1 (inl (omega arith)))
        where
          by : k ≢ n → IsBetween (n + 1) (length old) k d (get_or mid k d) → IsBetween 0 n k (get_or mid k d) e → (k < n) ⊎ (n ≤ k) → Tried d e
          by other one two (inl low) = subst (λ (m : EndValue). Tried m e) (one.1 (inl (omega arith))) (two.0 (omega arith) low)
          by other one two (inr high) = let b = slice_get_within old k d was in subst (λ (f : EndValue). Tried d f) (sym (two.1 (inr high))) (one.0 (let o : k ≢ n = other in omega arith) b)

  pub stole_second : (x : Slip) → StoleBetween 0 n mid new x → StoleAround n old new x
  stole_second x (s, low, high) = (
    record {
      place = s.place;
      end = s.end;
      next = s.next;
      was = at_old;
      now = s.now;
      took = s.took;
      others = record { many = s.others.many ∙ after.many; each = each };
    },
    λ is. let h : s.place < n = high in absurd (omega arith),
  )
    where
      at_old : slice_get old s.place ≡ Some s.end
      at_old = let there = there_too mid old s.place s.end (sym after.many) s.was in
          there ∙ ap (λ (f : EndValue). Some f) (sym ((after.each s.place (get_or old s.place s.end) s.end there s.was).1 (inl (let h : s.place < n = high in omega arith))))

      each : (k : ℕ) (f g : EndValue) → slice_get old k ≡ Some f → slice_get new k ≡ Some g → k ≢ s.place → SameEnd f g
      each k f g was now other = let there = there_too old mid k f after.many was in let rest = s.others.each k (get_or mid k f) g there now other in
          by (after.each k f (get_or mid k f) was there) rest (cases_lt k (n + 1))
        where
          by : IsBetween (n + 1) (length old) k f (get_or mid k f) → SameEnd (get_or mid k f) g → (k < n + 1) ⊎ (n + 1 ≤ k) → SameEnd f g
          by one rest (inl low) = let is = one.1 (inl low) in record { deque = rest.deque ∙ ap (λ (t : EndValue). t.deque) is; pass = rest.pass ∙ ap (λ (t : EndValue). t.pass) is }
          by one rest (inr high) = let tried = one.0 high (slice_get_within old k f was) in record { deque = rest.deque ∙ tried.deque; pass = rest.pass ∙ tried.pass }

pub stole_first : (n : ℕ) (old new : List EndValue) (x : Slip) → StoleBetween (n + 1) (length old) old new x → StoleAround n old new x
stole_first n old new x (s, low, high) = (s, λ is. let l : n + 1 ≤ s.place = low in absurd (omega arith))
