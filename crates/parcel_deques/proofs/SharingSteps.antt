-- Shares of new deques, and the benches that are made of them.
use Rattle.std.proofs.Common.{◌≡◌, ◌≢◌, refl, sym, ap, ap₂, subst, ◌∙◌, ℕ, suc, ◌+◌, ◌-◌, ◌<◌, ◌≤◌, ◌==◌, ◌⊎◌, inl, inr, Bool, true, false, cond, List, [], ◌∷◌, ◌++◌, map, length, get_or, set, drop, slice_get, Some, None, Contains, arith}
use Rattle.std.proofs.lemmas.Bool.{cases_eq, cases_lt, eqb-false}
use Rattle.std.proofs.lemmas.List.{length-map, length_push, get_or-map, length-set, get_or-set_same, get_or-set_other, get_or_push, get_or_append_left, drop_more}
use Rattle.std.proofs.lemmas.List.Elements.{All-nil, Contains-push}
use Rattle.std.proofs.lemmas.Option.{none-some, same_Some, slice_get_within, get_or_from_slice_get}
use Rattle.parcel_deques.specs.declared.parcel.Slip.{Slip}
use Rattle.parcel_deques.specs.declared.rule.Hand.{Hand}
use Rattle.parcel_deques.specs.Parcels.{IsOwned, AllOwned}
use Rattle.parcel_deques.specs.Rule.{all_shares, hand, share_kept, share_given}
use Rattle.parcel_deques.specs.Ends.{DequeId, EndValue}
use Rattle.parcel_deques.specs.Owners.{OwnValue}
use Rattle.parcel_deques.specs.Benches.{BenchValue, IsEnd, IsBench, bench_of, gone, away_from, pass_taken, passes_taken}
use Rattle.parcel_deques.specs.Making.{IsNewBench, AreNew}
use Rattle.parcel_deques.specs.Sharing.{deques, IsSharing, AreSharing, HasGiven, AreGiving, AreEnds, AreParts, AreMade}

-- an element of a list
some_of : {X : Type 0} (xs : List X) → 0 < length xs → X
some_of [] h = absurd (omega arith)
some_of (x ∷ xs) h = x

-- two lists give one list, place by place
map_same : {X Y Z : Type 0} (f : X → Z) (g : Y → Z) (xs : List X) (ys : List Y) → length xs ≡ length ys → ((k : ℕ) (d : X) (e : Y) → k < length ys → f (get_or xs k d) ≡ g (get_or ys k e)) → map f xs ≡ map g ys
map_same f g [] [] long each = refl
map_same f g [] (y ∷ ys) long each = absurd (omega arith)
map_same f g (x ∷ xs) [] long each = absurd (omega arith)
map_same f g (x ∷ xs) (y ∷ ys) long each =
    ap₂ (λ z zs. z ∷ zs) (each 0 x y (omega arith)) (map_same f g xs ys (omega arith) (λ k d e h. each (suc k) d e (omega arith)))

-- an owner has a share to give
pub sharing_live : (capacity taker k : ℕ) (o : OwnValue) → IsSharing capacity taker k o → k ≢ taker → k < 16 → taker < 16 → 1 < o.hand.share
sharing_live capacity taker k o s differ here there = elim (cases_lt k taker) [
  | inl low ↦ let sum = s.before low in omega arith
  | inr high ↦ let sum = s.after high in omega arith
]

-- it gave a share, or none to its own bench
pub sharing_next : (capacity taker k : ℕ) (old now : OwnValue) (e : EndValue) → IsSharing capacity taker k old → HasGiven taker k old now e → taker < 16 → IsSharing capacity (taker + 1) k now
sharing_next capacity taker k old now e s g few = by (cases_eq k taker)
  where
    by : (k ≡ taker) ⊎ (k ≡ taker → ⊥) → IsSharing capacity (taker + 1) k now
    by (inl same) =
        let kept = (g.here same).0 in
        let share : now.hand.share ≡ old.hand.share = ap (λ (v : Hand). v.share) kept in
        record {
          capacity_is = g.capacity ∙ s.capacity_is;
          hand_is = kept ∙ s.hand_is ∙ ap (λ (n : ℕ). hand k n true [] [] (k ∷ [])) (sym share);
          before = λ low. let sum = s.after (omega arith) in omega arith;
          after = λ high. absurd (omega arith);
        }
    by (inr differ) =
        let cut = (g.away differ).0 in
        let share : now.hand.share ≡ old.hand.share - 1 = ap (λ (v : Hand). v.share) cut in
        let parts : share_kept old.hand.deque old.hand ≡ hand k (old.hand.share - 1) true [] [] (k ∷ []) =
        ap (λ (v : Hand). share_kept v.deque (hand v.deque old.hand.share true v.pushed v.taken v.home)) s.hand_is in
        record {
          capacity_is = g.capacity ∙ s.capacity_is;
          hand_is = cut ∙ parts ∙ ap (λ (n : ℕ). hand k n true [] [] (k ∷ [])) (sym share);
          before = λ low. let sum = s.before (omega arith) in omega arith;
          after = λ high. let sum = s.after (omega arith) in omega arith;
        }

pub sharing_more : (growers capacity taker : ℕ) (old now : List OwnValue) (ends : List EndValue) → AreSharing growers capacity taker old → AreGiving taker (length old) old now ends → taker < 16 → AreSharing growers capacity (taker + 1) now
sharing_more growers capacity taker old now ends s g few = record {
  many = g.many ∙ s.many;
  each = λ k d in_list.
      let many = s.many in let given = g.given in
      let e = some_of ends (omega arith) in
      sharing_next capacity taker k (get_or old k d) (get_or now k d) (get_or ends k e) (s.each k d in_list) (g.done k d d e (omega arith)) few;
}

-- the deques stay
pub deques_kept : (taker : ℕ) (old now : List OwnValue) (ends : List EndValue) → AreGiving taker (length old) old now ends → deques now ≡ deques old
deques_kept taker old now ends g =
    let given = g.given in
    map_same (λ (o : OwnValue). o.deque) (λ (o : OwnValue). o.deque) now old g.many
    (λ k d e in_list. (g.done k e d (some_of ends (omega arith)) in_list).deque)

-- what a bench was given
pub ends_given : (growers capacity taker : ℕ) (old now : List OwnValue) (ends : List EndValue) → AreSharing growers capacity taker old → AreGiving taker (length old) old now ends → taker < growers → AreEnds (deques now) taker ends
ends_given growers capacity taker old now ends s g within =
    let many = s.many in
    let o = some_of old (omega arith) in
    record {
      call_is =
          map_same (λ (e : EndValue). e.deque) (λ (x : OwnValue). x.deque) ends old g.given (λ k d e in_list. (g.done k e e d in_list).end)
          ∙ sym (deques_kept taker old now ends g);
      here = λ f. ((g.done taker o o f (omega arith)).here refl).1;
      away = λ k f in_list differ.
          let long = ap length (deques_kept taker old now ends g) in
          let long_old = length-map old (λ (x : OwnValue). x.deque) in
          let number : (get_or old k o).hand.deque ≡ k = ap (λ (v : Hand). v.deque) (s.each k o (omega arith)).hand_is in
          ((g.done k o o f (omega arith)).away differ).1 ∙ ap (λ (n : ℕ). Some (share_given n taker)) number;
    }

-- an owner and its ends
module _ (growers capacity k : ℕ) (owns : List OwnValue) (o : OwnValue) (ends : List EndValue) (s : IsSharing capacity growers k o) (a : AreEnds (deques owns) k ends) (many : length owns ≡ growers) (within : k < growers) where
  number_is : o.hand.deque ≡ k
  number_is = ap (λ (v : Hand). v.deque) s.hand_is

  home_is : o.hand.home ≡ k ∷ []
  home_is = ap (λ (v : Hand). v.home) s.hand_is

  taken_is : o.hand.taken ≡ []
  taken_is = ap (λ (v : Hand). v.taken) s.hand_is

  ends_many : length ends ≡ growers
  ends_many = sym (length-map ends (λ (e : EndValue). e.deque)) ∙ ap length a.call_is ∙ length-map owns (λ (x : OwnValue). x.deque) ∙ many

  end_pass : (i : ℕ) (f : EndValue) → i < growers → i ≢ k → (get_or ends i f).pass ≡ Some (share_given i k)
  end_pass i f in_list differ = let long = length-map owns (λ (x : OwnValue). x.deque) in a.away i f (omega arith) differ

  is_end : (i : ℕ) (e : EndValue) → slice_get ends i ≡ Some e → IsEnd o.hand.deque i e
  is_end i e at =
      let read : get_or ends i e ≡ e = get_or_from_slice_get ends i e e at in
      let in_list = slice_get_within ends i e at in
      record {
        own = λ same. subst (λ (x : EndValue). x.pass ≡ None) read (subst (λ (n : ℕ). (get_or ends n e).pass ≡ None) (sym (same ∙ number_is)) (a.here e));
        view = λ v is. by v is (cases_eq i k) read (omega (arith, ends_many));
      }
    where
      by : (v : Hand) → e.pass ≡ Some v → (i ≡ k) ⊎ (i ≡ k → ⊥) → get_or ends i e ≡ e → i < growers → (v.deque ≡ i) × (v.share ≡ 1) × (v.home ≡ o.hand.deque ∷ []) × AllOwned i v.taken
      by v is (inl same) read in_list =
          absurd (none-some v (sym (subst (λ (n : ℕ). (get_or ends n e).pass ≡ None) (sym same) (a.here e)) ∙ ap (λ (x : EndValue). x.pass) read ∙ is))
      by v is (inr differ) read in_list =
          let cut : share_given i k ≡ v = same_Some (share_given i k) v (sym (end_pass i e in_list differ) ∙ ap (λ (x : EndValue). x.pass) read ∙ is) in
          let taken : [] ≡ v.taken = ap (λ (x : Hand). x.taken) cut in (
            sym (ap (λ (x : Hand). x.deque) cut),
            sym (ap (λ (x : Hand). x.share) cut),
            sym (ap (λ (x : Hand). x.home) cut) ∙ ap (λ (n : ℕ). n ∷ []) (sym number_is),
            subst (λ (l : List Slip). AllOwned i l) taken (All-nil (IsOwned i)),
          )

  own_deque : (d : OwnValue) → o ≡ get_or owns k d → (e : EndValue) → slice_get ends o.hand.deque ≡ Some e → e.deque ≡ o.deque
  own_deque d is e at =
      let here : slice_get ends k ≡ Some e = subst (λ (n : ℕ). slice_get ends n ≡ Some e) number_is at in
      let read : get_or ends k e ≡ e = get_or_from_slice_get ends k e e here in
      let in_ends = slice_get_within ends k e here in
      ap (λ (x : EndValue). x.deque) (sym read)
      ∙ sym (get_or-map (λ (x : EndValue). x.deque) ends k e e.deque in_ends)
      ∙ ap (λ (l : List DequeId). get_or l k e.deque) a.call_is
      ∙ get_or-map (λ (x : OwnValue). x.deque) owns k d e.deque (omega arith)
      ∙ ap (λ (x : OwnValue). x.deque) (sym is)

  pub is_bench : (d : OwnValue) → o ≡ get_or owns k d → growers ≤ 16 → IsBench o ends
  is_bench d is few =
      let number = number_is in let long = ends_many in let one = ap length home_is in
      record {
        few = omega arith;
        within = omega arith;
        pushes = ap (λ (v : Hand). v.pushes) s.hand_is;
        share = let sum = s.before within in omega arith;
        home = subst (λ (l : List ℕ). Contains l o.hand.deque) (sym home_is) (subst (λ (n : ℕ). Contains (k ∷ []) n) (sym number_is) (Contains-push [] k));
        owned = subst (λ (l : List Slip). AllOwned o.hand.deque l) (sym taken_is) (All-nil (IsOwned o.hand.deque));
        deque = own_deque d is;
        each = is_end;
      }

  passes_none : (es : List EndValue) → ((i : ℕ) (f : EndValue) → i < length es → pass_taken (get_or es i f).pass ≡ []) → passes_taken es ≡ []
  passes_none [] each = refl
  passes_none (e ∷ es) each = ap₂ (λ (l m : List Slip). l ++ m) (each 0 e (omega arith)) (passes_none es (λ i f h. each (suc i) f (omega arith)))

  pass_none : (i : ℕ) (f : EndValue) → i < growers → (i ≡ k) ⊎ (i ≡ k → ⊥) → pass_taken (get_or ends i f).pass ≡ []
  pass_none i f in_list (inl same) = ap pass_taken (subst (λ (n : ℕ). (get_or ends n f).pass ≡ None) (sym same) (a.here f))
  pass_none i f in_list (inr differ) = ap pass_taken (end_pass i f in_list differ)

  away_none : (n j : ℕ) (es : List EndValue) → ((i : ℕ) (f : EndValue) → i < length es → j + i ≢ n → (v : Hand) × ((get_or es i f).pass ≡ Some v)) → away_from n j es ≡ []
  away_none n j [] each = refl
  away_none n j (e ∷ es) each =
      ap₂ (λ (l m : List ℕ). l ++ m) (by (j == n) refl) (away_none n (suc j) es (λ i f h differ. each (suc i) f (omega arith) (λ same. differ (omega arith))))
    where
      by : (b : Bool) → (j == n) ≡ b → cond b [] (gone j e.pass) ≡ []
      by true is = refl
      by false is = ap (gone j) (each 0 e (omega arith) (λ same. eqb-false j n is (omega arith))).1

  pub is_new : IsNewBench (deques owns) capacity k (bench_of o ends)
  is_new = record {
    apart = record {
      number = number_is;
      call_is = a.call_is;
      home = home_is;
      away = away_none o.hand.deque 0 ends (λ i f in_ends differ. let long = ends_many in let number = number_is in (share_given i k, end_pass i f (omega arith) (λ same. differ (omega arith))));
    };
    pushed = ap (λ (v : Hand). v.pushed) s.hand_is;
    taken = ap₂ (λ (l m : List Slip). l ++ m) taken_is (passes_none ends (λ i f in_ends. pass_none i f (omega (arith, ends_many)) (cases_eq i k)));
    room = let is = s.capacity_is in omega arith;
  }

-- all owners and their ends
pub are_parts : (growers capacity : ℕ) (owns : List OwnValue) (lists : List (List EndValue)) → AreSharing growers capacity growers owns → growers ≤ 16 → length lists ≡ growers
    → ((k : ℕ) (f : List EndValue) → k < growers → AreEnds (deques owns) k (get_or lists k f)) → AreParts owns lists
are_parts growers capacity owns lists s few many ends = record {
  many = many ∙ sym s.many;
  each = λ k d f in_list.
      let owns_many = s.many in
      let within : k < growers = omega arith in
      is_bench growers capacity k owns (get_or owns k d) (get_or lists k f) (s.each k d within) (ends k f within) s.many within d refl few;
}

pub are_new : (growers capacity : ℕ) (owns : List OwnValue) (lists : List (List EndValue)) (bs : List BenchValue) → AreSharing growers capacity growers owns → ((k : ℕ) (f : List EndValue) → k < growers → AreEnds (deques owns) k (get_or lists k f))
    → AreMade owns lists (length owns) bs → AreNew growers capacity bs
are_new growers capacity owns lists bs s ends m = record {
  many = m.many ∙ s.many;
  call = deques owns;
  long = length-map owns (λ (x : OwnValue). x.deque) ∙ s.many;
  each = λ k b within.
      let many = s.many in
      let d = some_of owns (omega arith) in
      subst (λ (x : BenchValue). IsNewBench (deques owns) capacity k x) (sym (m.each k d [] b (omega arith)))
      (is_new growers capacity k owns (get_or owns k d) (get_or lists k []) (s.each k d within) (ends k [] within) s.many within);
}

-- one deque more
pub open_more : (n capacity : ℕ) (owns : List OwnValue) (o : OwnValue) → AreSharing n capacity 0 owns → o.capacity ≡ capacity → o.hand ≡ hand n all_shares true [] [] (n ∷ []) → AreSharing (n + 1) capacity 0 (owns ++ o ∷ [])
open_more n capacity owns o s room is = record {
  many = let many = s.many in let long = length_push owns o in omega arith;
  each = λ k d within. by k d within (cases_eq k n);
}
  where
    first : IsSharing capacity 0 n o
    first =
        let share : o.hand.share ≡ all_shares = ap (λ (v : Hand). v.share) is in
        record {
          capacity_is = room;
          hand_is = is ∙ ap (λ (m : ℕ). hand n m true [] [] (n ∷ [])) (sym share);
          before = λ low. absurd (omega arith);
          after = λ high. omega arith;
        }

    by : (k : ℕ) (d : OwnValue) → k < n + 1 → (k ≡ n) ⊎ (k ≡ n → ⊥) → IsSharing capacity 0 k (get_or (owns ++ o ∷ []) k d)
    by k d within (inl same) =
        subst (λ (m : ℕ). IsSharing capacity 0 m (get_or (owns ++ o ∷ []) m d)) (sym same)
        (subst (λ (x : OwnValue). IsSharing capacity 0 n x) (sym (get_or_push owns o d n s.many)) first)
    by k d within (inr differ) =
        let many = s.many in
        subst (λ (x : OwnValue). IsSharing capacity 0 k x) (sym (get_or_append_left owns (o ∷ []) d k (omega arith))) (s.each k d (omega arith))

-- the first of what is left of a list
pub first_left : {X : Type 0} (xs : List X) (i : ℕ) (x d : X) → i < length xs → x ≡ get_or (drop i xs) 0 x → x ≡ get_or xs i d
first_left xs i x d within is = is ∙ ap (λ l. get_or l 0 x) (drop_more xs i d within)

-- one bench more
pub made_more : (owns : List OwnValue) (lists : List (List EndValue)) (i : ℕ) (bs : List BenchValue) (o : OwnValue) (ends : List EndValue) (b : BenchValue) → AreMade owns lists i bs
    → ((d : OwnValue) → o ≡ get_or owns i d) → ((f : List EndValue) → ends ≡ get_or lists i f) → b ≡ bench_of o ends → AreMade owns lists (i + 1) (bs ++ b ∷ [])
made_more owns lists i bs o ends b m own_is ends_are is = record {
  many = let many = m.many in let long = length_push bs b in omega arith;
  each = λ k d f e within. by k d f e within (cases_eq k i);
}
  where
    by : (k : ℕ) (d : OwnValue) (f : List EndValue) (e : BenchValue) → k < i + 1 → (k ≡ i) ⊎ (k ≡ i → ⊥) → get_or (bs ++ b ∷ []) k e ≡ bench_of (get_or owns k d) (get_or lists k f)
    by k d f e within (inl same) =
        subst (λ (n : ℕ). get_or (bs ++ b ∷ []) n e ≡ bench_of (get_or owns n d) (get_or lists n f)) (sym same)
        (get_or_push bs b e i m.many ∙ is ∙ ap₂ bench_of (own_is d) (ends_are f))
    by k d f e within (inr differ) =
        let many = m.many in
        get_or_append_left bs (b ∷ []) e k (omega arith) ∙ m.each k d f e (omega arith)

-- one end more
pub giving_more : (taker i : ℕ) (old now : List OwnValue) (ends : List EndValue) (o : OwnValue) (e : EndValue) → AreGiving taker i old now ends → i < length old → ((d : OwnValue) → HasGiven taker i (get_or old i d) o e)
    → AreGiving taker (i + 1) old (set now i o) (ends ++ e ∷ [])
giving_more taker i old now ends o e g within given = record {
  many = length-set now i o ∙ g.many;
  given = let many = g.given in let long = length_push ends e in omega arith;
  done = λ k d x f low. by k d x f low (cases_eq k i);
  rest = λ k d high. get_or-set_other now i k o d (λ same. omega arith) ∙ g.rest k d (omega arith);
}
  where
    by : (k : ℕ) (d x : OwnValue) (f : EndValue) → k < i + 1 → (k ≡ i) ⊎ (k ≡ i → ⊥) → HasGiven taker k (get_or old k d) (get_or (set now i o) k x) (get_or (ends ++ e ∷ []) k f)
    by k d x f low (inl same) =
        let many = g.many in
        subst (λ (n : ℕ). HasGiven taker n (get_or old n d) (get_or (set now i o) n x) (get_or (ends ++ e ∷ []) n f)) (sym same)
        (subst (λ (y : OwnValue). HasGiven taker i (get_or old i d) y (get_or (ends ++ e ∷ []) i f)) (sym (get_or-set_same now i o x (omega arith)))
        (subst (λ (y : EndValue). HasGiven taker i (get_or old i d) o y) (sym (get_or_push ends e f i g.given)) (given d)))
    by k d x f low (inr differ) =
        let many = g.given in
        subst (λ (y : OwnValue). HasGiven taker k (get_or old k d) y (get_or (ends ++ e ∷ []) k f)) (sym (get_or-set_other now i k o x differ))
        (subst (λ (y : EndValue). HasGiven taker k (get_or old k d) (get_or now k x) y) (sym (get_or_append_left ends (e ∷ []) f k (omega arith))) (g.done k d x f (omega arith)))

-- nothing was given yet
pub giving_none : (taker : ℕ) (owns : List OwnValue) → AreGiving taker 0 owns owns []
giving_none taker owns = record {
  many = refl;
  given = refl;
  done = λ k d e f low. absurd (omega arith);
  rest = λ k d high. refl;
}

-- the ends of one bench more
pub lists_more : (growers capacity taker : ℕ) (old now : List OwnValue) (lists : List (List EndValue)) (ends : List EndValue) → AreSharing growers capacity taker old → AreGiving taker (length old) old now ends → taker < growers → length lists ≡ taker
    → ((k : ℕ) (f : List EndValue) → k < taker → AreEnds (deques old) k (get_or lists k f)) → (k : ℕ) (f : List EndValue) → k < taker + 1 → AreEnds (deques now) k (get_or (lists ++ ends ∷ []) k f)
lists_more growers capacity taker old now lists ends s g within many before k f low = by (cases_eq k taker)
  where
    by : (k ≡ taker) ⊎ (k ≡ taker → ⊥) → AreEnds (deques now) k (get_or (lists ++ ends ∷ []) k f)
    by (inl same) =
        subst (λ (n : ℕ). AreEnds (deques now) n (get_or (lists ++ ends ∷ []) n f)) (sym same)
        (subst (λ (x : List EndValue). AreEnds (deques now) taker x) (sym (get_or_push lists ends f taker many)) (ends_given growers capacity taker old now ends s g within))
    by (inr differ) =
        subst (λ (x : List EndValue). AreEnds (deques now) k x) (sym (get_or_append_left lists (ends ∷ []) f k (omega arith)))
        (subst (λ (l : List DequeId). AreEnds l k (get_or lists k f)) (sym (deques_kept taker old now ends g)) (before k f (omega arith)))
