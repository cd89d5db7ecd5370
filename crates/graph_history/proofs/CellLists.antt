-- Lists of cells in which none stands twice.
use Rattle.std.proofs.Common.{◌≡◌, refl, sym, ap, subst, ◌∙◌, ℕ, suc, ◌+◌, Bool, true, false, not, nat_eq, if◌then◌else◌, List, [], ◌∷◌, ◌++◌, length, Contains, filter, true≢false, eqb-true, arith}
use Rattle.std.specs.List.{list_any, IsDistinct, AllByRecursion}
use Rattle.std.specs.Set.{is_member}
use Rattle.std.proofs.lemmas.Cmp.{nat_eq_equiv}
use Rattle.std.proofs.lemmas.Grind.{common_steps}
use Rattle.std.proofs.lemmas.Map.Keys.{IsDistinct-push, IsDistinct-head, IsDistinct-tail, IsDistinct-cons}
use Rattle.std.proofs.lemmas.Map.Made.{is_member-filter}
use Rattle.std.proofs.lemmas.Map.Views.{list_any-from_Contains, Contains-from_any}
use Rattle.list_facts.proofs.Lists.{in_first, in_rest}

-- membership by a test and by a place
pub into : (cells : List ℕ) (c : ℕ) → Contains cells c → is_member nat_eq cells c ≡ true
into cells c h = list_any-from_Contains nat_eq_equiv c cells h

pub out_of : (cells : List ℕ) (c : ℕ) → is_member nat_eq cells c ≡ true → Contains cells c
out_of cells c h = Contains-from_any eqb-true c cells h

pub not_in : (cells : List ℕ) (c : ℕ) → (Contains cells c → ⊥) → is_member nat_eq cells c ≡ false
not_in cells c none = by (is_member nat_eq cells c) refl
  where
    by : (b : Bool) → is_member nat_eq cells c ≡ b → b ≡ false
    by false is = refl
    by true is = absurd (none (out_of cells c is))

-- a cell that no later one is equal to
lacks_each : (c : ℕ) (xs : List ℕ) → list_any (nat_eq c) xs ≡ false → AllByRecursion (λ y. nat_eq c y ≡ false) xs
lacks_each c [] h = tt
lacks_each c (x ∷ xs) h =
    let head : nat_eq c x ≡ false = grind (arith, common_steps) in
    let tail : list_any (nat_eq c) xs ≡ false = grind (arith, common_steps) in (head, lacks_each c xs tail)

each_lacks : (c : ℕ) (xs : List ℕ) → AllByRecursion (λ y. nat_eq c y ≡ false) xs → list_any (nat_eq c) xs ≡ false
each_lacks c [] h = refl
each_lacks c (x ∷ xs) h = rw h.0 (each_lacks c xs h.1)

-- the part of a list that a test takes
pub part_of : (test : ℕ → Bool) (xs : List ℕ) (c : ℕ) → Contains (filter test xs) c → Contains xs c × (test c ≡ true)
part_of test xs c h =
    let one : (x : ℕ) → nat_eq c x ≡ true → test c ≡ test x = λ x e. ap test (eqb-true c x e) in
    let is = sym (is_member-filter nat_eq_equiv test c one xs) ∙ into (filter test xs) c h in
    let both : (is_member nat_eq xs c ≡ true) × (test c ≡ true) = grind (arith, common_steps) in (out_of xs c both.0, both.1)

lacks_part : (test : ℕ → Bool) (c : ℕ) (xs : List ℕ) → list_any (nat_eq c) xs ≡ false → list_any (nat_eq c) (filter test xs) ≡ false
lacks_part test c [] h = refl
lacks_part test c (x ∷ xs) h = grind (arith, common_steps, lacks_part test c xs)

pub distinct_part : (test : ℕ → Bool) (xs : List ℕ) → IsDistinct nat_eq xs → IsDistinct nat_eq (filter test xs)
distinct_part test [] d = d
distinct_part test (x ∷ xs) d = by (test x) (distinct_part test xs (IsDistinct-tail nat_eq x xs d))
  where
    by : (b : Bool) → IsDistinct nat_eq (filter test xs) → IsDistinct nat_eq (if b then x ∷ filter test xs else filter test xs)
    by true rest = IsDistinct-cons nat_eq x (filter test xs) (lacks_each x (filter test xs) (lacks_part test x xs (each_lacks x xs (IsDistinct-head nat_eq x xs d)))) rest
    by false rest = rest

-- one cell more, and two lists that share no cell
pub distinct_push : (xs : List ℕ) (c : ℕ) → IsDistinct nat_eq xs → (Contains xs c → ⊥) → IsDistinct nat_eq (xs ++ c ∷ [])
distinct_push xs c d none = IsDistinct-push nat_eq_equiv xs c d (not_in xs c none)

lacks_both : (c : ℕ) (xs ys : List ℕ) → list_any (nat_eq c) xs ≡ false → list_any (nat_eq c) ys ≡ false → list_any (nat_eq c) (xs ++ ys) ≡ false
lacks_both c [] ys p q = q
lacks_both c (x ∷ xs) ys p q = grind (arith, common_steps, lacks_both c xs ys)

pub distinct_both : (xs ys : List ℕ) → IsDistinct nat_eq xs → IsDistinct nat_eq ys → ((c : ℕ) → Contains xs c → Contains ys c → ⊥) → IsDistinct nat_eq (xs ++ ys)
distinct_both [] ys d e apart = e
distinct_both (x ∷ xs) ys d e apart =
    IsDistinct-cons nat_eq x (xs ++ ys)
    (lacks_each x (xs ++ ys) (lacks_both x xs ys (each_lacks x xs (IsDistinct-head nat_eq x xs d)) (not_in ys x (λ there. apart x (in_first x xs) there))))
    (distinct_both xs ys (IsDistinct-tail nat_eq x xs d) e (λ c here there. apart c (in_rest x xs c here) there))

-- the list without a cell, which is one shorter where the cell stands in it
pub without_more : (c : ℕ) (xs : List ℕ) → list_any (nat_eq c) xs ≡ false → filter (λ d. not (nat_eq c d)) xs ≡ xs
without_more c [] h = refl
without_more c (x ∷ xs) h = grind (arith, common_steps, without_more c xs)

one_less_by : (xs : List ℕ) (c : ℕ) → IsDistinct nat_eq xs → list_any (nat_eq c) xs ≡ true → length (filter (λ d. not (nat_eq c d)) xs) + 1 ≡ length xs
one_less_by [] c d h = absurd (true≢false (sym h))
one_less_by (x ∷ xs) c d h = by (nat_eq c x) refl (one_less_by xs c (IsDistinct-tail nat_eq x xs d))
  where
    by : (b : Bool) → nat_eq c x ≡ b → (list_any (nat_eq c) xs ≡ true → length (filter (λ d. not (nat_eq c d)) xs) + 1 ≡ length xs)
        → length (if not b then x ∷ filter (λ d. not (nat_eq c d)) xs else filter (λ d. not (nat_eq c d)) xs) + 1 ≡ suc (length xs)
    by true is rest =
        let lacks : list_any (nat_eq c) xs ≡ false = subst (λ (k : ℕ). list_any (nat_eq k) xs ≡ false) (sym (eqb-true c x is)) (each_lacks x xs (IsDistinct-head nat_eq x xs d)) in
        let same = ap (λ (l : List ℕ). length l) (without_more c xs lacks) in omega arith
    by false is rest =
        let there : list_any (nat_eq c) xs ≡ true = grind (arith, common_steps) in
        let less = rest there in omega arith

pub one_less : (xs : List ℕ) (c : ℕ) → IsDistinct nat_eq xs → Contains xs c → length (filter (λ d. not (nat_eq c d)) xs) + 1 ≡ length xs
one_less xs c d h = one_less_by xs c d (into xs c h)

-- a filter by membership in no cell
pub keep_all : (xs : List ℕ) → filter (λ d. not (is_member nat_eq [] d)) xs ≡ xs
keep_all [] = refl
keep_all (x ∷ xs) = ap (λ (l : List ℕ). x ∷ l) (keep_all xs)

pub keep_none : (xs : List ℕ) → filter (is_member nat_eq []) xs ≡ []
keep_none [] = refl
keep_none (x ∷ xs) = keep_none xs
