-- Lists of cells without some of them, and the parts of a list.
use Rattle.std.proofs.Common.{◌≡◌, refl, sym, ap, ap₂, subst, ◌∙◌, ℕ, ◌⊎◌, inl, inr, ◌||◌, Bool, true, false, not, nat_eq, cond, List, [], ◌∷◌, ◌++◌, filter, Contains, true≢false, arith}
use Rattle.std.specs.List.{IsDistinct, AllByRecursion}
use Rattle.std.specs.Set.{is_member}
use Rattle.std.proofs.lemmas.Grind.{common_steps}
use Rattle.std.proofs.lemmas.List.Elements.{filter-append, filter_agree, All-from_recursion, All-contains}
use Rattle.std.proofs.lemmas.List.Folds.{list_any-append}
use Rattle.list_facts.proofs.Lists.{nothing_in, in_first, in_rest, in_cons, filter_keeps}
use Rattle.graph_history.specs.Desks.{without}
use Rattle.graph_history.proofs.CellLists.{into, out_of, not_in, part_of}
use Rattle.crystal_growers.specs.Expansion.{rest_of}

-- what is left of a list
not_true : (b : Bool) → not b ≡ true → b ≡ false
not_true true h = cc
not_true false h = refl

not_false : (b : Bool) → b ≡ false → not b ≡ true
not_false true h = cc
not_false false h = refl

-- whether a list has a cell
pub has_or_not : (cells : List ℕ) (c : ℕ) → Contains cells c ⊎ (Contains cells c → ⊥)
has_or_not cells c = by (is_member nat_eq cells c) refl
  where
    by : (b : Bool) → is_member nat_eq cells c ≡ b → Contains cells c ⊎ (Contains cells c → ⊥)
    by true is = inl (out_of cells c is)
    by false is = inr (λ h. true≢false (sym (into cells c h) ∙ is))

pub rest_in : (cells list : List ℕ) (c : ℕ) → Contains (rest_of cells list) c → Contains list c × (Contains cells c → ⊥)
rest_in cells list c h =
    let both = part_of (λ d. not (is_member nat_eq cells d)) list c h in
    (both.0, λ there. true≢false (sym (into cells c there) ∙ not_true (is_member nat_eq cells c) both.1))

pub rest_has : (cells list : List ℕ) (c : ℕ) → Contains list c → (Contains cells c → ⊥) → Contains (rest_of cells list) c
rest_has cells list c h none = filter_keeps (λ d. not (is_member nat_eq cells d)) list c h (not_false (is_member nat_eq cells c) (not_in cells c none))

pub rest_same : (cells list : List ℕ) → ((c : ℕ) → Contains list c → Contains cells c → ⊥) → rest_of cells list ≡ list
rest_same cells [] apart = refl
rest_same cells (x ∷ xs) apart =
    let here : is_member nat_eq cells x ≡ false = not_in cells x (apart x (in_first x xs)) in
    let later : rest_of cells xs ≡ xs = rest_same cells xs (λ c h. apart c (in_rest x xs c h)) in
    rw here (ap (λ (l : List ℕ). x ∷ l) later)

pub rest_none : (cells list : List ℕ) → rest_of cells (filter (is_member nat_eq cells) list) ≡ []
rest_none cells [] = refl
rest_none cells (x ∷ xs) = by (is_member nat_eq cells x) refl (rest_none cells xs)
  where
    by : (b : Bool) → is_member nat_eq cells x ≡ b → rest_of cells (filter (is_member nat_eq cells) xs) ≡ [] → rest_of cells (cond b (x ∷ filter (is_member nat_eq cells) xs) (filter (is_member nat_eq cells) xs)) ≡ []
    by true is rest = rw is rest
    by false is rest = rest

pub rest_all : (cells list : List ℕ) → ((c : ℕ) → Contains list c → Contains cells c) → rest_of cells list ≡ []
rest_all cells [] all = refl
rest_all cells (x ∷ xs) all =
    let here : is_member nat_eq cells x ≡ true = into cells x (all x (in_first x xs)) in
    let later : rest_of cells xs ≡ [] = rest_all cells xs (λ c h. all c (in_rest x xs c h)) in
    rw here later

pub rest_append : (cells xs ys : List ℕ) → rest_of cells (xs ++ ys) ≡ rest_of cells xs ++ rest_of cells ys
rest_append cells xs ys = filter-append (λ c. not (is_member nat_eq cells c)) xs ys

pub rest_both : (xs ys list : List ℕ) → rest_of ys (rest_of xs list) ≡ rest_of (xs ++ ys) list
rest_both xs ys [] = refl
rest_both xs ys (x ∷ list) = by (is_member nat_eq xs x) (is_member nat_eq ys x) refl refl (list_any-append (nat_eq x) xs ys) (rest_both xs ys list)
  where
    by : (a b : Bool) → is_member nat_eq xs x ≡ a → is_member nat_eq ys x ≡ b → is_member nat_eq (xs ++ ys) x ≡ (is_member nat_eq xs x || is_member nat_eq ys x)
        → rest_of ys (rest_of xs list) ≡ rest_of (xs ++ ys) list → rest_of ys (rest_of xs (x ∷ list)) ≡ rest_of (xs ++ ys) (x ∷ list)
    by true b p q both rest = rw (both, p) rest
    by false true p q both rest = rw (both, p, q) rest
    by false false p q both rest = rw (both, p, q) (ap (λ (l : List ℕ). x ∷ l) rest)

pub without_is : (c : ℕ) (list : List ℕ) → without c list ≡ rest_of (c ∷ []) list
without_is c list = filter_agree (λ d. not (nat_eq c d)) (λ d. not (is_member nat_eq (c ∷ []) d)) same list
  where
    same : (d : ℕ) → not (nat_eq c d) ≡ not (is_member nat_eq (c ∷ []) d)
    same d = grind (arith, common_steps)

-- what is left when further cells are taken out, which none of the added ones is
pub rest_on : (xs ys old added : List ℕ) → ((c : ℕ) → Contains added c → Contains ys c → ⊥) → rest_of ys (rest_of xs old ++ added) ≡ rest_of (xs ++ ys) old ++ added
rest_on xs ys old added apart = rest_append ys (rest_of xs old) added ∙ ap₂ (λ (k l : List ℕ). k ++ l) (rest_both xs ys old) (rest_same ys added apart)

-- a list in which no cell stands twice, and its parts
all_front : (P : ℕ → Type 0) (xs ys : List ℕ) → AllByRecursion P (xs ++ ys) → AllByRecursion P xs
all_front P [] ys h = tt
all_front P (x ∷ xs) ys h = (h.0, all_front P xs ys h.1)

all_rest : (P : ℕ → Type 0) (xs ys : List ℕ) → AllByRecursion P (xs ++ ys) → AllByRecursion P ys
all_rest P [] ys h = h
all_rest P (x ∷ xs) ys h = all_rest P xs ys h.1

same_test : (c : ℕ) → nat_eq c c ≡ false → ⊥
same_test c h = grind (arith, common_steps)

pub distinct_split : (xs ys : List ℕ) → IsDistinct nat_eq (xs ++ ys) → IsDistinct nat_eq xs × IsDistinct nat_eq ys × ((c : ℕ) → Contains xs c → Contains ys c → ⊥)
unfolding IsDistinct
distinct_split [] ys d = (tt, d, λ c h g. nothing_in c h)
distinct_split (x ∷ xs) ys d =
    let rest = distinct_split xs ys d.1 in
    let apart : (c : ℕ) → Contains ys c → nat_eq x c ≡ false = λ c g. All-contains (λ y. nat_eq x y ≡ false) ys c (All-from_recursion (λ y. nat_eq x y ≡ false) ys (all_rest (λ y. nat_eq x y ≡ false) xs ys d.0)) g in (
      (all_front (λ y. nat_eq x y ≡ false) xs ys d.0, rest.0),
      rest.1,
      λ c h g. elim (in_cons x xs c h) [ inl e ↦ same_test c (subst (λ (y : ℕ). nat_eq y c ≡ false) e (apart c g)) | inr r ↦ rest.2 c r g ],
    )
