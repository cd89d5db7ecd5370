-- Slips by their owners, and by their tags.
use Rattle.std.proofs.Common.{◌≡◌, ◌≢◌, ◌∙◌, refl, sym, ap, subst, ℕ, suc, ◌+◌, Bool, not, cond, List, [], ◌∷◌, ◌++◌, length, eq-eqb, arith}
use Rattle.std.proofs.lemmas.Bool.{ne_eqb}
use Rattle.std.proofs.lemmas.List.Elements.{All-nil, All-cons, All-head, All-tail}
use Rattle.parcel_deques.specs.declared.parcel.Slip.{Slip}
use Rattle.parcel_deques.specs.declared.parcel.Tag.{Tag}
use Rattle.parcel_deques.specs.Parcels.{tag_of, IsOwned, AllOwned, owned_by, others_than}
use Rattle.parcel_deques.specs.Rule.{AllTagged}

-- tagged slips are owned
pub tagged_owned : (n k : ℕ) (xs : List Slip) → AllTagged n k xs → AllOwned n xs
tagged_owned n k [] tags = All-nil (IsOwned n)
tagged_owned n k (x ∷ xs) tags = All-cons (IsOwned n) x xs (ap (λ (t : Tag). t.owner) tags.0) (tagged_owned n (suc k) xs tags.1)

pub tagged_right : (n k : ℕ) (xs ys : List Slip) → AllTagged n k (xs ++ ys) → AllTagged n (k + length xs) ys
tagged_right n k [] ys tags = subst (λ (j : ℕ). AllTagged n j ys) (let e : k ≡ k + 0 = omega arith in e) tags
tagged_right n k (x ∷ xs) ys tags = subst (λ (j : ℕ). AllTagged n j ys) (let e : suc k + length xs ≡ k + suc (length xs) = omega arith in e) (tagged_right n (suc k) xs ys tags.1)

pub tagged_left : (n k : ℕ) (xs ys : List Slip) → AllTagged n k (xs ++ ys) → AllTagged n k xs
tagged_left n k [] ys tags = tt
tagged_left n k (x ∷ xs) ys tags = (tags.0, tagged_left n (suc k) xs ys tags.1)

pub tagged_push : (n k : ℕ) (xs : List Slip) (x : Slip) → AllTagged n k xs → x.tag ≡ tag_of n (k + length xs) → AllTagged n k (xs ++ x ∷ [])
tagged_push n k [] x tags is = (is ∙ ap (tag_of n) (let e : k + 0 ≡ k = omega arith in e), tt)
tagged_push n k (y ∷ ys) x tags is = (tags.0, tagged_push n (suc k) ys x tags.1 (is ∙ ap (tag_of n) (let e : k + suc (length ys) ≡ suc k + length ys = omega arith in e)))

-- the slips of one owner

pub owned_same : (n : ℕ) (xs : List Slip) → AllOwned n xs → owned_by n xs ≡ xs
owned_same n [] all = refl
owned_same n (x ∷ xs) all = ap (λ (b : Bool). cond b (x ∷ owned_by n xs) (owned_by n xs)) (eq-eqb x.tag.owner n (All-head (IsOwned n) x xs all)) ∙ ap (λ (l : List Slip). x ∷ l) (owned_same n xs (All-tail (IsOwned n) x xs all))

pub owned_none : (n k : ℕ) (xs : List Slip) → k ≢ n → AllOwned k xs → owned_by n xs ≡ []
owned_none n k [] other all = refl
owned_none n k (x ∷ xs) other all = ap (λ (b : Bool). cond b (x ∷ owned_by n xs) (owned_by n xs)) (ne_eqb x.tag.owner n (λ e. other (sym (All-head (IsOwned k) x xs all) ∙ e))) ∙ owned_none n k xs other (All-tail (IsOwned k) x xs all)

pub others_none : (n : ℕ) (xs : List Slip) → AllOwned n xs → others_than n xs ≡ []
others_none n [] all = refl
others_none n (x ∷ xs) all = ap (λ (b : Bool). cond (not b) (x ∷ others_than n xs) (others_than n xs)) (eq-eqb x.tag.owner n (All-head (IsOwned n) x xs all)) ∙ others_none n xs (All-tail (IsOwned n) x xs all)

pub others_same : (n k : ℕ) (xs : List Slip) → k ≢ n → AllOwned k xs → others_than n xs ≡ xs
others_same n k [] other all = refl
others_same n k (x ∷ xs) other all = ap (λ (b : Bool). cond (not b) (x ∷ others_than n xs) (others_than n xs)) (ne_eqb x.tag.owner n (λ e. other (sym (All-head (IsOwned k) x xs all) ∙ e))) ∙ ap (λ (l : List Slip). x ∷ l) (others_same n k xs other (All-tail (IsOwned k) x xs all))
