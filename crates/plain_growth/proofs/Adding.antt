-- What adding a code to those found makes of them.
use Rattle.std.proofs.Common.{◌≡◌, ℕ, zero, suc, Bool, true, false, List, [], ◌∷◌, ◌++◌, nat_eq, refl, sym, ◌∙◌, ap, subst, if◌then◌else◌, arith, eqb-true}
use Rattle.std.specs.List.{Contains, list_any}
use Rattle.std.proofs.lemmas.List.{append-nil}
use Rattle.indexmap.specs.IndexSet.{insert_key}
use Rattle.indexmap.proofs.CallerLemmas.{Contains-insert_key}
use Rattle.plain_growth.specs.Growth.{AddsCode}

pub none_in : (c : ℕ) {P : Type 0} → Contains [] c → P
none_in c h = absurd (omega (arith, h.1))

pub one_in : (k c : ℕ) → Contains (k ∷ []) c → c ≡ k
one_in k c (zero, below, is) = sym is
one_in k c (suc n, below, is) = absurd (omega (arith, below))

pub adds_code : (ks new : List ℕ) (k : ℕ) → new ≡ insert_key nat_eq ks k → AddsCode ks k new
adds_code ks new k is = by (list_any (nat_eq k) ks) refl
  where
    there : Contains new k
    there = subst (λ xs. Contains xs k) (sym is) (Contains-insert_key nat_eq eqb-true ks k)

    by : (b : Bool) → list_any (nat_eq k) ks ≡ b → AddsCode ks k new
    by true old = record {
      more = [];
      is = is ∙ ap (λ b. if b then ks else ks ++ k ∷ []) old ∙ sym (append-nil ks);
      there = there;
      only = λ c h. none_in c h;
    }
    by false absent = record {
      more = k ∷ [];
      is = is ∙ ap (λ b. if b then ks else ks ++ k ∷ []) absent;
      there = there;
      only = λ c h. one_in k c h;
    }
