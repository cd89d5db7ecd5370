-- Prefixes, and the calls in them.
use Rattle.std.proofs.Common.{◌≡◌, refl, sym, ap, ◌∙◌, ℕ, ◌==◌, List, [], ◌∷◌, ◌++◌, append_assoc}
use Rattle.std.proofs.lemmas.List.{append-nil}
use Rattle.std.proofs.lemmas.List.Elements.{filter-append}
use Rattle.shared_seats.specs.Seats.{IsPrefix, calls}

pub prefix_self : {E : Type 0} (f : List E) → IsPrefix f f
prefix_self f = ([], sym (append-nil f))

pub prefix_more : {E : Type 0} (f g : List E) → IsPrefix f (f ++ g)
prefix_more f g = (g, refl)

pub prefix_on : {E : Type 0} (f g h : List E) → IsPrefix f g → IsPrefix g h → IsPrefix f h
prefix_on {E} f g h p q = (p.0 ++ q.0, q.1 ∙ ap (λ (l : List E). l ++ q.0) p.1 ∙ append_assoc f p.0 q.0)

-- a list that a further part leaves as it was
pub no_more : {E : Type 0} (l m : List E) → l ++ m ≡ l → m ≡ []
no_more [] m e = e
no_more (x ∷ l) m e = let rest : l ++ m ≡ l = cc in no_more l m rest

module _ {E : Type 0} (by : E → ℕ) where
  pub calls-append : (f g : List E) (n : ℕ) → calls by (f ++ g) n ≡ calls by f n ++ calls by g n
  calls-append f g n = filter-append (λ (e : E). by e == n) f g

  -- the calls of a number whose events came, and of one who did nothing
  pub calls_own : (h es : List E) (n : ℕ) (l : List E) → calls by es n ≡ es → calls by h n ≡ l → calls by (h ++ es) n ≡ l ++ es
  calls_own h es n l own e =
      calls-append h es n ∙ ap (λ (m : List E). m ++ calls by es n) e ∙ ap (λ (m : List E). l ++ m) own

  pub calls_left : (h es : List E) (m : ℕ) (l : List E) → calls by es m ≡ [] → calls by h m ≡ l → calls by (h ++ es) m ≡ l
  calls_left h es m l none e =
      calls-append h es m ∙ ap (λ (k : List E). k ++ calls by es m) e ∙ ap (λ (k : List E). l ++ k) none ∙ append-nil l

  -- who did nothing in two lists did nothing in both together
  pub calls_both : (f g : List E) (n : ℕ) → calls by f n ≡ [] → calls by g n ≡ [] → calls by (f ++ g) n ≡ []
  calls_both f g n p q = calls-append f g n ∙ ap (λ (l : List E). l ++ calls by g n) p ∙ q

  -- between a prefix and a history that have the same calls of a number, there are none
  pub calls_quiet : (f rest h : List E) (n : ℕ) (l : List E) → h ≡ f ++ rest → calls by f n ≡ l → calls by h n ≡ l → calls by rest n ≡ []
  calls_quiet f rest h n l is before after =
      no_more l (calls by rest n)
      (ap (λ (k : List E). k ++ calls by rest n) (sym before) ∙ sym (calls-append f rest n) ∙ ap (λ (k : List E). calls by k n) (sym is) ∙ after)
