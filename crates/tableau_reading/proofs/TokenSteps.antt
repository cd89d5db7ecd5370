-- A word is read token by token.
use Rattle.std.proofs.Common.{◌≡◌, ◌∙◌, refl, sym, ap, ℕ, ◌+◌, ◌≤◌, ◌<◌, List, [], ◌∷◌, ◌++◌, length, take, drop, set, Some, None, Result, Ok, Err, append_assoc}
use Rattle.std.proofs.lemmas.List.{drop_more, drop_all, take_all, take_more_set, append-nil}
use Rattle.tensor_words.specs.declared.spaces.Factor.TheVariants.{Vector}
use Rattle.tensor_words.specs.Spaces.{SpaceType, factor_at}
use Rattle.tableau_reading.specs.declared.parsing.WordFault.{WordFault}
use Rattle.tableau_reading.specs.Tokens.{token_digit, bad_token, digits_from, with_digit}

-- digits in front of those that are read, or the fault
abbrev pub with_digits : List ℕ → Result (List ℕ) WordFault → Result (List ℕ) WordFault
with_digits ds (Ok es) = Ok (ds ++ es)
with_digits ds (Err fault) = Err fault

-- the first k digits of w are read, and `rest` are the tokens that are left of all
abbrev pub IsReadUpTo : SpaceType → List (List ℕ) → List (List ℕ) → ℕ → List ℕ → Type 0
IsReadUpTo s all rest k w = with_digits (take k w) (digits_from s.cartan (k + 1) (drop k s.factors) rest) ≡ digits_from s.cartan 1 s.factors all

further : (ds : List ℕ) (d : ℕ) (r : Result (List ℕ) WordFault) → with_digits (ds ++ d ∷ []) r ≡ with_digits ds (with_digit d r)
further ds d (Ok es) = ap Ok (append_assoc ds (d ∷ []) es)
further ds d (Err fault) = refl

pub token_taken :
    (s : SpaceType) (all rest behind : List (List ℕ)) (token : List ℕ) (k : ℕ) (w v : List ℕ) (d : ℕ) → k < length s.factors → k < length w →
    rest ≡ token ∷ behind → Some d ≡ token_digit s.cartan (factor_at s k) token → v ≡ set w k d →
    IsReadUpTo s all rest k w → IsReadUpTo s all behind (k + 1) v
token_taken s all rest behind token k w v d lt room cut good is before =
    let split : drop k s.factors ≡ factor_at s k ∷ drop (k + 1) s.factors = drop_more s.factors k Vector lt in
    let here = rw (split, cut, ← good) at before in
    rw (is, take_more_set w k d room) (further (take k w) d (digits_from s.cartan (k + 1 + 1) (drop (k + 1) s.factors) behind) ∙ here)

pub token_refused :
    (s : SpaceType) (all rest behind : List (List ℕ)) (token : List ℕ) (k : ℕ) (w : List ℕ) (fault : WordFault) → k < length s.factors →
    rest ≡ token ∷ behind → None ≡ token_digit s.cartan (factor_at s k) token → fault ≡ bad_token (factor_at s k) (k + 1) →
    IsReadUpTo s all rest k w → Err fault ≡ digits_from s.cartan 1 s.factors all
token_refused s all rest behind token k w fault lt cut bad is before =
    let split : drop k s.factors ≡ factor_at s k ∷ drop (k + 1) s.factors = drop_more s.factors k Vector lt in
    let here = rw (split, cut, ← bad) at before in
    rw is here

pub read_ends :
    (s : SpaceType) (all rest : List (List ℕ)) (k : ℕ) (w : List ℕ) → length s.factors ≤ k → length w ≤ k →
    IsReadUpTo s all rest k w → Ok w ≡ digits_from s.cartan 1 s.factors all
read_ends s all rest k w last whole before =
    let none : drop k s.factors ≡ [] = drop_all k s.factors last in
    let full : take k w ≡ w = take_all k w whole in
    let here = rw (none, full) at before in
    ap Ok (sym (append-nil w)) ∙ here
