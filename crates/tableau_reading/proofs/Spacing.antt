-- Words printed one after another, with single blanks between them.
use Rattle.std.proofs.Common.{◌≡◌, ◌∙◌, refl, sym, ap, ℕ, suc, ◌+◌, ◌≤◌, ◌<◌, ◌==◌, Bool, true, false, if◌then◌else◌, List, [], ◌∷◌, ◌++◌, length, drop, get_or, append_assoc, length-append, arith}
use Rattle.std.proofs.lemmas.List.{drop_more, drop_all, append-nil}
use Rattle.std.proofs.lemmas.Bool.Decides.{nat_tests}
use Rattle.text_pieces.specs.Pieces.{spaced}
use Rattle.tableau_reading.specs.Texts.{blank_before}

-- words from the n-th on, each with the blank in front of it
abbrev pub text_from : ℕ → List (List ℕ) → List ℕ
text_from n [] = []
text_from n (x ∷ xs) = blank_before n ++ (x ++ text_from (n + 1) xs)

blank_behind : (n : ℕ) → blank_before (suc n) ≡ 32 ∷ []
blank_behind n = let test : (suc n == 0) ≡ false = grind (arith, nat_tests) in rw test refl

behind : (n : ℕ) (x : List ℕ) (xs : List (List ℕ)) → text_from (suc n) (x ∷ xs) ≡ 32 ∷ spaced (x ∷ xs)
behind n x [] = rw (blank_behind n) (ap (λ y. 32 ∷ y) (append-nil x))
behind n x (y ∷ ys) =
    let next : suc n + 1 ≡ suc (suc n) = omega arith in
    rw (blank_behind n, next, behind (suc n) y ys) refl

pub spaced_from : (xs : List (List ℕ)) → text_from 0 xs ≡ spaced xs
spaced_from [] = refl
spaced_from (x ∷ []) = append-nil x
spaced_from (x ∷ y ∷ ys) = ap (λ rest. x ++ rest) (behind 0 y ys)

-- the first n words are printed behind what was there
abbrev pub IsPrintedTo : List ℕ → List ℕ → ℕ → List (List ℕ) → Type 0
IsPrintedTo old out n xs = out ++ text_from n (drop n xs) ≡ old ++ spaced xs

pub print_begins : (old : List ℕ) (xs : List (List ℕ)) → IsPrintedTo old old 0 xs
print_begins old xs = ap (λ rest. old ++ rest) (spaced_from xs)

pub word_printed :
    (old out mid new x : List ℕ) (n : ℕ) (xs : List (List ℕ)) → n < length xs → x ≡ get_or xs n [] → mid ≡ out ++ blank_before n → new ≡ mid ++ x →
    IsPrintedTo old out n xs → IsPrintedTo old new (n + 1) xs
word_printed old out mid new x n xs lt word blank is before =
    let split : drop n xs ≡ get_or xs n [] ∷ drop (n + 1) xs = drop_more xs n [] lt in
    let here = rw split at before in
    rw (is, blank, word, append_assoc, append_assoc) here

pub print_ends : (old out : List ℕ) (n : ℕ) (xs : List (List ℕ)) → length xs ≤ n → IsPrintedTo old out n xs → out ≡ old ++ spaced xs
print_ends old out n xs all before =
    let none : drop n xs ≡ [] = drop_all n xs all in
    let here = rw none at before in
    sym (append-nil out) ∙ here

pub printed_length : (old out : List ℕ) (n : ℕ) (xs : List (List ℕ)) → IsPrintedTo old out n xs → length out ≤ length old + length (spaced xs)
printed_length old out n xs before =
    omega (arith, length-append out (text_from n (drop n xs)), length-append old (spaced xs), ap length before)

-- the words and a blank for each
abbrev pub total_length : List (List ℕ) → ℕ
total_length [] = 0
total_length (x ∷ xs) = 1 + length x + total_length xs

pub spaced_length : (xs : List (List ℕ)) → length (spaced xs) ≤ total_length xs
spaced_length [] = omega arith
spaced_length (x ∷ []) = omega arith
spaced_length (x ∷ y ∷ ys) =
    let rest : length (spaced (y ∷ ys)) ≤ total_length (y ∷ ys) = spaced_length (y ∷ ys) in
    omega (arith, length-append x (32 ∷ spaced (y ∷ ys)), rest)

pub blank_length : (out mid : List ℕ) (n : ℕ) → mid ≡ out ++ blank_before n → length mid ≤ length out + 1
blank_length out mid n is = omega (arith, ap length is, length-append out (blank_before n), short (n == 0))
  where
    short : (b : Bool) → length {A = ℕ} (if b then [] else 32 ∷ []) ≤ 1
    short true = omega arith
    short false = omega arith
