-- What a loop printed that prints the text of one element after another.
use Rattle.std.proofs.Common.{◌≡◌, ◌∙◌, sym, ap, ℕ, ◌+◌, ◌<◌, ◌≤◌, List, [], ◌∷◌, ◌++◌, length, get_or, take, drop, append_assoc, append-nil, Option, Result, Ok, Err, IsErrAnd, arith}
use Rattle.std.specs.List.{flat_map}
use Rattle.std.proofs.lemmas.Grind.{flat_map-append}
use Rattle.std.proofs.lemmas.List.{take_more, take_all, take-append-drop, length-take-le}
use Rattle.answer_text.specs.Prints.{Prints}
use Rattle.answer_text.specs.Texts.{numbered}
use Rattle.answer_text.proofs.Printed.{prints_as, prints_then, prints_value, prints_short, prints_failed}

-- ---- texts that hang on the elements alone

texts_more : {X : Type 0} (text : X → List ℕ) (xs : List X) (k : ℕ) (d : X) → k < length xs
    → flat_map text (take k xs) ++ text (get_or xs k d) ≡ flat_map text (take (k + 1) xs)
texts_more {X = X} text xs k d below =
    let x = get_or xs k d in
    sym (ap (λ (l : List X). flat_map text l) (take_more xs k d below) ∙ flat_map-append text (take k xs) (x ∷ [])
    ∙ ap (λ (l : List ℕ). flat_map text (take k xs) ++ l) (append-nil (text x)))

texts_rest : {X : Type 0} (text : X → List ℕ) (xs : List X) (k : ℕ) (d : X) → k < length xs
    → (flat_map text (take k xs) ++ text (get_or xs k d)) ++ flat_map text (drop (k + 1) xs) ≡ flat_map text xs
texts_rest {X = X} text xs k d below =
    ap (λ (l : List ℕ). l ++ flat_map text (drop (k + 1) xs)) (texts_more text xs k d below)
    ∙ sym (flat_map-append text (take (k + 1) xs) (drop (k + 1) xs)) ∙ ap (λ (l : List X). flat_map text l) (take-append-drop (k + 1) xs)

-- one element more
pub each_more : {X T E T' E' : Type 0} {value : T} {second : T'} {other : T} {before middle after : Option (List ℕ)} {faults faults_middle faults_after : ℕ} {page page_middle page_after piece : List ℕ}
    (text : X → List ℕ) (xs : List X) (k : ℕ) (d : X) → k < length xs → piece ≡ text (get_or xs k d)
    → Prints {T = T} {E = E} before middle faults faults_middle page page_middle (flat_map text (take k xs)) (Ok value)
    → Prints {T = T'} {E = E'} middle after faults_middle faults_after page_middle page_after piece (Ok second)
    → Prints {T = T} {E = E} before after faults faults_after page page_after (flat_map text (take (k + 1) xs)) (Ok other)
each_more text xs k d below is so_far then =
    prints_as (texts_more text xs k d below) (prints_value (prints_then so_far (prints_as is then)))

-- the text of an element was not printed whole
pub each_stopped : {X T E T' E' T'' E'' : Type 0} {value : T} {error : E'} {before middle after : Option (List ℕ)} {faults faults_middle faults_after : ℕ} {page page_middle page_after page_end piece : List ℕ} {result : Result T'' E''}
    (text : X → List ℕ) (xs : List X) (k : ℕ) (d : X) → k < length xs → piece ≡ text (get_or xs k d) → (Q : E'' → Type 0) → IsErrAnd result Q
    → Prints {T = T} {E = E} before middle faults faults_middle page page_middle (flat_map text (take k xs)) (Ok value)
    → Prints {T = T'} {E = E'} middle after faults_middle faults_after page_middle page_after piece (Err error)
    → Prints before after faults faults_after page page_end (flat_map text xs) result
each_stopped text xs k d below is Q fails so_far then =
    prints_failed Q fails
    (prints_as (texts_rest text xs k d below) (prints_short (flat_map text (drop (k + 1) xs)) (prints_then so_far (prints_as is then))))

-- all elements
pub each_all : {X T E T' E' : Type 0} {value : T} {other : T'} {before after : Option (List ℕ)} {faults faults_after : ℕ} {page page_after : List ℕ}
    (text : X → List ℕ) (xs : List X) (k : ℕ) → length xs ≤ k
    → Prints {T = T} {E = E} before after faults faults_after page page_after (flat_map text (take k xs)) (Ok value)
    → Prints {T = T'} {E = E'} before after faults faults_after page page_after (flat_map text xs) (Ok other)
each_all {X = X} text xs k far so_far = prints_as (ap (λ (l : List X). flat_map text l) (take_all k xs far)) (prints_value so_far)

-- ---- texts that hang on the numbers of the elements too

numbered-append : {X : Type 0} (text : ℕ → X → List ℕ) (a : ℕ) (xs ys : List X) → numbered text a (xs ++ ys) ≡ numbered text a xs ++ numbered text (a + length xs) ys
numbered-append text a [] ys =
    let same : a ≡ a + 0 = omega arith in
    ap (λ n. numbered text n ys) same
numbered-append text a (x ∷ xs) ys =
    let next : a + 1 + length xs ≡ a + length (x ∷ xs) = omega arith in
    ap (λ (l : List ℕ). text a x ++ l) (numbered-append text (a + 1) xs ys ∙ ap (λ n. numbered text (a + 1) xs ++ numbered text n ys) next)
    ∙ sym (append_assoc (text a x) (numbered text (a + 1) xs) (numbered text (a + length (x ∷ xs)) ys))

numbered_more : {X : Type 0} (text : ℕ → X → List ℕ) (a j : ℕ) (xs : List X) (k : ℕ) (d : X) → a + k ≡ j → k < length xs
    → numbered text a (take k xs) ++ text j (get_or xs k d) ≡ numbered text a (take (k + 1) xs)
numbered_more {X = X} text a j xs k d at below =
    let x = get_or xs k d in
    let place : a + length (take k xs) ≡ j = omega (arith, length-take-le k xs (omega arith)) in
    sym (ap (λ (l : List X). numbered text a l) (take_more xs k d below) ∙ numbered-append text a (take k xs) (x ∷ [])
    ∙ ap (λ (l : List ℕ). numbered text a (take k xs) ++ l) (append-nil (text (a + length (take k xs)) x) ∙ ap (λ n. text n x) place))

numbered_rest : {X : Type 0} (text : ℕ → X → List ℕ) (a j : ℕ) (xs : List X) (k : ℕ) (d : X) → a + k ≡ j → k < length xs
    → (numbered text a (take k xs) ++ text j (get_or xs k d)) ++ numbered text (a + length (take (k + 1) xs)) (drop (k + 1) xs) ≡ numbered text a xs
numbered_rest {X = X} text a j xs k d at below =
    let rest = numbered text (a + length (take (k + 1) xs)) (drop (k + 1) xs) in
    ap (λ (l : List ℕ). l ++ rest) (numbered_more text a j xs k d at below)
    ∙ sym (numbered-append text a (take (k + 1) xs) (drop (k + 1) xs)) ∙ ap (λ (l : List X). numbered text a l) (take-append-drop (k + 1) xs)

pub next_more : {X T E T' E' : Type 0} {value : T} {second : T'} {other : T} {before middle after : Option (List ℕ)} {faults faults_middle faults_after : ℕ} {page page_middle page_after piece : List ℕ}
    (text : ℕ → X → List ℕ) (a j : ℕ) (xs : List X) (k : ℕ) (d : X) → a + k ≡ j → k < length xs → piece ≡ text j (get_or xs k d)
    → Prints {T = T} {E = E} before middle faults faults_middle page page_middle (numbered text a (take k xs)) (Ok value)
    → Prints {T = T'} {E = E'} middle after faults_middle faults_after page_middle page_after piece (Ok second)
    → Prints {T = T} {E = E} before after faults faults_after page page_after (numbered text a (take (k + 1) xs)) (Ok other)
next_more text a j xs k d at below is so_far then =
    prints_as (numbered_more text a j xs k d at below) (prints_value (prints_then so_far (prints_as is then)))

pub next_stopped : {X T E T' E' T'' E'' : Type 0} {value : T} {error : E'} {before middle after : Option (List ℕ)} {faults faults_middle faults_after : ℕ} {page page_middle page_after page_end piece : List ℕ} {result : Result T'' E''}
    (text : ℕ → X → List ℕ) (a j : ℕ) (xs : List X) (k : ℕ) (d : X) → a + k ≡ j → k < length xs → piece ≡ text j (get_or xs k d) → (Q : E'' → Type 0) → IsErrAnd result Q
    → Prints {T = T} {E = E} before middle faults faults_middle page page_middle (numbered text a (take k xs)) (Ok value)
    → Prints {T = T'} {E = E'} middle after faults_middle faults_after page_middle page_after piece (Err error)
    → Prints before after faults faults_after page page_end (numbered text a xs) result
next_stopped text a j xs k d at below is Q fails so_far then =
    prints_failed Q fails
    (prints_as (numbered_rest text a j xs k d at below)
    (prints_short (numbered text (a + length (take (k + 1) xs)) (drop (k + 1) xs)) (prints_then so_far (prints_as is then))))

pub next_all : {X T E T' E' : Type 0} {value : T} {other : T'} {before after : Option (List ℕ)} {faults faults_after : ℕ} {page page_after : List ℕ}
    (text : ℕ → X → List ℕ) (a : ℕ) (xs : List X) (k : ℕ) → length xs ≤ k
    → Prints {T = T} {E = E} before after faults faults_after page page_after (numbered text a (take k xs)) (Ok value)
    → Prints {T = T'} {E = E'} before after faults faults_after page page_after (numbered text a xs) (Ok other)
next_all {X = X} text a xs k far so_far = prints_as (ap (λ (l : List X). numbered text a l) (take_all k xs far)) (prints_value so_far)
