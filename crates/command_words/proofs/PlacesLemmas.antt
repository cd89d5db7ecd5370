-- The loop over the further words of `grow`, which holds texts behind references.
use Rattle.std.proofs.Common.{◌≡◌, ◌∙◌, ◌<◌, ◌+◌, ℕ, Bool, true, false, not, cond, suc, refl, sym, ap, ap₂, arith, List, [], ◌∷◌, ◌++◌, map, length, take, drop, Some, None, Result, Ok, Err, drop-cons, append_assoc, ◌||◌, nat_lt, position, bytes_eq, slice_index_or, Bor}
use Rattle.std.specs.List.{list_any, position_or_len}
use Rattle.std.proofs.lemmas.List.{length-map}
use Rattle.std.proofs.lemmas.List.{map-append}
use Rattle.std.proofs.Math.Seq.{take-suc}
use Rattle.command_words.specs.Judge.{Text, place_named, place_or_fault, places_named, with_place}
use Rattle.command_words.specs.declared.fault.WordsFault.{WordsFault}

abbrev pub texts : List (Bor Text) → List Text
texts = map (λ text. text.now)

pub list_any-map : {X Y : Type 0} (p : Y → Bool) (f : X → Y) (xs : List X) → list_any (λ x. p (f x)) xs ≡ list_any p (map f xs)
list_any-map p f [] = refl
list_any-map p f (x ∷ xs) = ap (λ rest. p (f x) || rest) (list_any-map p f xs)

position_or_len-map : {X Y : Type 0} (p : Y → Bool) (f : X → Y) (xs : List X) → position_or_len (λ x. p (f x)) xs ≡ position_or_len p (map f xs)
position_or_len-map p f [] = refl
position_or_len-map p f (x ∷ xs) = go (p (f x)) (position_or_len-map p f xs)
  where
    go : (b : Bool) → position_or_len (λ x. p (f x)) xs ≡ position_or_len p (map f xs)
        → cond (not b) (1 + position_or_len (λ x. p (f x)) xs) 0 ≡ cond (not b) (1 + position_or_len p (map f xs)) 0
    go true e = refl
    go false e = ap (λ n. 1 + n) e

position-map : {X Y : Type 0} (p : Y → Bool) (f : X → Y) (xs : List X) → position (λ x. p (f x)) xs ≡ position p (map f xs)
position-map p f xs = ap₂ (λ n m. cond (nat_lt n m) (Some n) None) (position_or_len-map p f xs) (sym (length-map xs f))

-- a further word after some words of the line, behind references
abbrev pub found_of : List (Bor Text) → List (Bor Text) → Text → Result ℕ WordsFault
found_of names seen word = place_or_fault (list_any (λ text. bytes_eq text.now word) seen) (position (λ name. bytes_eq name.now word) names)

found-texts : (names seen : List (Bor Text)) (word : Text) → found_of names seen word ≡ place_named (texts names) (texts seen) word
found-texts names seen word =
    ap₂ place_or_fault (list_any-map (λ text. bytes_eq text word) (λ text. text.now) seen) (position-map (λ name. bytes_eq name word) (λ name. name.now) names)

-- places before those of the words that are left
abbrev pub after : List ℕ → Result (List ℕ) WordsFault → Result (List ℕ) WordsFault
after chosen (Ok places) = Ok (chosen ++ places)
after chosen (Err fault) = Err fault

-- the first `count` words named these places
abbrev pub IsSoFar : List (Bor Text) → List (Bor Text) → ℕ → List ℕ → Type 0
IsSoFar names words count chosen =
    places_named (texts names) [] (texts words) ≡ after chosen (places_named (texts names) (texts (take count words)) (texts (drop count words)))

pub so_far_none : (names words : List (Bor Text)) (chosen : List ℕ) → chosen ≡ [] → IsSoFar names words 0 chosen
so_far_none names words chosen none = rw none (kept (places_named (texts names) [] (texts words)))
  where
    kept : (r : Result (List ℕ) WordsFault) → r ≡ after [] r
    kept (Ok places) = refl
    kept (Err fault) = refl

some_text : (words : List (Bor Text)) (count : ℕ) → count < length words → Bor Text
some_text [] count inside = absurd (omega arith)
some_text (word ∷ words) count inside = word

module _ (names words : List (Bor Text)) (count : ℕ) (inside : count < length words) (r : Result ℕ WordsFault)
    (found : (d : Bor Text) → r ≡ found_of names (take count words) (slice_index_or words count d).now) where
  left_by : ℕ → Result (List ℕ) WordsFault
  left_by n = places_named (texts names) (texts (take n words)) (texts (drop n words))

  -- one word more
  one_more : left_by count ≡ with_place r (left_by (suc count))
  unfolding left_by
  one_more =
      let d = some_text words count inside in
      let word : Bor Text = slice_index_or words count d in
      let left : drop count words ≡ word ∷ drop (suc count) words = drop-cons words count d inside in
      let seen : texts (take (suc count) words) ≡ texts (take count words) ++ word.now ∷ [] =
      ap texts (take-suc words count d inside) ∙ map-append (λ text. text.now) (take count words) (word ∷ []) in
      ap (λ ws. places_named (texts names) (texts (take count words)) (texts ws)) left
      ∙ ap₂ (λ place seen_texts. with_place place (places_named (texts names) seen_texts (texts (drop (suc count) words)))) (sym (found d ∙ found-texts names (take count words) word.now)) (sym seen)

  moved : (chosen : List ℕ) (place : ℕ) (rest : Result (List ℕ) WordsFault) → after chosen (with_place (Ok place) rest) ≡ after (chosen ++ place ∷ []) rest
  moved chosen place (Ok places) = ap Ok (sym (append_assoc chosen (place ∷ []) places))
  moved chosen place (Err fault) = refl

  pub so_far_more : (chosen : List ℕ) (place : ℕ) → r ≡ Ok place → IsSoFar names words count chosen → IsSoFar names words (count + 1) (chosen ++ place ∷ [])
  unfolding left_by
  so_far_more chosen place is before =
      let more : count + 1 ≡ suc count = omega arith in
      rw more (before ∙ ap (after chosen) (one_more ∙ ap (λ o. with_place o (left_by (suc count))) is) ∙ moved chosen place (left_by (suc count)))

  pub so_far_fault : (chosen : List ℕ) (fault : WordsFault) → r ≡ Err fault → IsSoFar names words count chosen → Err fault ≡ places_named (texts names) [] (texts words)
  unfolding left_by
  so_far_fault chosen fault is before = sym (before ∙ ap (after chosen) (one_more ∙ ap (λ o. with_place o (left_by (suc count))) is))
