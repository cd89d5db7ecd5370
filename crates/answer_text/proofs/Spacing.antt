-- Arrows printed one after another.
use Rattle.std.proofs.Common.{◌≡◌, ◌∙◌, refl, sym, ap, ℕ, suc, ◌+◌, Bool, true, false, List, [], ◌∷◌, ◌++◌, Option, None, Some, not, is_some, ◌&&◌, append_assoc, decimal, ℤ, arith}
use Rattle.std.proofs.lemmas.List.{append-nil}
use Rattle.tensor_words.specs.Spaces.{SpaceType, word_weight}
use Rattle.text_pieces.specs.Pieces.{spaced}
use Rattle.tableau_reading.specs.Texts.{word_text, weight_text}
use Rattle.canonical_graph.specs.Graphs.{FinishedType, target_rank, lowering, vertex_word}
use Rattle.text_pieces.specs.Pieces.{bar}
use Rattle.answer_text.specs.Vertices.{arrow_text, texts_of, arrow_texts, or_dash, arrows_text, vertex_text, spaced_onto, dash_onto}

abbrev pub is_none_yet : List (List ℕ) → Bool
is_none_yet [] = true
is_none_yet (text ∷ texts) = false

-- the arrows of the first n indices are printed behind what was there, and it is told whether there is none yet
pub record IsPrinted (f : FinishedType) (rank n : ℕ) (old out : List ℕ) (first : Bool) : Type 0 where
  pub text : out ≡ old ++ spaced (arrow_texts f rank n)
  pub none_yet : first ≡ is_none_yet (arrow_texts f rank n)

pub print_begins : (f : FinishedType) (rank : ℕ) (old : List ℕ) → IsPrinted f rank 0 old old true
print_begins f rank old = record { text = sym (append-nil old); none_yet = refl }

spaced_push : (x : List ℕ) (xs : List (List ℕ)) (y : List ℕ) → spaced ((x ∷ xs) ++ y ∷ []) ≡ spaced (x ∷ xs) ++ 32 ∷ y
spaced_push x [] y = refl
spaced_push x (z ∷ zs) y = ap (λ rest. x ++ 32 ∷ rest) (spaced_push z zs y) ∙ sym (append_assoc x (32 ∷ spaced (z ∷ zs)) (32 ∷ y))

group_later : (o s a b c : List ℕ) → (((o ++ s) ++ a) ++ b) ++ c ≡ o ++ (s ++ ((a ++ b) ++ c))
group_later o s a b c = simp append_assoc

text_more : (old out : List ℕ) (xs : List (List ℕ)) (i : ℕ) (t : Option ℕ) → out ≡ old ++ spaced xs
    → spaced_onto out (is_none_yet xs) i t ≡ old ++ spaced (xs ++ texts_of i t)
text_more old out [] i None is = is
text_more old out (x ∷ xs) i None is = is ∙ ap (λ (ys : List (List ℕ)). old ++ spaced ys) (sym (append-nil (x ∷ xs)))
text_more old out [] i (Some t) is =
    ap (λ o. ((o ++ decimal i) ++ 58 ∷ []) ++ decimal t) (is ∙ append-nil old) ∙ ap (λ o. o ++ decimal t) (append_assoc old (decimal i) (58 ∷ [])) ∙ append_assoc old (decimal i ++ 58 ∷ []) (decimal t)
text_more old out (x ∷ xs) i (Some t) is =
    group_later out (32 ∷ []) (decimal i) (58 ∷ []) (decimal t)
    ∙ ap (λ o. o ++ 32 ∷ arrow_text i t) is
    ∙ append_assoc old (spaced (x ∷ xs)) (32 ∷ arrow_text i t)
    ∙ ap (λ rest. old ++ rest) (sym (spaced_push x xs (arrow_text i t)))

none_more : (xs : List (List ℕ)) (i : ℕ) (t : Option ℕ) → (is_none_yet xs && not (is_some t)) ≡ is_none_yet (xs ++ texts_of i t)
none_more [] i None = refl
none_more [] i (Some t) = refl
none_more (x ∷ xs) i None = refl
none_more (x ∷ xs) i (Some t) = refl

printed_next : (f : FinishedType) (rank n : ℕ) (old out new : List ℕ) (first next : Bool) → IsPrinted f rank n old out first
    → new ≡ spaced_onto out first (suc n) (target_rank f rank (lowering (suc n)))
    → next ≡ (first && not (is_some (target_rank f rank (lowering (suc n))))) → IsPrinted f rank (suc n) old new next
printed_next f rank n old out new first next p text none_yet = record {
  text =
      text ∙ ap (λ b. spaced_onto out b (suc n) (target_rank f rank (lowering (suc n)))) p.none_yet
      ∙ text_more old out (arrow_texts f rank n) (suc n) (target_rank f rank (lowering (suc n))) p.text;
  none_yet =
      none_yet ∙ ap (λ b. b && not (is_some (target_rank f rank (lowering (suc n))))) p.none_yet
      ∙ none_more (arrow_texts f rank n) (suc n) (target_rank f rank (lowering (suc n)));
}

pub print_more : (f : FinishedType) (rank n : ℕ) (old out new : List ℕ) (first next : Bool) → IsPrinted f rank n old out first
    → new ≡ spaced_onto out first (n + 1) (target_rank f rank (lowering (n + 1)))
    → next ≡ (first && not (is_some (target_rank f rank (lowering (n + 1))))) → IsPrinted f rank (n + 1) old new next
print_more f rank n old out new first next p text none_yet =
    let s : n + 1 ≡ suc n = omega arith in
    rw s (printed_next f rank n old out new first next p (rw s at text) (rw s at none_yet))

pub print_ends : (f : FinishedType) (rank n : ℕ) (old out new : List ℕ) (first : Bool) → n ≡ f.space.cartan.rank → IsPrinted f rank n old out first
    → new ≡ dash_onto out first → new ≡ old ++ arrows_text f rank
unfolding arrows_text
print_ends f rank n old out new first all p is =
    let printed = rw all at p in
    is ∙ by first (arrow_texts f rank f.space.cartan.rank) printed.text printed.none_yet
  where
    by : (first : Bool) (xs : List (List ℕ)) → out ≡ old ++ spaced xs → first ≡ is_none_yet xs → dash_onto out first ≡ old ++ or_dash xs
    by first [] text none = ap (dash_onto out) none ∙ ap (λ o. o ++ 45 ∷ []) (text ∙ append-nil old)
    by first (x ∷ xs) text none = ap (dash_onto out) none ∙ text

-- the line of a vertex, piece by piece
pub line_is : (f : FinishedType) (rank : ℕ) (s steps : SpaceType) (word : List ℕ) (weight : List ℤ) (old o1 o2 o3 o4 o5 o6 o7 : List ℕ)
    → s ≡ f.space → steps ≡ f.space → word ≡ vertex_word f rank → weight ≡ word_weight steps word → old ≡ []
    → o1 ≡ old ++ decimal rank → o2 ≡ o1 ++ bar → o3 ≡ o2 ++ word_text s word → o4 ≡ o3 ++ bar → o5 ≡ o4 ++ weight_text weight → o6 ≡ o5 ++ bar
    → o7 ≡ o6 ++ arrows_text f rank → o7 ≡ vertex_text f rank
unfolding vertex_text
line_is f rank s steps word weight old o1 o2 o3 o4 o5 o6 o7 space own is_word is_weight empty e1 e2 e3 e4 e5 e6 e7 =
    let first : o1 ≡ decimal rank = e1 ∙ ap (λ o. o ++ decimal rank) empty in
    rw (e7, e6, e5, e4, e3, e2, first, is_weight, is_word, space, own) refl
