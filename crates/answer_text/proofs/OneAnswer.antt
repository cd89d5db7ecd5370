-- Two lists of answers to the same asks have one text.
use Rattle.std.proofs.Common.{◌≡◌, ◌∙◌, sym, refl, ap, ap₂, ℕ, ◌<◌, List, [], ◌∷◌, ◌++◌, length, get_or, Some, arith}
use Rattle.std.proofs.lemmas.Grind.{same_number_lists}
use Rattle.std.proofs.lemmas.List.Kept.{AllPairs-from_increasing}
use Rattle.list_facts.proofs.Rising.{same_members}
use Rattle.tableau_reading.specs.Shapes.{ShapeType, shape_weight}
use Rattle.canonical_graph.specs.Graphs.{FinishedType}
use Rattle.crystal_subsets.specs.ProductTops.{tops_beside}
use Rattle.answer_text.specs.Asks.{demazure_text, tops_text, reflection_text}
use Rattle.answer_text.specs.Answers.{ask_text}
use Rattle.ask_answers.specs.declared.values.AskAnswer.{AskAnswer}
use Rattle.ask_answers.specs.declared.values.AskAnswer.TheVariants as answer
use Rattle.job_text.specs.declared.commands.Ask.{Ask}
use Rattle.job_text.specs.declared.commands.Ask.TheVariants.{Demazure, Tops, Reflect}
use Rattle.ask_answers.specs.Answers.{IsSubset, IsImages, IsAskAnswer}
use Rattle.answer_text.specs.Laws.{AnswersAreOne}

one_subset : (f : FinishedType) (b : ℕ) (indices ranks others : List ℕ) → IsSubset f b indices ranks → IsSubset f b indices others → ranks ≡ others
one_subset f b indices ranks others p q =
    same_members ranks others (AllPairs-from_increasing ranks p.ascending) (AllPairs-from_increasing others q.ascending)
    (λ c there. (q.members c).1 ((p.members c).0 there)) (λ c there. (p.members c).1 ((q.members c).0 there))

one_list_of_images : (f : FinishedType) (i : ℕ) (images others : List ℕ) → IsImages f i images → IsImages f i others → images ≡ others
one_list_of_images f i images others p q = same_number_lists images others (p.size ∙ sym q.size) (λ rank lt.
    let below : rank < length f.codes = omega (arith, lt, p.size) in
    let same : Some (get_or images rank 0) ≡ Some (get_or others rank 0) = sym (p.each rank below) ∙ q.each rank below in
    cc)

-- the text of a value that answers an ask
demazure_told : (f : FinishedType) (b : ℕ) (indices : List ℕ) (a : AskAnswer) → IsAskAnswer f b (Demazure indices) a
    → (ranks : List ℕ) × IsSubset f b indices ranks × (ask_text f a ≡ demazure_text f indices ranks)
demazure_told f b indices (answer.Demazure said ranks) (same, is) = (ranks.items, is, ap (λ (l : List ℕ). demazure_text f l ranks.items) same)
demazure_told f b indices (answer.Tops said tops) is = absurd is
demazure_told f b indices (answer.Reflection said images) is = absurd is

tops_told : (f : FinishedType) (b : ℕ) (shape : ShapeType) (a : AskAnswer) → IsAskAnswer f b (Tops shape) a
    → ask_text f a ≡ tops_text f shape (tops_beside f (shape_weight shape))
tops_told f b shape (answer.Demazure said ranks) is = absurd is
tops_told f b shape (answer.Tops said tops) (same, are) = ap₂ (tops_text f) same are
tops_told f b shape (answer.Reflection said images) is = absurd is

images_told : (f : FinishedType) (b i : ℕ) (a : AskAnswer) → IsAskAnswer f b (Reflect i) a
    → (images : List ℕ) × IsImages f i images × (ask_text f a ≡ reflection_text i images)
images_told f b i (answer.Demazure said ranks) is = absurd is
images_told f b i (answer.Tops said tops) is = absurd is
images_told f b i (answer.Reflection said images) (same, are) = (images.items, are, ap (λ n. reflection_text n images.items) same)

one_answer : (f : FinishedType) (b : ℕ) (ask : Ask) (a other : AskAnswer) → IsAskAnswer f b ask a → IsAskAnswer f b ask other → ask_text f a ≡ ask_text f other
one_answer f b (Demazure indices) a other is like =
    let p = demazure_told f b indices a is in
    let q = demazure_told f b indices other like in
    p.2 ∙ ap (demazure_text f indices) (one_subset f b indices p.0 q.0 p.1 q.1) ∙ sym q.2
one_answer f b (Tops shape) a other is like = tops_told f b shape a is ∙ sym (tops_told f b shape other like)
one_answer f b (Reflect i) a other is like =
    let p = images_told f b i a is in
    let q = images_told f b i other like in
    p.2 ∙ ap (reflection_text i) (one_list_of_images f i p.0 q.0 p.1 q.1) ∙ sym q.2

pub answers_one : AnswersAreOne
answers_one f b [] [] [] are alike = refl
answers_one f b [] [] (other ∷ others) are alike = absurd alike
answers_one f b [] (a ∷ answers) others are alike = absurd are
answers_one f b (ask ∷ asks) [] others are alike = absurd are
answers_one f b (ask ∷ asks) (a ∷ answers) [] are alike = absurd alike
answers_one f b (ask ∷ asks) (a ∷ answers) (other ∷ others) (is, are) (like, alike) =
    ap₂ (λ xs ys. xs ++ ys) (one_answer f b ask a other is like) (answers_one f b asks answers others are alike)
