-- Answers to asks, one by one and as a list: that they can be printed, and one more of them.
use Rattle.std.proofs.Common.{◌≡◌, ◌∙◌, sym, ap, subst, ℕ, ◌+◌, ◌≤◌, List, [], ◌∷◌, ◌++◌, length, take, slice_get, Some, All, arith}
use Rattle.std.proofs.lemmas.List.{take_more}
use Rattle.std.proofs.lemmas.List.Elements.{All-nil, All-cons, All-head, All-tail}
use Rattle.std.proofs.lemmas.Slice.Zip.{all_zipped_more}
use Rattle.std.proofs.lemmas.Option.{slice_get_within, get_or_from_slice_get}
use Rattle.crystal_cartan.specs.Types.{HasIndex}
use Rattle.tableau_reading.specs.Shapes.{shape_weight}
use Rattle.canonical_graph.specs.Graphs.{FinishedType, IsFinished}
use Rattle.ask_answers.specs.declared.values.AskAnswer.{AskAnswer}
use Rattle.ask_answers.specs.declared.values.AskAnswer.TheVariants as answer
use Rattle.job_text.specs.Jobs.{IsAsk}
use Rattle.job_text.specs.declared.commands.Ask.{Ask}
use Rattle.job_text.specs.declared.commands.Ask.TheVariants.{Demazure, Tops, Reflect}
use Rattle.ask_answers.specs.Answers.{IsAskAnswer, AreAnswers, IsPrintableAsk}
use Rattle.ask_answers.proofs.OverCodes.{subset_below}
use Rattle.ask_answers.proofs.ShapeWeights.{small_sums, ranks_below}

printable_answer : (f : FinishedType) (b : ℕ) (ask : Ask) (a : AskAnswer) → IsFinished f → IsAsk f.space ask → IsAskAnswer f b ask a → IsPrintableAsk f a
printable_answer f b (Demazure indices) (answer.Demazure said ranks) finished (each, some, few) (same, is) =
    let count : length said.items ≤ 64 = rw same few in
    (subst (λ (l : List ℕ). All (HasIndex f.space.cartan) l) (sym same) each, count, subset_below f b indices ranks.items is)
printable_answer f b (Demazure indices) (answer.Tops said tops) finished asked is = absurd is
printable_answer f b (Demazure indices) (answer.Reflection said images) finished asked is = absurd is
printable_answer f b (Tops shape) (answer.Demazure said ranks) finished asked is = absurd is
printable_answer f b (Tops shape) (answer.Tops said tops) finished (legal, type, order) (same, are) =
    (rw are (ranks_below f (shape_weight shape)), rw are (small_sums f shape finished legal))
printable_answer f b (Tops shape) (answer.Reflection said images) finished asked is = absurd is
printable_answer f b (Reflect i) (answer.Demazure said ranks) finished asked is = absurd is
printable_answer f b (Reflect i) (answer.Tops said tops) finished asked is = absurd is
printable_answer f b (Reflect i) (answer.Reflection said images) finished index (same, are) = omega (arith, are.size, finished.few)

pub printable_answers : (f : FinishedType) (b : ℕ) (asks : List Ask) (answers : List AskAnswer) → IsFinished f → All (IsAsk f.space) asks
    → AreAnswers f b asks answers → All (IsPrintableAsk f) answers
printable_answers f b [] [] finished asked are = All-nil (IsPrintableAsk f)
printable_answers f b [] (a ∷ answers) finished asked are = absurd are
printable_answers f b (ask ∷ asks) [] finished asked are = absurd are
printable_answers f b (ask ∷ asks) (a ∷ answers) finished asked (is, are) =
    All-cons (IsPrintableAsk f) a answers (printable_answer f b ask a finished (All-head (IsAsk f.space) ask asks asked) is)
    (printable_answers f b asks answers finished (All-tail (IsAsk f.space) ask asks asked) are)

-- the answers to the asks before a place, with that of the ask there
pub answers_to : (f : FinishedType) (b : ℕ) (asks : List Ask) (place : ℕ) (ask : Ask) (answers more : List AskAnswer) (a : AskAnswer) → slice_get asks place ≡ Some ask
    → AreAnswers f b (take place asks) answers → more ≡ answers ++ a ∷ [] → IsAskAnswer f b ask a → AreAnswers f b (take (place + 1) asks) more
answers_to f b asks place ask answers more a there are pushed is =
    let next : take (place + 1) asks ≡ take place asks ++ ask ∷ [] =
    take_more asks place ask (slice_get_within asks place ask there) ∙ ap (λ x. take place asks ++ x ∷ []) (get_or_from_slice_get asks place ask ask there) in
    rw (next, pushed) (all_zipped_more (IsAskAnswer f b) (take place asks) answers ask a are is)
