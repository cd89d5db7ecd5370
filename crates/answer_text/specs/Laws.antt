-- Laws of texts.
use Rattle.std.specs.Prelude.{ℕ, ◌≡◌, List}
use Rattle.canonical_graph.specs.Graphs.{FinishedType}
use Rattle.job_text.specs.declared.commands.Ask.{Ask}
use Rattle.ask_answers.specs.Answers.{AreAnswers}
use Rattle.ask_answers.specs.declared.values.AskAnswer.{AskAnswer}
use Rattle.answer_text.specs.Answers.{asks_text}

-- the text of the answers is determined by the graph, the first start and the asks
abbrev pub AnswersAreOne : Type 0
AnswersAreOne =
    (f : FinishedType) (b : ℕ) (asks : List Ask) (answers others : List AskAnswer) → AreAnswers f b asks answers → AreAnswers f b asks others
    → asks_text f answers ≡ asks_text f others
