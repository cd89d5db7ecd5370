-- The texts of whole answers, by their parts.
use Rattle.std.proofs.Common.{◌≡◌, ◌∙◌, refl, sym, ap, List, ◌++◌, ℕ, append_assoc, Option, Some, None, IfSome}
use Rattle.tensor_words.specs.Spaces.{SpaceType}
use Rattle.tableau_reading.specs.Shapes.{ShapeType, shape_space}
use Rattle.session_desk.specs.declared.reply.Reply.{Reply}
use Rattle.crystal_streams.specs.Lines.{ended}
use Rattle.answer_text.specs.Texts.{head_line, sessions_text, graph_part, end_line}
use Rattle.answer_text.specs.Modes.{census_line}
use Rattle.answer_text.specs.Answers.{asks_text, reports_text, crystal_text, crystal_part, tableaux_answer, tableaux_part}
use Rattle.answer_text.specs.declared.answers.Whole.{Whole}

regrouped : (a b c d e f : List ℕ) → ((a ++ b) ++ ((c ++ d) ++ e)) ++ f ≡ ((((a ++ b) ++ c) ++ d) ++ e) ++ f
regrouped a b c d e f =
    ap (λ (l : List ℕ). l ++ f) (sym (append_assoc (a ++ b) (c ++ d) e) ∙ ap (λ (l : List ℕ). l ++ e) (sym (append_assoc (a ++ b) c d)))

pub crystal_is : (s : SpaceType) (told : List (List Reply)) (graph : Option Whole) → IfSome graph (λ whole. whole.finished.space ≡ s)
    → ended (head_line s.cartan) ++ sessions_text s told ++ crystal_part graph ++ ended end_line ≡ crystal_text s told graph
crystal_is s told (Some whole) same =
    let f = whole.finished in
    rw (sym same)
    (regrouped (ended (head_line f.space.cartan)) (sessions_text f.space told) (graph_part f) (reports_text whole.reports.items) (asks_text f whole.asks.items) (ended end_line))
crystal_is s told None same = refl

pub census_is : (shape : ShapeType) (codes : Option (List ℕ))
    → ended (census_line shape.cartan) ++ tableaux_part (shape_space shape) codes ++ ended end_line ≡ tableaux_answer shape codes
census_is shape (Some list) = refl
census_is shape None = refl
