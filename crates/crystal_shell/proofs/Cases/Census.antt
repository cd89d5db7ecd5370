-- What the mode `census` answers, and that it is determined.
use Rattle.std.proofs.Common.{◌≡◌, ℕ, List, Some, None, ap, refl}
use Rattle.answer_text.specs.Answers.{answer_bytes, census_text, full_census_text}
use Rattle.answer_text.specs.declared.answers.Answer.{Answer}
use Rattle.tableau_reading.specs.Shapes.{ShapeType}
use Rattle.tableau_census.specs.Outcomes.{IsListed, IsTooLarge}
use Rattle.crystal_shell.specs.Modes.Census.{CallsForCensus, census_limit, census_full, census_listed}
use Rattle.crystal_shell.specs.declared.outcomes.Status.{Status}
use Rattle.crystal_shell.specs.declared.outcomes.Status.TheVariants.{Done, Full}
use Rattle.tableau_census.proofs.Determined.{list_unique, not_both}
use Rattle.answer_text.specs.declared.answers.Answer.TheVariants as answer

pub listed_counts : (shape : ShapeType) (list : List ℕ) (s : Status) (a : Answer) → IsListed shape census_limit list → s ≡ Done → a ≡ answer.Tableaux shape (Some list)
    → CallsForCensus shape s (answer_bytes a)
listed_counts shape list s a is status told =
    let base : CallsForCensus shape Done (census_text shape list) = census_listed list is in
    rw (status, told) base

pub many_counts : (shape : ShapeType) (s : Status) (a : Answer) → IsTooLarge shape census_limit → s ≡ Full → a ≡ answer.Tableaux shape None → CallsForCensus shape s (answer_bytes a)
many_counts shape s a many status told =
    let base : CallsForCensus shape Full (full_census_text shape.cartan) = census_full many in
    rw (status, told) base

pub counts_one : (shape : ShapeType) (s t : Status) (x y : List ℕ) → CallsForCensus shape s x → CallsForCensus shape t y → (s ≡ t) × (x ≡ y)
counts_one shape s t x y (census_listed list is) (census_listed other is') = (refl, ap (census_text shape) (list_unique shape census_limit list other is is'))
counts_one shape s t x y (census_listed list is) (census_full many) = absurd (not_both shape census_limit list is many)
counts_one shape s t x y (census_full many) (census_listed list is) = absurd (not_both shape census_limit list is many)
counts_one shape s t x y (census_full many) (census_full many') = (refl, refl)
