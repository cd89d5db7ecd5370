-- Under `census` the program lists the semistandard tableaux of a shape of type A; and `full`, with the status 3, exactly where
-- there are more than 65,536 of them.
use Rattle.std.specs.Prelude.{ℕ, List}
use Rattle.tableau_reading.specs.Shapes.{ShapeType}
use Rattle.tableau_census.specs.Outcomes.{IsListed, IsTooLarge}
use Rattle.answer_text.specs.Answers.{census_text, full_census_text}
use Rattle.crystal_shell.specs.declared.outcomes.Status.{Status}
use Rattle.crystal_shell.specs.declared.outcomes.Status.TheVariants.{Done, Full}

-- the most tableaux that are listed
abbrev pub census_limit : ℕ
census_limit = 65536

-- the status and the text that a shape calls for
pub data CallsForCensus (shape : ShapeType) : Status → List ℕ → Type 0 where
  census_listed : (list : List ℕ) → IsListed shape census_limit list → CallsForCensus shape Done (census_text shape list)
  census_full : IsTooLarge shape census_limit → CallsForCensus shape Full (full_census_text shape.cartan)
