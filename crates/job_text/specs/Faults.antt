-- The numbers of the faults of a job.
use Rattle.std.specs.Prelude.{ℕ}
use Rattle.job_text.specs.declared.faults.JobWhy.{JobWhy}
use Rattle.job_text.specs.declared.faults.JobWhy.TheVariants.{BadByte, BadHeader, UnknownLine, Misplaced, BadNumber, RankRange, BadShape}
use Rattle.job_text.specs.declared.faults.JobWhy.TheVariants.{BadSpace, BadWord, BadIndex, CellsRange, Missing, TooMany, TooLong, FewStarts}

-- the number that the program prints
abbrev pub why_number : JobWhy → ℕ
why_number BadByte = 1
why_number BadHeader = 2
why_number UnknownLine = 3
why_number Misplaced = 4
why_number BadNumber = 5
why_number RankRange = 6
why_number BadShape = 7
why_number BadSpace = 8
why_number BadWord = 9
why_number BadIndex = 10
why_number CellsRange = 11
why_number Missing = 12
why_number TooMany = 13
why_number TooLong = 14
why_number FewStarts = 16

-- the first fault of a text: its line, counted from 1, and why
pub record Refusal : Type 0 where
  pub line : ℕ
  pub why : JobWhy
