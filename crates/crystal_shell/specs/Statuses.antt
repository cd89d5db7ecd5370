-- The numbers with which the program ends.
use Rattle.std.specs.Prelude.{ℕ}
use Rattle.crystal_shell.specs.declared.outcomes.NoAnswer.{NoAnswer}
use Rattle.crystal_shell.specs.declared.outcomes.NoAnswer.TheVariants.{ReadFault, NoMemory}
use Rattle.crystal_shell.specs.declared.outcomes.Status.{Status}
use Rattle.crystal_shell.specs.declared.outcomes.Status.TheVariants.{Done, WordsRefused, JobRefused, Full}

-- the status of an answer that is written whole: 0 done, 1 words refused, 2 job refused, 3 full
abbrev pub status_number : Status → ℕ
status_number Done = 0
status_number WordsRefused = 1
status_number JobRefused = 2
status_number Full = 3

-- without an answer: 4 a read failed, 6 want of memory
abbrev pub no_answer_number : NoAnswer → ℕ
no_answer_number ReadFault = 4
no_answer_number NoMemory = 6
