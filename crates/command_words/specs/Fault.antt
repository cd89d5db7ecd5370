-- The numbers of the faults of command words.
use Rattle.std.specs.Prelude.{ℕ, Option, Some, None}
use Rattle.command_words.specs.declared.fault.WordsFault.{WordsFault}
use Rattle.command_words.specs.declared.fault.WordsFault.TheVariants.{Dashed, Missing, UnknownMode}
use Rattle.command_words.specs.declared.fault.WordsFault.TheVariants.{BadGrowers, UnknownStatistic}
use Rattle.command_words.specs.declared.fault.WordsFault.TheVariants.{RepeatedStatistic, BadSample}
use Rattle.command_words.specs.declared.fault.WordsFault.TheVariants.{BadCensus, BadMatch, WideExtra, NoMemory}

-- the number that the program prints for the fault
abbrev pub fault_number : WordsFault → Option ℕ
fault_number Dashed = Some 1
fault_number Missing = Some 2
fault_number UnknownMode = Some 3
fault_number BadGrowers = Some 4
fault_number UnknownStatistic = Some 5
fault_number RepeatedStatistic = Some 6
fault_number BadSample = Some 7
fault_number BadCensus = Some 9
fault_number BadMatch = Some 10
fault_number WideExtra = Some 11
fault_number NoMemory = None
