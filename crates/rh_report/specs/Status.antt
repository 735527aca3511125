-- The numbers and the lines of statuses.
use Rattle.std.specs.Prelude.{ℕ, List, [], ◌++◌, codes}
use Rattle.std.specs.Fmt.{decimal}
use Rattle.rh_report.specs.declared.status.Part.{Part}
use Rattle.rh_report.specs.declared.status.Part.TheVariants.{Rules, Program, Log}
use Rattle.rh_report.specs.declared.status.Large.{Large}
use Rattle.rh_report.specs.declared.status.Large.TheVariants.{Terms, Facts, Words}
use Rattle.rh_report.specs.declared.status.Status.{Status}
use Rattle.rh_report.specs.declared.status.Status.TheVariants.{Done, Usage, ReadFault, TooLong, BadRules, BadProgram, TooLarge, WriteFault, BadLog, NoMemory}
use Rattle.rh_report.specs.Faults.{out_of_memory, program_fault_text, rules_fault_text}

abbrev pub number_of : Status → ℕ
number_of Done = 0
number_of (Usage place) = 2
number_of (ReadFault part) = 3
number_of (TooLong part) = 4
number_of (BadRules fault) = 5
number_of (BadProgram fault) = 6
number_of (TooLarge large) = 7
number_of (WriteFault count) = 8
number_of (BadLog line) = 9
number_of NoMemory = 10

abbrev pub part_name : Part → List ℕ
part_name Rules = codes "rules"
part_name Program = codes "program"
part_name Log = codes "log"

abbrev pub large_text : Large → List ℕ
large_text (Terms rule count) = decimal count ++ codes " terms at rule " ++ decimal rule
large_text (Facts proc count) = decimal count ++ codes " facts at procedure " ++ decimal proc
large_text (Words count) = decimal count ++ codes " words"

-- what a refusal says, without the program's name
abbrev pub reason_of : Status → List ℕ
reason_of Done = []
reason_of (Usage place) = codes "usage: word " ++ decimal place
reason_of (ReadFault part) = codes "cannot read: " ++ part_name part
reason_of (TooLong part) = codes "too long: " ++ part_name part
reason_of (BadRules fault) = codes "rules: " ++ rules_fault_text fault
reason_of (BadProgram fault) = codes "program: " ++ program_fault_text fault
reason_of (TooLarge large) = codes "too large: " ++ large_text large
reason_of (WriteFault count) = codes "cannot write after " ++ decimal count
reason_of (BadLog line) = codes "log: line " ++ decimal line
reason_of NoMemory = out_of_memory

-- the line that tells a refusal
abbrev pub line_of : Status → List ℕ
line_of Done = []
line_of status = codes "rhodium: " ++ reason_of status ++ codes "\n"
