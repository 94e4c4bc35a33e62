-- The line that a traced call prints, but for its end.
use Rattle.std.specs.Prelude.{ℕ, List, ◌++◌, codes, decimal}
use Rattle.fault.specs.Faults.{report_text}
use Rattle.console.specs.declared.outcomes.Outcome.{Outcome}
use Rattle.console.specs.declared.outcomes.Outcome.TheVariants.{Declared, Settled, Refused}
use Rattle.lines.specs.Calls.{number_of}

abbrev pub outcome_text : Outcome → List ℕ
outcome_text (Declared number) = codes "1 ok " ++ decimal number
outcome_text Settled = codes "2 ok"
outcome_text (Refused call report) = decimal (number_of call) ++ (codes " refused " ++ report_text report)
