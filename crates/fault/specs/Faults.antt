-- The number of each ground, and the four numbers that a refusal gives, with the text that says them.
use Rattle.std.specs.Prelude.{ℕ, List, ◌++◌, Option, None, codes, decimal}
use Rattle.std.specs.Option.{unwrap_or}
use Rattle.fault.specs.declared.Ground.{Ground}
use Rattle.fault.specs.declared.Ground.TheVariants.{Form, Lists, Naming, Limit, Taken, UnknownType, UnknownProcedure, Code, NotUsable, TooFewWaiting, TooManyWaiting, WrongTypes, Remaining, Unchangeable, NotModified, Receivers, NoBlock, UnknownTarget, EarlierTarget, WorkList, SinkRefused}
use Rattle.fault.specs.declared.Place.TheVariants.{At, End}
use Rattle.fault.specs.declared.Cause.{Cause}
use Rattle.fault.specs.declared.Cause.TheVariants.{Call, Entry}
use Rattle.fault.specs.declared.Fault.{Fault}
use Rattle.fault.specs.declared.Report.{Report}

abbrev pub number_of : Ground → ℕ
number_of Form = 1
number_of Lists = 2
number_of Naming = 3
number_of Limit = 4
number_of Taken = 5
number_of UnknownType = 6
number_of UnknownProcedure = 7
number_of Code = 8
number_of NotUsable = 9
number_of TooFewWaiting = 10
number_of TooManyWaiting = 11
number_of WrongTypes = 12
number_of Remaining = 13
number_of Unchangeable = 14
number_of NotModified = 15
number_of Receivers = 16
number_of NoBlock = 17
number_of UnknownTarget = 18
number_of EarlierTarget = 19
number_of WorkList = 20
number_of SinkRefused = 21

-- A refusal of a whole call has no entry and no item; one at a page's end has the page's length and no item.
-- Where there is no block, its number is 0.
abbrev pub reported : Option ℕ → Cause → Report
reported block (Call g) = record { number = number_of g; block = unwrap_or block 0; entry = 0; item = 0 }
reported block (Entry g (At index item)) = record { number = number_of g; block = unwrap_or block 0; entry = index; item = item }
reported block (Entry g (End length)) = record { number = number_of g; block = unwrap_or block 0; entry = length; item = 0 }

abbrev pub given : Fault → Report
given f = reported f.block f.cause

-- A refusal where there is no block.
abbrev pub without_block : Cause → Fault
without_block cause = record { block = None; cause = cause }

-- The line of a refusal: its four numbers, with a blank between.
abbrev pub report_text : Report → List ℕ
report_text r =
    decimal r.number ++ (codes " " ++ (decimal r.block ++ (codes " " ++ (decimal r.entry ++ (codes " " ++ decimal r.item)))))
