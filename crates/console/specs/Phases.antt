-- Which state of the book takes which call, and the state after it.
use Rattle.std.specs.Prelude.{Ok, Err, Result}
use Rattle.lines.specs.declared.calls.CallKind.TheVariants.{Declare, Settle, Begin, Block, Finish, Write, Shut}
use Rattle.lines.specs.declared.errors.LineError.{LineError}
use Rattle.lines.specs.declared.errors.LineError.TheVariants.{NotTaken, NotAvailable}
use Rattle.console.specs.declared.session.Stage.{Stage}
use Rattle.console.specs.declared.session.Stage.TheVariants.{Open, Settled}
use Rattle.lines.specs.Lines.{LineCall, declare, settle, begin, block, finish, write, shut}

-- A book takes declarations, or takes no more.
pub data Phase : Type 0 where
  declaring : Phase
  closed : Phase

abbrev pub phase : Stage → Phase
phase (Open book) = declaring
phase (Settled book) = closed

abbrev pub after_declare : Phase → Result Phase LineError
after_declare declaring = Ok declaring
after_declare closed = Err (NotTaken Declare)

abbrev pub after_settle : Phase → Result Phase LineError
after_settle declaring = Ok closed
after_settle closed = Err (NotTaken Settle)

-- The state after a call, or why the call is not made. A refusal leaves the state as it was, as an accepted Declare does.
abbrev pub phase_after : LineCall → Phase → Result Phase LineError
phase_after (declare kind name page) p = after_declare p
phase_after settle p = after_settle p
phase_after (begin name page) p = Err (NotAvailable Begin)
phase_after (block name commands targets) p = Err (NotAvailable Block)
phase_after finish p = Err (NotAvailable Finish)
phase_after write p = Err (NotAvailable Write)
phase_after shut p = Err (NotAvailable Shut)
