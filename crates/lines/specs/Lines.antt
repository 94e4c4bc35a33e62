-- A call as a value without references, and what a call of the program shows as one.
use Rattle.std.specs.Prelude.{ℕ, List}
use Rattle.lines.specs.declared.calls.Call.{Call}
use Rattle.lines.specs.declared.calls.Call.TheVariants.{Declare, Settle, Begin, Block, Finish, Write, Shut}
use Rattle.lines.specs.declared.errors.LineError.{LineError}

-- A call, with the numbers of its pages.
pub data LineCall : Type 0 where
  declare : ℕ → ℕ → List ℕ → LineCall
  settle : LineCall
  begin : ℕ → List ℕ → LineCall
  block : ℕ → List ℕ → List ℕ → LineCall
  finish : LineCall
  write : LineCall
  shut : LineCall

abbrev pub shown : Call → LineCall
shown (Declare kind name page) = declare kind name page.now
shown Settle = settle
shown (Begin name page) = begin name page.now
shown (Block name commands targets) = block name commands.now targets.now
shown Finish = finish
shown Write = write
shown Shut = shut

abbrev pub the_error : LineError → LineError
the_error e = e
