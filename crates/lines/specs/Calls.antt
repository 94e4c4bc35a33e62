-- Which call the numbers of a line make.
use Rattle.std.specs.Prelude.{ℕ, ◌+◌, ◌*◌, min, cond, List, [], ◌∷◌, length, take, drop, Some, None, Ok, Err, codes, Option, Result, ◌==◌}
use Rattle.std.specs.Option.{ok_or}
use Rattle.lines.specs.declared.calls.CallKind.{CallKind}
use Rattle.lines.specs.declared.calls.CallKind.TheVariants.{Declare, Settle, Begin, Block, Finish, Write, Shut}
use Rattle.lines.specs.declared.errors.LineError.{LineError}
use Rattle.lines.specs.declared.errors.LineError.TheVariants.{NoCall, UnknownCall, MissingArguments, SurplusArguments, NotZero}
use Rattle.lines.specs.Lines.{LineCall, declare, settle, begin, block, finish, write, shut}

abbrev pub number_of : CallKind → ℕ
number_of Declare = 1
number_of Settle = 2
number_of Begin = 3
number_of Block = 4
number_of Finish = 5
number_of Write = 6
number_of Shut = 7

abbrev pub name_of : CallKind → List ℕ
name_of Declare = codes "Declare"
name_of Settle = codes "Settle"
name_of Begin = codes "Begin"
name_of Block = codes "Block"
name_of Finish = codes "Finish"
name_of Write = codes "Write"
name_of Shut = codes "Shut"

abbrev pub kind_of : ℕ → Option CallKind
kind_of n =
    cond (n == 1) (Some Declare) (cond (n == 2) (Some Settle) (cond (n == 3) (Some Begin) (cond (n == 4) (Some Block)
    (cond (n == 5) (Some Finish) (cond (n == 6) (Some Write) (cond (n == 7) (Some Shut) None))))))

-- The call of a number, or the error that there is none.
abbrev pub called : ℕ → Result CallKind LineError
called n = ok_or (kind_of n) (UnknownCall n)

abbrev pub kind_of_call : LineCall → CallKind
kind_of_call (declare kind name page) = Declare
kind_of_call settle = Settle
kind_of_call (begin name page) = Begin
kind_of_call (block name commands targets) = Block
kind_of_call finish = Finish
kind_of_call write = Write
kind_of_call shut = Shut

-- A kind, a name, and the page, which is the rest.
abbrev pub declare_of : List ℕ → Result LineCall LineError
declare_of [] = Err (MissingArguments Declare)
declare_of (kind ∷ []) = Err (MissingArguments Declare)
declare_of (kind ∷ name ∷ page) = Ok (declare kind name page)

-- A name, and the page, which is the rest.
abbrev pub begin_of : List ℕ → Result LineCall LineError
begin_of [] = Err (MissingArguments Begin)
begin_of (name ∷ page) = Ok (begin name page)

-- How many numbers the command page has: its own two sizes say it, where there are so many numbers; else it has them all.
abbrev pub command_end : List ℕ → ℕ
command_end [] = 0
command_end (a ∷ []) = 1
command_end (a ∷ b ∷ rest) = min (2 + 2 * (a + b)) (length (a ∷ b ∷ rest))

-- A name, the command page, and the target page behind it.
abbrev pub block_of : List ℕ → Result LineCall LineError
block_of [] = Err (MissingArguments Block)
block_of (name ∷ pages) = Ok (block name (take (command_end pages) pages) (drop (command_end pages) pages))

-- The number 0, and nothing else.
abbrev pub finish_of : List ℕ → Result LineCall LineError
finish_of [] = Err (MissingArguments Finish)
finish_of (n ∷ []) = cond (n == 0) (Ok finish) (Err (NotZero Finish))
finish_of (n ∷ m ∷ rest) = Err (SurplusArguments Finish)

-- A call without arguments.
abbrev pub only : CallKind → LineCall → List ℕ → Result LineCall LineError
only kind call [] = Ok call
only kind call (n ∷ rest) = Err (SurplusArguments kind)

-- The call of a kind, with the numbers behind the call's own.
abbrev pub call_of : CallKind → List ℕ → Result LineCall LineError
call_of Declare rest = declare_of rest
call_of Settle rest = only Settle settle rest
call_of Begin rest = begin_of rest
call_of Block rest = block_of rest
call_of Finish rest = finish_of rest
call_of Write rest = only Write write rest
call_of Shut rest = only Shut shut rest

abbrev pub call_if : ℕ → Option CallKind → List ℕ → Result LineCall LineError
call_if n None rest = Err (UnknownCall n)
call_if n (Some kind) rest = call_of kind rest

-- The call that the numbers of a line make: the first number says which, the others are its arguments.
abbrev pub line_of : List ℕ → Result LineCall LineError
line_of [] = Err NoCall
line_of (n ∷ rest) = call_if n (kind_of n) rest
