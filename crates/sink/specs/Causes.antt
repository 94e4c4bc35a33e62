-- What a sink answers to a tell.
use Rattle.std.specs.Prelude.{ℕ, Result}
use Rattle.sink.specs.declared.Cause.{Cause}
use Rattle.sink.specs.declared.Cause.TheVariants.{Operands, Code, Full}

-- An entry, or the cause of a refusal.
abbrev pub Answer : Type 0
Answer = Result ℕ Cause

-- The numbers by which callers know the causes.
abbrev pub cause_number : Cause → ℕ
cause_number Operands = 1
cause_number Code = 2
cause_number Full = 3
