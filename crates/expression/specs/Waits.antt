-- What waits after a step of the check.
use Rattle.std.specs.Prelude.{List, Ok, Err, Result}
use Rattle.fault.specs.declared.Ground.{Ground}
use Rattle.language.specs.declared.ValueType.{ValueType}
use Rattle.language.specs.Checking.{Waiting}
use Rattle.holder.specs.Holding.{held}
use Rattle.holder.specs.Stack.{waits}
use Rattle.expression.specs.declared.waiting.Waiting.{Waiting as Waiters}

-- The types that wait, the last to come in front.
abbrev pub waiting_in : Waiters → List ValueType
waiting_in w = waits (held w.types)

-- The ground of a refusal, or else what waits now.
abbrev pub outcome : {A : Type 0} → Result A Ground → List ValueType → Waiting
outcome (Ok a) waiting = Ok waiting
outcome (Err reason) waiting = Err reason
