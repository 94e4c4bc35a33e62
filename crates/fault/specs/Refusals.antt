-- Tests that refuse a call or an entry.
use Rattle.std.specs.Prelude.{ℕ, Bool, true, false, cond, List, length, Some, None, Ok, Err, Option, Result, nat_lt, slice_index}
use Rattle.fault.specs.declared.Cause.{Cause}
use Rattle.fault.specs.declared.Cause.TheVariants.{Call, Entry}
use Rattle.fault.specs.declared.Ground.{Ground}
use Rattle.fault.specs.declared.Place.TheVariants.{At}

-- A ground on which the whole call is refused, where a test says so.
abbrev pub on_call : Bool → Ground → Option Cause
on_call false reason = None
on_call true reason = Some (Call reason)

-- A ground on which entry i is refused, where there is such an entry; the item is its left number.
abbrev pub on_entry : Ground → List ℕ → ℕ → Option Cause
on_entry reason left i = cond (nat_lt i (length left)) (Some (Entry reason (At i (slice_index left i)))) None

-- The cause for which a check refused, if it did.
abbrev pub refusal : {A : Type 0} → Result A Cause → Option Cause
refusal (Ok a) = None
refusal (Err cause) = Some cause
