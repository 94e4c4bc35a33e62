-- What the calls of the holder do.
use Rattle.std.specs.Prelude.{◌+◌, cond, List, [], ◌∷◌, length, Some, None, Ok, Err, Option, Result, nat_lt, slice_set}
use Rattle.holder.specs.Stack.{Holding, waits}
use Rattle.holder.specs.declared.Holder.{Holder}

abbrev pub held : {A : Type 0} → Holder A → Holding A
held h = record { places = h.places.now; used = h.used }

-- A call's answer, with the places after it.
pub record Pushed (A : Type 0) : Type 0 where
  pub answer : Result (Unit {0}) A
  pub holding : Holding A

pub record Popped (A : Type 0) : Type 0 where
  pub answer : Option A
  pub holding : Holding A

-- A value goes to the first free place; where there is none, it comes back.
abbrev pub pushed : {A : Type 0} → A → Holding A → Pushed A
pushed x h =
    cond (nat_lt h.used (length h.places))
    (record { answer = Ok tt; holding = record { places = slice_set h.places h.used x; used = h.used + 1 } })
    (record { answer = Err x; holding = h })

-- The value in front of those that wait comes out, and its place is free.
abbrev pub popped_from : {A : Type 0} → Holding A → List A → Popped A
popped_from h [] = record { answer = None; holding = h }
popped_from h (x ∷ xs) = record { answer = Some x; holding = record { places = h.places; used = length xs } }

abbrev pub popped : {A : Type 0} → Holding A → Popped A
popped h = popped_from h (waits h)
