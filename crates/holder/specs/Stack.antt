-- A stack in lent places.
use Rattle.std.specs.Prelude.{ℕ, List, reverse, length, take}

-- The places, and how many of them, from the first on, hold a value that waits.
pub record Holding (A : Type 0) : Type 0 where
  pub places : List A
  pub used : ℕ

-- What waits, the last to come in front.
abbrev pub waits : {A : Type 0} → Holding A → List A
waits h = reverse (take h.used h.places)

-- How many values may wait.
abbrev pub room : {A : Type 0} → Holding A → ℕ
room h = length h.places
