-- Tells told to a sink one after the other, along its own steps.
use Rattle.std.specs.Prelude.{◌≡◌, ℕ, ◌+◌, ◌<◌, ◌≤◌, Bool, cond, List, [], ◌∷◌, ◌++◌, map, length, Ok, Err, ◌==◌}
use Rattle.world.specs.Tells.{Tell}
use Rattle.world.specs.Worlds.{Reading}
use Rattle.sink.specs.declared.Cause.{Cause}
use Rattle.sink.specs.Causes.{Answer}

-- The entry that was answered to tell number i, from the answers, the last one first.
abbrev pub entry_of : List ℕ → ℕ → ℕ
entry_of [] i = 0
entry_of (e ∷ es) i = cond (i == length es) e (entry_of es i)

-- A tell whose operands are numbers of earlier tells, with the answers to those in their place.
abbrev pub sent : List ℕ → Tell → Tell
sent answers t = record { code = t.code; argument = t.argument; operands = map (entry_of answers) t.operands }

-- The tells, the last one first, took the sink from s to another state and were all accepted, with these answers.
pub data Follows {S : Type 0} (steps : S → Tell → Answer → S → Type 0) (s : S) : List Tell → S → List ℕ → Type 0 where
  nothing : Follows steps s [] s []
  then : {ts : List Tell} {s₁ s₂ : S} {answers : List ℕ} {e : ℕ} (t : Tell) → Follows steps s ts s₁ answers → steps s₁ (sent answers t) (Ok e) s₂ → Follows steps s (t ∷ ts) s₂ (e ∷ answers)

-- Of all these tells, the last one first, the sink accepted the earlier ones and refused the next.
pub record Stopped {S : Type 0} (steps : S → Tell → Answer → S → Type 0) (all : List Tell) (s s' : S) (cause : Cause) : Type 0 where
  pub earlier : List Tell
  pub refused : Tell
  pub later : List Tell
  pub all_told : all ≡ later ++ (refused ∷ earlier)
  pub answers : List ℕ
  pub before : S
  pub tells : Follows steps s earlier before answers
  pub stops : steps before (sent answers refused) (Err cause) s'

-- What so many accepted tells leave of the sink as it was; the spare falls by at most their count.
pub record Kept {S V : Type 0} (watches : S → Reading V → Type 0) (entries : S → ℕ) (value : S → Reading V → ℕ → V) (takes : S → ℕ → Bool) (spare : S → ℕ) (count : ℕ) (s s' : S) : Type 0 where
  pub older : entries s ≤ entries s'
  pub watching : (q : Reading V) → (watches s q → watches s' q) × (watches s' q → watches s q)
  pub values : (q : Reading V) → watches s q → (k : ℕ) → k < entries s → value s' q k ≡ value s q k
  pub codes : (c : ℕ) → takes s' c ≡ takes s c
  pub falls : spare s ≤ spare s' + count
