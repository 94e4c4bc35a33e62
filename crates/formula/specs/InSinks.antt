-- The formula of a routine, told to a sink.
use Rattle.std.specs.Prelude.{◌≡◌, ℕ, suc, ◌<◌, ◌≤◌, Bool, true, false, List, length}
use Rattle.world.specs.Tells.{Tell}
use Rattle.world.specs.Worlds.{Reading}
use Rattle.meaning.specs.Bound.{T}
use Rattle.meaning.specs.Promise.{ReadingOf}
use Rattle.meaning.specs.Routine.{Routine, Sound}
use Rattle.meaning.specs.Runs.{HasConstants, RunOf, wrong}
use Rattle.meaning.specs.Telling.{Fits, start_values, told}
use Rattle.sink.specs.declared.Cause.{Cause}
use Rattle.sink.specs.Causes.{Answer}
use Rattle.sink.specs.Paths.{Follows, Stopped, entry_of}

-- The tells of the routine's telling took the sink from s to s', and e is the entry that was answered for the formula.
pub record Written {S : Type 0} (steps : S → Tell → Answer → S → Type 0) (r : Routine) (s s' : S) (e : ℕ) : Type 0 where
  pub answers : List ℕ
  pub tells : Follows steps s (told r).1 s' answers
  pub entry_is : e ≡ entry_of answers (told r).0

module _ {S V : Type 0} (watches : S → Reading V → Type 0) (entries : S → ℕ) (value : S → Reading V → ℕ → V) (takes : S → ℕ → Bool) (spare : S → ℕ) (steps : S → Tell → Answer → S → Type 0) where
  -- What the entry of a formula is worth.
  pub record Promised (r : Routine) (s s' : S) (e : ℕ) : Type 0 where
    pub is_entry : e < entries s'
    -- false in a watched reading that fits: a run with that world and those start values goes wrong
    pub false_is_wrong : (q : Reading V) → watches s q → HasConstants q.world r → Fits q r → value s' q e ≡ q.world.truth false → RunOf r q.world (start_values q r) wrong
    -- a run goes wrong: false in every watched reading of it that fits
    pub wrong_is_false : (q : Reading V) → watches s q → Fits q r → (start : List V) (d : RunOf r q.world start wrong) → ReadingOf q r d → value s' q e ≡ q.world.truth false

  -- All that is promised of formulas in a sink.
  pub record Holds : Type 0 where
    pub written : (r : Routine) → Sound r → (s s' : S) (e : ℕ) → Written steps r s s' e → Promised r s s' e
    -- answered or refused, there are at most T tells
    pub written_most : (r : Routine) → Sound r → length (told r).1 ≤ T r
    pub stopped_most : (r : Routine) → Sound r → (s s' : S) (cause : Cause) (d : Stopped steps (told r).1 s s' cause) → suc (length d.earlier) ≤ T r
    -- a sink that takes every code and has T to spare never stops a telling
    pub never_stopped : (r : Routine) → Sound r → (s s' : S) (cause : Cause) → ((c : ℕ) → takes s c ≡ true) → T r ≤ spare s → Stopped steps (told r).1 s s' cause → ⊥
