-- That the promises are not empty: a world in which every reading fits, a routine that fails and one that does not.
use Rattle.std.specs.Prelude.{◌≡◌, ℕ, Bool, true, false, List, [], ◌∷◌}
use Rattle.world.specs.Worlds.{World, Reading}
use Rattle.meaning.specs.Routine.{leaf, Command, assert, assume, Routine, no_procedure, Sound}
use Rattle.meaning.specs.Runs.{wrong, HasConstants, RunOf}
use Rattle.meaning.specs.Telling.{formula_value, Fits}

-- A routine of one block and nothing else.
abbrev pub just_one : List Command → Routine
just_one cs = record { constants = []; globals = []; procedures = []; axioms = []; own = no_procedure; locals = []; blocks = record { commands = cs; targets = [] } ∷ [] }

-- assert false
abbrev pub fails : Routine
fails = just_one (assert (leaf 1 0) ∷ [])

-- assume false; assert false
abbrev pub succeeds : Routine
succeeds = just_one (assume (leaf 1 0) ∷ assert (leaf 1 0) ∷ [])

-- A world in which every reading fits every routine, and constants have their types.
pub record AllFits (V : Type 0) : Type 0 where
  pub world : World V
  pub constants_typed : (r : Routine) → HasConstants world r
  pub fits : (symbol : ℕ → V) (r : Routine) → Fits (record { world = world; symbol = symbol }) r

-- Both routines are sound. In every world one has a run that goes wrong, and in every reading its formula is false; that of the other is true.
pub record Examples (V : Type 0) : Type 0 where
  pub fails_sound : Sound fails
  pub fails_wrong : (w : World V) → RunOf fails w [] wrong
  pub fails_false : (q : Reading V) → formula_value q fails ≡ q.world.truth false
  pub succeeds_sound : Sound succeeds
  pub succeeds_true : (q : Reading V) → formula_value q succeeds ≡ q.world.truth true

-- Both over the truth values themselves.
pub record NotVacuous : Type 0 where
  pub all_fits : AllFits Bool
  pub examples : Examples Bool
