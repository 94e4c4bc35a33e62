-- What the formula of a routine says of its runs.
use Rattle.std.specs.Prelude.{◌≡◌, ℕ, suc, ◌+◌, ◌<◌, ◌≤◌, true, false, List, length}
use Rattle.world.specs.Worlds.{World, Reading}
use Rattle.meaning.specs.Routine.{Command, Routine, Sound, variables}
use Rattle.meaning.specs.Runs.{Run, RunOf, Ending, wrong, assigns, asserts, asserts_false, assumes, assumes_false, havocs, calls, calls_false, calls_stalled, goes, returns, returns_false, HasConstants}
use Rattle.meaning.specs.Telling.{told, formula_value, Lawful, place, start_values, symbols_at, Fits}
use Rattle.meaning.specs.Bound.{T}

-- The reading has each value that the run takes, and those that it brings into a block, at the symbols told for them. `n` is the number of the next symbol.
abbrev pub Shows : {V : Type 0} (q : Reading V) (r : Routine) {start : List V} {k : ℕ} {cs : List Command} {s : List V} {o : Ending} → ℕ → Run q.world r start k cs s o → Type 0
Shows q r n (assigns d) = Shows q r n d
Shows q r n (asserts h d) = Shows q r n d
Shows q r n (asserts_false h) = Unit {0}
Shows q r n (assumes h d) = Shows q r n d
Shows q r n (assumes_false h) = Unit {0}
Shows q r n (havocs g v h d) = (q.symbol n ≡ v) × Shows q r (suc n) d
Shows q r n (calls h gs outs g o e d) = (symbols_at q n (length gs) ≡ gs) × (symbols_at q (n + length gs) (length outs) ≡ outs) × Shows q r (n + length gs + length outs) d
Shows q r n (calls_false h) = Unit {0}
Shows q r n (calls_stalled h gs outs g o e) = (symbols_at q n (length gs) ≡ gs) × (symbols_at q (n + length gs) (length outs) ≡ outs)
Shows q r n (goes {s = s} t i d) = (symbols_at q (place r t).first (length (variables r)) ≡ s) × Shows q r ((place r t).first + length (variables r)) d
Shows q r n (returns h e) = Unit {0}
Shows q r n (returns_false h e) = Unit {0}

-- The reading is one of the run: it begins with the run's start values and has all that the run takes.
abbrev pub ReadingOf : {V : Type 0} (q : Reading V) (r : Routine) {start : List V} {o : Ending} → RunOf r q.world start o → Type 0
ReadingOf q r {start} d = (start_values q r ≡ start) × Shows q r (length (variables r)) d.steps

-- Where the formula is false in a reading that fits, a run from the reading's start values goes wrong.
abbrev pub FalseIsWrong : Type 0 → Type 0
FalseIsWrong V = (r : Routine) → Sound r → (q : Reading V) → HasConstants q.world r → Fits q r
    → formula_value q r ≡ q.world.truth false
    → RunOf r q.world (start_values q r) wrong

-- Where a run goes wrong, the formula is false in each fitting reading of the run.
abbrev pub WrongIsFalse : Type 0 → Type 0
WrongIsFalse V = (r : Routine) → Sound r → (q : Reading V) → Fits q r
    → (start : List V) (d : RunOf r q.world start wrong) → ReadingOf q r d
    → formula_value q r ≡ q.world.truth false

-- Every run, however it ends, has a reading that fits: values for the symbols with which the formula speaks of that run.
abbrev pub HasReading : Type 0 → Type 0
HasReading V = (r : Routine) → Sound r → (w : World V) (start : List V) (o : Ending) (d : RunOf r w start o)
    → (symbol : ℕ → V) × Fits (record { world = w; symbol = symbol }) r × ReadingOf (record { world = w; symbol = symbol }) r d

-- The formula is true in every fitting reading of the world. A prover that answers "valid" says so of each world.
abbrev pub TrueIn : {V : Type 0} → World V → Routine → Type 0
TrueIn {V} w r = HasConstants w r → (symbol : ℕ → V) → Fits (record { world = w; symbol = symbol }) r
    → formula_value (record { world = w; symbol = symbol }) r ≡ w.truth true

-- Where that is so, no run in the world goes wrong, whatever values it starts from: this is what lets a prover's "valid" be trusted.
abbrev pub TrueIsRight : Type 0 → Type 0
TrueIsRight V = (r : Routine) → Sound r → (w : World V) → TrueIn w r → (start : List V) → RunOf r w start wrong → ⊥

-- Every tell of a formula is one that a fitting reading binds, and the formula is one of the tells.
abbrev pub ToldLawfully : Type 0 → Type 0
ToldLawfully V = (r : Routine) → Sound r → (q : Reading V) → HasConstants q.world r → Fits q r
    → Lawful q (told r).1 × ((told r).0 < length (told r).1)

-- All that is promised of formulas, for values of a type V.
pub record Promises (V : Type 0) : Type 0 where
  pub false_is_wrong : FalseIsWrong V
  pub wrong_is_false : WrongIsFalse V
  pub has_reading : HasReading V
  pub true_is_right : TrueIsRight V
  pub told_lawfully : ToldLawfully V
  pub at_most_t : (r : Routine) → Sound r → length (told r).1 ≤ T r
