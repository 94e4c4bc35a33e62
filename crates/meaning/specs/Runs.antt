-- The runs of a routine in a world.
use Rattle.std.specs.Prelude.{◌≡◌, ℕ, Bool, true, false, List, [], ◌∷◌, Some, slice_set}
use Rattle.std.specs.List.{slice_get}
use Rattle.language.specs.declared.ValueType.{ValueType}
use Rattle.world.specs.Worlds.{World, OfTypes}
use Rattle.meaning.specs.Lists.{In, put}
use Rattle.meaning.specs.Routine.{Expression, Command, assign, assert, assume, havoc, call, Procedure, Routine, block, procedure, variables, view, modified_types, value, values}

-- How a run ends: a condition that was to be tested is false, an assumed one is, or it came to a return and all was well.
pub data Ending : Type 0 where
  wrong stalled returned : Ending

-- Conditions looked at in order: all are true, or the first that is not true is false.
pub data Tested {V : Type 0} (w : World V) : List V → Bool → Type 0 where
  none_left : Tested w [] true
  this_false : {v : V} {vs : List V} → v ≡ w.truth false → Tested w (v ∷ vs) false
  this_true : {v : V} {vs : List V} {b : Bool} → v ≡ w.truth true → Tested w vs b → Tested w (v ∷ vs) b

-- The values of a called procedure's requires, with the arguments, in the caller's state s.
abbrev pub on_entry : {V : Type 0} → World V → Routine → Procedure → List V → List V → List V
on_entry w r p s arguments = values w (view r s arguments []) [] p.requires

-- The values of its ensures in the state s', which has the modified globals; `old` is the state s before the call.
abbrev pub on_exit : {V : Type 0} → World V → Routine → Procedure → List V → List V → List V → List V → List V
on_exit w r p s s' arguments outs = values w (view r s' arguments outs) s p.ensures

-- A run from block k with the commands cs still to do, in the state s, and how it ends. `start` are the values at the routine's start.
pub data Run {V : Type 0} (w : World V) (r : Routine) (start : List V) : ℕ → List Command → List V → Ending → Type 0 where
  -- x := e sets x to the value of e.
  assigns : {k x : ℕ} {e : Expression} {cs : List Command} {s : List V} {o : Ending}
      → Run w r start k cs (slice_set s x (value w s [] e)) o
      → Run w r start k (assign x e ∷ cs) s o
  -- Where e is true, assert e goes on.
  asserts : {k : ℕ} {e : Expression} {cs : List Command} {s : List V} {o : Ending}
      → value w s [] e ≡ w.truth true
      → Run w r start k cs s o
      → Run w r start k (assert e ∷ cs) s o
  -- Where e is false, assert e goes wrong.
  asserts_false : {k : ℕ} {e : Expression} {cs : List Command} {s : List V}
      → value w s [] e ≡ w.truth false
      → Run w r start k (assert e ∷ cs) s wrong
  -- Where e is true, assume e goes on.
  assumes : {k : ℕ} {e : Expression} {cs : List Command} {s : List V} {o : Ending}
      → value w s [] e ≡ w.truth true
      → Run w r start k cs s o
      → Run w r start k (assume e ∷ cs) s o
  -- Where e is false, assume e stalls.
  assumes_false : {k : ℕ} {e : Expression} {cs : List Command} {s : List V}
      → value w s [] e ≡ w.truth false
      → Run w r start k (assume e ∷ cs) s stalled
  -- havoc x sets x to any value of its type.
  havocs : {k x : ℕ} {t : ValueType} {cs : List Command} {s : List V} {o : Ending}
      → slice_get (variables r) x ≡ Some t
      → (v : V) → w.belongs t v ≡ true
      → Run w r start k cs (slice_set s x v) o
      → Run w r start k (havoc x ∷ cs) s o
  -- A call tests the requires with the arguments, takes any values of their types for the modified globals and the out-parameters,
  -- assumes the ensures, with `old` before the call, and sets the receivers last.
  calls : {k p : ℕ} {es : List Expression} {xs : List ℕ} {cs : List Command} {s : List V} {o : Ending}
      → Tested w (on_entry w r (procedure r p) s (values w s [] es)) true
      → (gs outs : List V) → OfTypes w (modified_types r (procedure r p)) gs → OfTypes w (procedure r p).outs outs
      → Tested w (on_exit w r (procedure r p) s (put s (procedure r p).modifies gs) (values w s [] es) outs) true
      → Run w r start k cs (put (put s (procedure r p).modifies gs) xs outs) o
      → Run w r start k (call p es xs ∷ cs) s o
  -- Where a requires is false, the call goes wrong.
  calls_false : {k p : ℕ} {es : List Expression} {xs : List ℕ} {cs : List Command} {s : List V}
      → Tested w (on_entry w r (procedure r p) s (values w s [] es)) false
      → Run w r start k (call p es xs ∷ cs) s wrong
  -- Where an ensures is false of the values taken, it stalls.
  calls_stalled : {k p : ℕ} {es : List Expression} {xs : List ℕ} {cs : List Command} {s : List V}
      → Tested w (on_entry w r (procedure r p) s (values w s [] es)) true
      → (gs outs : List V) → OfTypes w (modified_types r (procedure r p)) gs → OfTypes w (procedure r p).outs outs
      → Tested w (on_exit w r (procedure r p) s (put s (procedure r p).modifies gs) (values w s [] es) outs) false
      → Run w r start k (call p es xs ∷ cs) s stalled
  -- At a block's end the run goes to one of the targets.
  goes : {k : ℕ} {s : List V} {o : Ending}
      → (t : ℕ) → In t (block r k).targets
      → Run w r start t (block r t).commands s o
      → Run w r start k [] s o
  -- Where there is no target, it returns: the own ensures are tested in order, with `old` at the start.
  returns : {k : ℕ} {s : List V}
      → (block r k).targets ≡ []
      → Tested w (values w s start r.own.ensures) true
      → Run w r start k [] s returned
  -- Where one of them is false, the return goes wrong.
  returns_false : {k : ℕ} {s : List V}
      → (block r k).targets ≡ []
      → Tested w (values w s start r.own.ensures) false
      → Run w r start k [] s wrong

-- The world gives each constant a value of its type.
abbrev pub HasConstants : {V : Type 0} → World V → Routine → Type 0
HasConstants w r = (n : ℕ) (t : ValueType) → slice_get r.constants n ≡ Some t → w.belongs t (w.operate 5 n []) ≡ true

-- A run of the routine in a world from given start values, and how it ends. Axioms and own requires are true.
pub record RunOf {V : Type 0} (r : Routine) (w : World V) (start : List V) (o : Ending) : Type 0 where
  pub constants_typed : HasConstants w r
  pub axioms_true : Tested w (values w [] [] r.axioms) true
  pub start_typed : OfTypes w (variables r) start
  pub requires_true : Tested w (values w start [] r.own.requires) true
  pub steps : Run w r start 0 (block r 0).commands start o
