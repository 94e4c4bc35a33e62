-- A routine: a procedure with its body and all that it refers to, every name looked up.
use Rattle.std.specs.Prelude.{◌≡◌, ℕ, zero, ◌<◌, true, List, [], ◌∷◌, ◌++◌, map, length, take, Some, slice_index_or}
use Rattle.std.specs.List.{AllByRecursion, slice_get}
use Rattle.language.specs.declared.ValueType.{ValueType}
use Rattle.language.specs.Codes.{bool}
use Rattle.language.specs.Lists.{Alike}
use Rattle.world.specs.Worlds.{World, result}

-- An expression. A leaf is false, true, null or a literal, with its argument; a constant goes by its number.
-- A variable goes by its place (globals, in-parameters, out-parameters, locals), and so does `old`, which is `before`.
-- Operators go by their codes.
pub data Expression : Type 0 where
  leaf : ℕ → ℕ → Expression
  constant : ℕ → Expression
  variable : ℕ → Expression
  before : ℕ → Expression
  one : ℕ → Expression → Expression
  two : ℕ → Expression → Expression → Expression

-- A command. A call has the procedure's number, the arguments and the places of the receivers.
pub data Command : Type 0 where
  assign : ℕ → Expression → Command
  assert : Expression → Command
  assume : Expression → Command
  havoc : ℕ → Command
  call : ℕ → List Expression → List ℕ → Command

-- A block goes on to one of its targets, or returns where it has none.
pub record Block : Type 0 where
  pub commands : List Command
  pub targets : List ℕ

-- A procedure: the types of its parameters, its clauses, and the places of the globals that it may modify.
pub record Procedure : Type 0 where
  pub ins : List ValueType
  pub outs : List ValueType
  pub requires : List Expression
  pub ensures : List Expression
  pub modifies : List ℕ

-- A routine: its own procedure with locals and blocks, and the declarations around it. Names are given by their types, in order.
pub record Routine : Type 0 where
  pub constants : List ValueType
  pub globals : List ValueType
  pub procedures : List Procedure
  pub axioms : List Expression
  pub own : Procedure
  pub locals : List ValueType
  pub blocks : List Block

-- What stands for a block that there is not; targets that are sound never lead to it.
abbrev pub no_block : Block
no_block = record { commands = []; targets = [] }

-- What stands for a procedure that there is not.
abbrev pub no_procedure : Procedure
no_procedure = record { ins = []; outs = []; requires = []; ensures = []; modifies = [] }

-- The block of that number.
abbrev pub block : Routine → ℕ → Block
block r k = slice_index_or r.blocks k no_block

-- The procedure of that number.
abbrev pub procedure : Routine → ℕ → Procedure
procedure r p = slice_index_or r.procedures p no_procedure

-- The types of the variables, in the order of their places.
abbrev pub variables : Routine → List ValueType
variables r = r.globals ++ (r.own.ins ++ (r.own.outs ++ r.locals))

-- What the clauses of a called procedure speak of: the globals of the state s, the arguments, the out-parameters.
abbrev pub view : {A : Type 0} → Routine → List A → List A → List A → List A
view r s arguments outs = take (length r.globals) s ++ (arguments ++ outs)

-- The types of the globals that a procedure modifies.
abbrev pub modified_types : Routine → Procedure → List ValueType
modified_types r p = map (λ g. slice_index_or r.globals g bool) p.modifies

-- The value of an expression in a world, `s` being the values of the variables now and `o` those that `old` means.
abbrev pub value : {V : Type 0} → World V → List V → List V → Expression → V
value w s o (leaf c a) = w.operate c a []
value w s o (constant n) = w.operate 5 n []
value w s o (variable x) = slice_index_or s x (w.truth true)
value w s o (before x) = slice_index_or o x (w.truth true)
value w s o (one c e) = w.operate c 0 (value w s o e ∷ [])
value w s o (two c e f) = w.operate c 0 (value w s o e ∷ value w s o f ∷ [])

-- The values of several.
abbrev pub values : {V : Type 0} → World V → List V → List V → List Expression → List V
values w s o [] = []
values w s o (e ∷ es) = value w s o e ∷ values w s o es

-- The expression is rightly typed and of that type, where constants have the types cs, variables ts, and old ones os.
pub data Typed (cs ts os : List ValueType) : Expression → ValueType → Type 0 where
  leaf_typed : (c a : ℕ) {t : ValueType} → result c [] ≡ Some t → Typed cs ts os (leaf c a) t
  constant_typed : (n : ℕ) {t : ValueType} → slice_get cs n ≡ Some t → Typed cs ts os (constant n) t
  variable_typed : (x : ℕ) {t : ValueType} → slice_get ts x ≡ Some t → Typed cs ts os (variable x) t
  before_typed : (x : ℕ) {t : ValueType} → slice_get os x ≡ Some t → Typed cs ts os (before x) t
  one_typed : (c : ℕ) {e : Expression} {t u : ValueType} → Typed cs ts os e t → result c (t ∷ []) ≡ Some u → Typed cs ts os (one c e) u
  two_typed : (c : ℕ) {e f : Expression} {t s u : ValueType} → Typed cs ts os e t → Typed cs ts os f s → result c (t ∷ s ∷ []) ≡ Some u → Typed cs ts os (two c e f) u

-- Expressions of the types beside them.
abbrev pub AllTyped : (cs ts os : List ValueType) → List Expression → List ValueType → Type 0
AllTyped cs ts os es us = Alike (λ e t. Typed cs ts os e t) es us

-- Expressions that are all of type bool, as clauses are.
abbrev pub Clauses : (cs ts os : List ValueType) → List Expression → Type 0
Clauses cs ts os es = AllByRecursion (λ e. Typed cs ts os e bool) es

-- Places of a list of types that hold the types beside them.
abbrev pub Places : List ValueType → List ℕ → List ValueType → Type 0
Places ts xs us = Alike (λ x t. slice_get ts x ≡ Some t) xs us

-- Each number is above the one before it.
abbrev pub Ascending : List ℕ → Type 0
Ascending [] = Unit {0}
Ascending (x ∷ []) = Unit {0}
Ascending (x ∷ y ∷ rest) = (x < y) × Ascending (y ∷ rest)

-- A procedure that may be called: requires speak of the globals and in-parameters, ensures of the out-parameters and old globals too.
pub record SoundProcedure (r : Routine) (p : Procedure) : Type 0 where
  pub requires_typed : Clauses r.constants (r.globals ++ (p.ins ++ [])) [] p.requires
  pub ensures_typed : Clauses r.constants (r.globals ++ (p.ins ++ p.outs)) r.globals p.ensures
  -- the globals that it modifies, by number
  pub modifies_globals : AllByRecursion (λ g. g < length r.globals) p.modifies
  pub modifies_ascend : Ascending p.modifies

-- A command that is rightly typed and without `old`. Arguments and receivers have the types of the parameters.
abbrev pub SoundCommand : Routine → Command → Type 0
SoundCommand r (assign x e) = (t : ValueType) × (slice_get (variables r) x ≡ Some t) × Typed r.constants (variables r) [] e t
SoundCommand r (assert e) = Typed r.constants (variables r) [] e bool
SoundCommand r (assume e) = Typed r.constants (variables r) [] e bool
SoundCommand r (havoc x) = (t : ValueType) × (slice_get (variables r) x ≡ Some t)
SoundCommand r (call p es xs) =
    SoundProcedure r (procedure r p)
    × AllTyped r.constants (variables r) [] es (procedure r p).ins
    × Places (variables r) xs (procedure r p).outs
    × (p < length r.procedures)

-- All of them are.
abbrev pub SoundCommands : Routine → List Command → Type 0
SoundCommands r cs = AllByRecursion (SoundCommand r) cs

-- Each target of block k is a later one of the n blocks, so that every run comes to an end.
abbrev pub TargetsLater : ℕ → ℕ → List ℕ → Type 0
TargetsLater k n ts = AllByRecursion (λ t. (k < t) × (t < n)) ts

-- A well-formed routine: some block, everything rightly typed, `old` only in ensures, targets later.
pub record Sound (r : Routine) : Type 0 where
  pub some_block : zero < length r.blocks
  pub axioms_typed : Clauses r.constants [] [] r.axioms
  pub requires_typed : Clauses r.constants (variables r) [] r.own.requires
  pub ensures_typed : Clauses r.constants (variables r) (variables r) r.own.ensures
  pub commands_sound : (k : ℕ) → k < length r.blocks → SoundCommands r (block r k).commands
  pub targets_later : (k : ℕ) → k < length r.blocks → TargetsLater k (length r.blocks) (block r k).targets
