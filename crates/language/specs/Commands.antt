-- Commands of a block, their postfix form, and when they are right.
use Rattle.std.specs.Prelude.{◌≡◌, ℕ, Bool, true, false, cond, ◌&&◌, List, [], ◌∷◌, ◌++◌, map, Some, None, Option}
use Rattle.std.specs.List.{flat_map, AllByRecursion}
use Rattle.page.specs.declared.Entry.{Entry}
use Rattle.language.specs.declared.ValueType.{ValueType}
use Rattle.language.specs.Codes.{bool}
use Rattle.language.specs.Expressions.{Expression, Scope, Typed, entry, has, postfix, type_of}
use Rattle.language.specs.Lists.{Alike, member}

-- A command with its names as they are written. A call has a procedure, arguments and receivers.
pub data Command : Type 0 where
  assign : ℕ → Expression → Command
  assert : Expression → Command
  assume : Expression → Command
  havoc : ℕ → Command
  call : ℕ → List Expression → List ℕ → Command

-- The entries of a command: its expressions, then its code; the receivers of a call stand directly before it.
abbrev pub written : Command → List Entry
written (assign name e) = postfix e ++ (entry 40 name ∷ [])
written (assert e) = postfix e ++ (entry 43 0 ∷ [])
written (assume e) = postfix e ++ (entry 44 0 ∷ [])
written (havoc name) = entry 45 name ∷ []
written (call name arguments receivers) = flat_map postfix arguments ++ (map (entry 47) receivers ++ (entry 46 name ∷ []))

-- A procedure that may be called: the types of its parameters, and the globals that it modifies.
pub record Callee : Type 0 where
  pub ins : List ValueType
  pub outs : List ValueType
  pub modifies : List Entry

-- What names mean in a body. Entries are names with their types; `modifies` has the globals that the body's procedure modifies.
pub record BodyScope : Type 0 where
  pub locals : List Entry
  pub ins : List Entry
  pub outs : List Entry
  pub globals : List Entry
  pub constants : List Entry
  pub modifies : List Entry
  pub callee : ℕ → Option Callee

-- The scope of a body's expressions: look-up goes through locals, then parameters, then the rest; `old` has no place.
abbrev pub scope_in : BodyScope → Scope
scope_in b = record { names = b.locals ++ ((b.ins ++ b.outs) ++ (b.globals ++ b.constants)); olds = None }

-- What a name stands for, where a command is to change it: something of a type that may be changed; a constant or an in-parameter;
-- a global that the procedure does not modify; or nothing.
pub data Standing : Type 0 where
  changeable : ValueType → Standing
  fixed : ValueType → Standing
  unmodified : ValueType → Standing
  unknown : Standing

abbrev pub either : Option ValueType → (ValueType → Standing) → Standing → Standing
either None f rest = rest
either (Some t) f rest = f t

-- A global may be changed where the procedure modifies it.
abbrev pub global : Bool → ValueType → Standing
global true t = changeable t
global false t = unmodified t

abbrev pub standing : BodyScope → ℕ → Standing
standing b name =
    either (type_of name b.locals) changeable
    (either (type_of name b.ins) fixed
    (either (type_of name b.outs) changeable
    (either (type_of name b.globals) (global (has name b.modifies))
    (either (type_of name b.constants) fixed unknown))))

-- No name stands twice.
abbrev pub distinct : List ℕ → Bool
distinct [] = true
distinct (x ∷ xs) = cond (member x xs) false (distinct xs)

-- Are all of these among the others?
abbrev pub covered : List Entry → List Entry → Bool
covered own [] = true
covered own (e ∷ es) = has e.left own && covered own es

-- The command is right in the body: values fit their variables, only what may be changed is changed, arguments and receivers fit the
-- procedure's parameters, receivers differ, and what the procedure modifies the body's procedure modifies too.
pub data Right (b : BodyScope) : Command → Type 0 where
  an_assignment : (name : ℕ) {e : Expression} {t : ValueType} → standing b name ≡ changeable t → Typed (scope_in b) e t → Right b (assign name e)
  an_assertion : {e : Expression} → Typed (scope_in b) e bool → Right b (assert e)
  an_assumption : {e : Expression} → Typed (scope_in b) e bool → Right b (assume e)
  a_havoc : (name : ℕ) {t : ValueType} → standing b name ≡ changeable t → Right b (havoc name)
  a_call : (name : ℕ) {arguments : List Expression} {receivers : List ℕ} (q : Callee) → b.callee name ≡ Some q
      → Alike (λ e t. Typed (scope_in b) e t) arguments q.ins
      → Alike (λ n t. standing b n ≡ changeable t) receivers q.outs
      → distinct receivers ≡ true → covered b.modifies q.modifies ≡ true
      → Right b (call name arguments receivers)

-- The entries are the postfix form of right commands.
pub record CommandPage (b : BodyScope) (entries : List Entry) : Type 0 where
  pub commands : List Command
  pub is_written : entries ≡ flat_map written commands
  pub right : AllByRecursion (Right b) commands
