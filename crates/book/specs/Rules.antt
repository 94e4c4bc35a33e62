-- When a declaration is accepted, over the book as its reader thinks of it. Each rule gives the cause of the first ground, or none.
use Rattle.std.specs.Prelude.{ℕ, ◌+◌, Bool, not, ◌||◌, List, [], ◌++◌, length, take, is_some, Some, None, Option, ◌==◌, nat_lt}
use Rattle.std.specs.List.{prefix_len}
use Rattle.fault.specs.declared.Cause.{Cause}
use Rattle.fault.specs.declared.Cause.TheVariants.{Call}
use Rattle.fault.specs.declared.Ground.TheVariants.{Naming, Limit, Taken, UnknownType, UnknownProcedure, NotUsable}
use Rattle.fault.specs.Refusals.{on_call, on_entry, refusal}
use Rattle.page.specs.declared.Entry.{Entry}
use Rattle.page.specs.Pages.{Sheet, entries_of}
use Rattle.language.specs.Checking.{checked}
use Rattle.language.specs.Expressions.{Scope}
use Rattle.records.specs.declared.lists.ClauseKind.{ClauseKind}
use Rattle.records.specs.declared.lists.ClauseKind.TheVariants.{Axiom, Requires, Ensures, Modifies}
use Rattle.records.specs.declared.lists.DeclarationKind.{DeclarationKind}
use Rattle.records.specs.declared.lists.DeclarationKind.TheVariants.{Constants, Globals, Procedure}
use Rattle.records.specs.Book.{Book, Numbered, clauses_of, constants, globals, modified, procedure_named, procedures, values}
use Rattle.records.specs.Found.{or_else}
use Rattle.records.specs.Held.{is_full}
use Rattle.names.specs.Names.{fresh, is_bare_name, is_name, is_type}
use Rattle.language.specs.Expressions.{has}

abbrev pub lefts : Sheet → List ℕ
lefts p = p.left.numbers

abbrev pub rights : Sheet → List ℕ
rights p = p.right.numbers

-- How many of a kind there are, and how many there may be.
abbrev pub count_of : DeclarationKind → Book → ℕ
count_of Constants b = length (constants b)
count_of Globals b = length (globals b)
count_of Procedure b = length (procedures b)

abbrev pub most_of : DeclarationKind → ℕ
most_of Constants = 256
most_of Globals = 64
most_of Procedure = 64

abbrev pub passes : DeclarationKind → ℕ → Book → Bool
passes kind more b = nat_lt (most_of kind) (count_of kind b + more)

-- Constants or globals. `full` says that the page entries or the records that are left do not suffice.
abbrev pub values_rule : DeclarationKind → ℕ → Sheet → Bool → Book → Option Cause
values_rule kind name p full b =
    or_else (on_call (not (name == 0)) Naming)
    (or_else (on_entry Naming (lefts p) (prefix_len is_name (lefts p)))
    (or_else (on_call (passes kind (p.a + p.b) b || full) Limit)
    (or_else (on_entry Taken (lefts p) (fresh (values b) [] (lefts p)))
    (on_entry UnknownType (lefts p) (prefix_len is_type (rights p))))))

-- A procedure; the names in one signature differ.
abbrev pub procedure_rule : ℕ → Sheet → Bool → Book → Option Cause
procedure_rule name p full b =
    or_else (on_call (not (is_name name)) Naming)
    (or_else (on_entry Naming (lefts p) (prefix_len is_name (lefts p)))
    (or_else (on_call (passes Procedure 1 b || full) Limit)
    (or_else (on_call (is_some (procedure_named name b)) Taken)
    (or_else (on_entry Taken (lefts p) (fresh [] [] (lefts p)))
    (on_entry UnknownType (lefts p) (prefix_len is_type (rights p)))))))

-- What a clause may speak of: an axiom of constants; a requires clause of in-parameters, globals and constants; an ensures clause of
-- out-parameters too, and of old globals; a modifies clause of globals.
abbrev pub scope_for : ClauseKind → Numbered → Book → Scope
scope_for Axiom q b = record { names = constants b; olds = None }
scope_for Requires q b = record { names = take q.ins q.parameters ++ values b; olds = None }
scope_for Ensures q b = record { names = q.parameters ++ values b; olds = Some (globals b) }
scope_for Modifies q b = record { names = globals b; olds = None }

-- An axiom belongs to no procedure.
abbrev pub nobody : Numbered
nobody = record { number = 0; ins = 0; parameters = [] }

abbrev pub axiom_rule : ℕ → Sheet → Bool → Book → Option Cause
axiom_rule name p full b =
    or_else (on_call (not (name == 0)) Naming)
    (or_else (on_call (is_full Axiom (length (clauses_of Axiom 0 b)) || full) Limit)
    (refusal (checked (scope_for Axiom nobody b) (entries_of p))))

-- How many clauses of a kind the procedure has; one that is missing has none.
abbrev pub stated_for : ClauseKind → Option Numbered → Book → ℕ
stated_for kind None b = 0
stated_for kind (Some q) b = length (clauses_of kind q.number b)

abbrev pub with_procedure : Option Numbered → (Numbered → Option Cause) → Option Cause
with_procedure None rule = Some (Call UnknownProcedure)
with_procedure (Some q) rule = rule q

-- A requires or an ensures clause of the named procedure.
abbrev pub condition_rule : ClauseKind → ℕ → Sheet → Bool → Book → Option Cause
condition_rule kind name p full b =
    or_else (on_call (not (is_name name)) Naming)
    (or_else (on_call (is_full kind (stated_for kind (procedure_named name b) b) || full) Limit)
    (with_procedure (procedure_named name b) (λ q. refusal (checked (scope_for kind q b) (entries_of p)))))

abbrev pub modified_so_far : Option Numbered → Book → List Entry
modified_so_far None b = []
modified_so_far (Some q) b = modified q.number b

-- A modifies clause of the named procedure; a global is named once in all of them.
abbrev pub modifies_rule : ℕ → Sheet → Bool → Book → Option Cause
modifies_rule name p full b =
    or_else (on_call (not (is_name name)) Naming)
    (or_else (on_entry Naming (lefts p) (prefix_len is_bare_name (entries_of p)))
    (or_else (on_call full Limit)
    (or_else (on_entry Taken (lefts p) (fresh (modified_so_far (procedure_named name b) b) [] (lefts p)))
    (with_procedure (procedure_named name b) (λ q. on_entry NotUsable (lefts p) (prefix_len (λ n. has n (scope_for Modifies q b).names) (lefts p)))))))
