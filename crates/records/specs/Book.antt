-- A book: what was declared and what was stated, each with the entries of its page.
use Rattle.std.specs.Prelude.{ℕ, ◌+◌, Bool, cond, ◌&&◌, ◌||◌, List, [], ◌∷◌, ◌++◌, Some, None, Option, ◌==◌}
use Rattle.std.specs.List.{flat_map}
use Rattle.page.specs.declared.Entry.{Entry}
use Rattle.records.specs.declared.lists.DeclarationKind.{DeclarationKind}
use Rattle.records.specs.declared.lists.DeclarationKind.TheVariants.{Constants, Globals, Procedure}
use Rattle.records.specs.declared.lists.ClauseKind.{ClauseKind}
use Rattle.records.specs.declared.lists.ClauseKind.TheVariants.{Axiom, Modifies}
use Rattle.records.specs.Kinds.{same_declaration, same_clause}

-- Constants, globals, or a procedure with so many in-parameters. An entry is a name and the number of its type.
pub record Declared : Type 0 where
  pub kind : DeclarationKind
  pub name : ℕ
  pub ins : ℕ
  pub entries : List Entry

-- An axiom, or a clause of the procedure of that number.
pub record Stated : Type 0 where
  pub kind : ClauseKind
  pub procedure : ℕ
  pub entries : List Entry

-- Everything in the order in which it came.
pub record Book : Type 0 where
  pub declarations : List Declared
  pub clauses : List Stated

-- All constants, or all globals.
abbrev pub of_kind : DeclarationKind → Declared → List Entry
of_kind kind d = cond (same_declaration d.kind kind) d.entries []

abbrev pub declared_as : DeclarationKind → List Declared → List Entry
declared_as kind ds = flat_map (of_kind kind) ds

abbrev pub constants : Book → List Entry
constants b = declared_as Constants b.declarations

abbrev pub globals : Book → List Entry
globals b = declared_as Globals b.declarations

-- Constants and globals have their names together.
abbrev pub values : Book → List Entry
values b = globals b ++ constants b

abbrev pub procedures_in : List Declared → List Declared
procedures_in [] = []
procedures_in (d ∷ ds) = cond (same_declaration d.kind Procedure) (d ∷ procedures_in ds) (procedures_in ds)

abbrev pub procedures : Book → List Declared
procedures b = procedures_in b.declarations

-- A procedure and its number; its parameters are the in-parameters and then the out-parameters.
pub record Numbered : Type 0 where
  pub number : ℕ
  pub ins : ℕ
  pub parameters : List Entry

abbrev pub numbered_from : ℕ → ℕ → List Declared → Option Numbered
numbered_from number name [] = None
numbered_from number name (p ∷ ps) =
    cond (p.name == name)
    (Some (record { number = number; ins = p.ins; parameters = p.entries }))
    (numbered_from (number + 1) name ps)

-- The procedure of that name.
abbrev pub procedure_named : ℕ → Book → Option Numbered
procedure_named name b = numbered_from 0 name (procedures b)

-- Is it a clause of that kind, and of that procedure where it is no axiom?
abbrev pub belongs : ClauseKind → ℕ → ClauseKind → ℕ → Bool
belongs kind procedure k p = same_clause k kind && (same_clause kind Axiom || p == procedure)

abbrev pub stated_as : ClauseKind → ℕ → List Stated → List Stated
stated_as kind procedure [] = []
stated_as kind procedure (c ∷ cs) =
    cond (belongs kind procedure c.kind c.procedure) (c ∷ stated_as kind procedure cs) (stated_as kind procedure cs)

-- The clauses of a kind of the procedure of that number, or the axioms.
abbrev pub clauses_of : ClauseKind → ℕ → Book → List Stated
clauses_of kind procedure b = stated_as kind procedure b.clauses

-- The globals that a procedure's modifies clauses name.
abbrev pub modified_by : ℕ → Stated → List Entry
modified_by procedure c = cond (belongs Modifies procedure c.kind c.procedure) c.entries []

abbrev pub modified : ℕ → Book → List Entry
modified procedure b = flat_map (modified_by procedure) b.clauses
