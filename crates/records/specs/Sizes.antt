-- Sizes as the records tell them.
use Rattle.std.specs.Prelude.{◌≡◌, ℕ, ◌+◌, ◌≤◌, Bool, true, cond, ◌&&◌, ◌||◌, List, [], ◌∷◌, Some, None, Option, nat_le, nat_lt, slice_index}
use Rattle.records.specs.declared.lists.Clause.{Clause}
use Rattle.records.specs.declared.lists.ClauseKind.{ClauseKind}
use Rattle.records.specs.declared.lists.ClauseKind.TheVariants.{Axiom, Requires, Ensures, Modifies}
use Rattle.records.specs.declared.lists.Declaration.{Declaration}
use Rattle.records.specs.declared.lists.DeclarationKind.{DeclarationKind}
use Rattle.records.specs.declared.lists.DeclarationKind.TheVariants.{Constants, Globals, Procedure}
use Rattle.records.specs.declared.lists.Totals.{Totals}
use Rattle.records.specs.Kinds.{same_clause, same_declaration}
use Rattle.records.specs.Held.{count_of, declarations_fit}

-- How many constants, or globals, a list of records declares.
abbrev pub size_of : DeclarationKind → List Declaration → ℕ
size_of kind [] = 0
size_of kind (d ∷ ds) = cond (same_declaration d.kind kind) (d.a + d.b) 0 + size_of kind ds

abbrev pub procedure_count : List Declaration → ℕ
procedure_count [] = 0
procedure_count (d ∷ ds) = cond (same_declaration d.kind Procedure) 1 0 + procedure_count ds

-- These totals, with what a list of records declares.
abbrev pub adding : Totals → List Declaration → Totals
adding t ds = record {
  constants = t.constants + size_of Constants ds;
  globals = t.globals + size_of Globals ds;
  procedures = t.procedures + procedure_count ds;
}

abbrev pub few : Totals → Bool
few t = nat_le t.constants 256 && (nat_le t.globals 64 && nat_le t.procedures 64)

pub record Few (t : Totals) : Type 0 where
  pub constants : t.constants ≤ 256
  pub globals : t.globals ≤ 64
  pub procedures : t.procedures ≤ 64

-- One record more.
abbrev pub counting : Declaration → Totals → Totals
counting d t = record {
  constants = t.constants + cond (same_declaration d.kind Constants) (d.a + d.b) 0;
  globals = t.globals + cond (same_declaration d.kind Globals) (d.a + d.b) 0;
  procedures = t.procedures + cond (same_declaration d.kind Procedure) 1 0;
}

-- These totals with those of the records, where all records fit and the totals are within the limits.
abbrev pub surveyed : ℕ → Totals → List Declaration → Option Totals
surveyed count t ds = cond (declarations_fit count ds && few (adding t ds)) (Some (adding t ds)) None

abbrev pub none : Totals
none = record { constants = 0; globals = 0; procedures = 0 }

-- The row of a tally in which a clause counts; clauses that share a limit share a row.
abbrev pub row_of : ClauseKind → ℕ → ℕ
row_of Axiom procedure = 0
row_of Requires procedure = 1 + procedure
row_of Ensures procedure = 65 + procedure
row_of Modifies procedure = 129 + procedure

-- The clause lies in the table, fills at most one page, and is an axiom or of one of so many procedures.
abbrev pub lies : ℕ → ℕ → Clause → Bool
lies count procedures c =
    nat_le (c.start + c.count) count && (nat_le c.count 1024 && (same_clause c.kind Axiom || nat_lt c.procedure procedures))

-- A clause that has a row: an axiom, or of one of the first 64 procedures.
abbrev pub has_row : ClauseKind → ℕ → Bool
has_row kind procedure = same_clause kind Axiom || nat_lt procedure 64

-- The rows count these clauses.
abbrev pub Tallied : List ℕ → List Clause → Type 0
Tallied tally cs = (kind : ClauseKind) (procedure : ℕ) → has_row kind procedure ≡ true → slice_index tally (row_of kind procedure) ≡ count_of kind procedure cs
