-- The number of each kind.
use Rattle.std.specs.Prelude.{ℕ, Bool, ◌==◌}
use Rattle.records.specs.declared.lists.DeclarationKind.{DeclarationKind}
use Rattle.records.specs.declared.lists.DeclarationKind.TheVariants.{Constants, Globals, Procedure}
use Rattle.records.specs.declared.lists.ClauseKind.{ClauseKind}
use Rattle.records.specs.declared.lists.ClauseKind.TheVariants.{Axiom, Requires, Ensures, Modifies}

abbrev pub declaration_number : DeclarationKind → ℕ
declaration_number Constants = 3
declaration_number Globals = 4
declaration_number Procedure = 6

abbrev pub clause_number : ClauseKind → ℕ
clause_number Axiom = 7
clause_number Requires = 8
clause_number Ensures = 9
clause_number Modifies = 10

abbrev pub same_declaration : DeclarationKind → DeclarationKind → Bool
same_declaration k l = declaration_number k == declaration_number l

abbrev pub same_clause : ClauseKind → ClauseKind → Bool
same_clause k l = clause_number k == clause_number l
