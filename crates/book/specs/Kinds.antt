-- The kinds that Declare takes.
use Rattle.std.specs.Prelude.{ℕ, cond, Ok, Err, Result, ◌==◌}
use Rattle.fault.specs.declared.Cause.{Cause}
use Rattle.fault.specs.declared.Cause.TheVariants.{Call}
use Rattle.fault.specs.declared.Ground.TheVariants.{Form}
use Rattle.book.specs.declared.kinds.ConditionKind.{ConditionKind}
use Rattle.book.specs.declared.kinds.ConditionKind.TheVariants.{Requires as A_requires, Ensures as An_ensures}
use Rattle.book.specs.declared.kinds.Kind.{Kind}
use Rattle.book.specs.declared.kinds.Kind.TheVariants.{Declaration, Clause}
use Rattle.records.specs.declared.lists.ClauseKind.{ClauseKind}
use Rattle.records.specs.declared.lists.ClauseKind.TheVariants.{Axiom, Requires, Ensures, Modifies}
use Rattle.records.specs.declared.lists.DeclarationKind.TheVariants.{Constants, Globals, Procedure}

-- By its number.
abbrev pub kind_of : ℕ → Result Kind Cause
kind_of n =
    cond (n == 3) (Ok (Declaration Constants))
    (cond (n == 4) (Ok (Declaration Globals))
    (cond (n == 6) (Ok (Declaration Procedure))
    (cond (n == 7) (Ok (Clause Axiom))
    (cond (n == 8) (Ok (Clause Requires))
    (cond (n == 9) (Ok (Clause Ensures))
    (cond (n == 10) (Ok (Clause Modifies))
    (Err (Call Form))))))))

-- A condition is a clause of its kind.
abbrev pub clause_kind : ConditionKind → ClauseKind
clause_kind A_requires = Requires
clause_kind An_ensures = Ensures
