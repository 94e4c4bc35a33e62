-- What was found.
use Rattle.std.specs.Prelude.{Some, None, Option}
use Rattle.records.specs.declared.lists.Procedure.{Procedure}
use Rattle.records.specs.Book.{Numbered}

abbrev pub numbered : Procedure → Numbered
numbered p = record { number = p.number; ins = p.ins; parameters = p.parameters.now }

-- The first of two, if there is one.
abbrev pub or_else : {A : Type 0} → Option A → Option A → Option A
or_else None y = y
or_else (Some x) y = Some x
