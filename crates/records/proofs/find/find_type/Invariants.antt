use Rattle.std.proofs.Common.{◌≡◌, drop}
use Rattle.language.specs.Expressions.{type_of}
use Rattle.records.proofs.find.find_type.Given as goal

abbrev pub invariant-loop-entry : goal.invariant-loop-entry
invariant-loop-entry l = type_of l.name (drop l.entry-index l.entries) ≡ type_of l.name l.entries
