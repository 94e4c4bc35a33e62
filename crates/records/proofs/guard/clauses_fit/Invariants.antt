use Rattle.std.proofs.Common.{◌≡◌, [], length, take, drop}
use Rattle.records.specs.Held.{clauses_fit}
use Rattle.records.specs.Sizes.{Tallied}
use Rattle.records.proofs.guard.clauses_fit.Given as goal

abbrev pub invariant-loop-clause : goal.invariant-loop-clause
invariant-loop-clause l =
    Tallied l.tally (take l.clause-index l.clauses)
    × (length l.tally ≡ 193)
    × (clauses_fit l.count l.procedures (take l.clause-index l.clauses) (drop l.clause-index l.clauses)
    ≡ clauses_fit l.count l.procedures [] l.clauses)
