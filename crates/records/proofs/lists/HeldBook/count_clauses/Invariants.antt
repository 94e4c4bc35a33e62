use Rattle.std.proofs.Common.{◌≡◌, ◌+◌, ◌≤◌, map, length, drop}
use Rattle.records.specs.Book.{stated_as}
use Rattle.records.specs.Held.{stated_in}
use Rattle.records.proofs.lists.HeldBook.count_clauses.Given as goal

abbrev pub invariant-loop-clause : goal.invariant-loop-clause
invariant-loop-clause l =
    (l.count ≤ l.clause-index)
    × (l.count + length (stated_as l.kind l.procedure (map (stated_in l.self.entries.now) (drop l.clause-index l.self.clauses.now)))
    ≡ length (stated_as l.kind l.procedure (map (stated_in l.self.entries.now) l.self.clauses.now)))
