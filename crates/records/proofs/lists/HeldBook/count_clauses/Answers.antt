use Rattle.std.proofs.Common.{map, length, arith}
use Rattle.std.proofs.lemmas.List.{at_drop_all}
use Rattle.records.specs.Book.{stated_as}
use Rattle.records.specs.Held.{stated_in}
use Rattle.records.proofs.Finds.{count_no, count_yes}
use Rattle.records.proofs.lists.HeldBook.count_clauses.Goals as goal
use Rattle.records.proofs.lists.HeldBook.count_clauses.Goals.{then-belongs_to, else-belongs_to}

pub loop-clause-preserved : goal.loop-clause-preserved
loop-clause-preserved c =
    elim c.if-belongs_to.branch [
      | then-belongs_to w ↦ (
        omega (arith, w.count-is, c.loop-clause.invariant.0),
        count_yes c.args.kind c.args.procedure c.args.self.now.entries.now c.args.self.now.clauses.now c.loop-clause.clause-index c.loop-clause.count _
            c.loop-clause.invariant.1 c.loop-clause-test.true w.if-belongs_to.ensures c.if-belongs_to.count w.count-is,
      )
      | else-belongs_to w ↦ (
        omega (arith, w.count-is, c.loop-clause.invariant.0),
        count_no c.args.kind c.args.procedure c.args.self.now.entries.now c.args.self.now.clauses.now c.loop-clause.clause-index c.loop-clause.count _
            c.loop-clause.invariant.1 c.loop-clause-test.true w.if-belongs_to.ensures c.if-belongs_to.count w.count-is,
      )
    ]

pub returns : goal.returns
returns c =
    omega (arith, at_drop_all (λ l. length (stated_as c.args.kind c.args.procedure (map (stated_in c.args.self.now.entries.now) l))) c.args.self.now.clauses.now c.loop-clause.clause-index c.loop-clause-test.false)
