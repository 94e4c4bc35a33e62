use Rattle.std.proofs.Common.{get_or, take, refl, ◌∙◌, arith}
use Rattle.std.proofs.lemmas.List.{length-set}
use Rattle.records.proofs.Steps.{no_clause}
use Rattle.records.proofs.Tallies.{count_below, tallied_none, tallied_at, row_counts, lies_row, fit_more}
use Rattle.records.proofs.guard.clauses_fit.Goals as goal

pub loop-clause-init : goal.loop-clause-init
loop-clause-init c = (tallied_none, refl, refl)

pub overflow_add-tally : goal.overflow_add-tally
overflow_add-tally c =
    let here = get_or c.args.clauses.now c.loop-clause.clause-index no_clause in
    let e = row_counts c.loop-clause.tally (take c.loop-clause.clause-index c.args.clauses.now) here c.row-row.result
    c.loop-clause.invariant.0 (lies_row c.args.count c.args.procedures here c.requires c.if-not-lies.ensures) c.row-row.ensures.is in
    let n = count_below here.kind here.procedure c.args.clauses.now c.loop-clause.clause-index (omega arith) in
    omega (arith, e, n)

pub loop-clause-preserved : goal.loop-clause-preserved
loop-clause-preserved c =
    let here = get_or c.args.clauses.now c.loop-clause.clause-index no_clause in
    let r = lies_row c.args.count c.args.procedures here c.requires c.if-not-lies.ensures in (
      tallied_at c.loop-clause.tally c.args.clauses.now c.loop-clause.clause-index c.row-row.result c.loop-clause-test.true c.loop-clause.invariant.0 c.loop-clause.invariant.1 r c.row-row.ensures.is,
      length-set c.loop-clause.tally c.row-row.result _ ∙ c.loop-clause.invariant.1,
      fit_more c.args.count c.args.procedures c.args.clauses.now c.loop-clause.clause-index _ c.loop-clause.invariant.2
          c.loop-clause-test.true (get_or c.loop-clause.tally c.row-row.result 0)
          (row_counts c.loop-clause.tally (take c.loop-clause.clause-index c.args.clauses.now) here c.row-row.result c.loop-clause.invariant.0 r c.row-row.ensures.is)
          c.if-is_full.ensures c.if-not-lies.ensures,
    )
