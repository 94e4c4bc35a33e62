use Rattle.records.proofs.Steps.{few_few, survey_many, survey_more}
use Rattle.records.proofs.guard.survey.Goals as goal

pub returns-then-not-are_few : goal.returns-then-not-are_few
returns-then-not-are_few c =
    survey_many c.args.count c.args.declarations.now c.loop-d.d-index c.loop-d.totals _ c.loop-d.invariant.1
    c.loop-d-test.true c.counting-totals.result c.counting-totals.ensures c.if-not-are_few.ensures

pub loop-d-preserved : goal.loop-d-preserved
loop-d-preserved c = (
  few_few c.counting-totals.result c.if-not-are_few.ensures,
  survey_more c.args.count c.args.declarations.now c.loop-d.d-index c.loop-d.totals _ c.loop-d.invariant.1
      c.loop-d-test.true c.counting-totals.result c.counting-totals.ensures c.if-not-fits.ensures,
)
