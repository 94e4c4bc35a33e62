use Rattle.std.proofs.Common.{◌≡◌, drop}
use Rattle.records.specs.Sizes.{Few, none, surveyed}
use Rattle.records.proofs.guard.survey.Given as goal

abbrev pub invariant-loop-d : goal.invariant-loop-d
invariant-loop-d l =
    Few l.totals
    × (surveyed l.count l.totals (drop l.d-index l.declarations) ≡ surveyed l.count none l.declarations)
