use Rattle.formula.proofs.Sinks.{holds}
use Rattle.formula.proofs.formulas_hold.Goals as goal

pub returns : goal.returns
returns g c = holds g.S.Sink.watches g.S.Sink.entries g.S.Sink.value g.S.Sink.takes g.S.Sink.spare g.S.Sink.steps g.S.Sink.lawful
