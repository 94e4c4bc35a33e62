use Rattle.meaning.proofs.formulas_differ.Goals as goal
use Rattle.meaning.proofs.Examples.{examples}

pub returns : goal.returns
returns g c = examples g.C.Carrier.Value
