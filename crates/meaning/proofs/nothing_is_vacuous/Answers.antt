use Rattle.std.proofs.Common.{Bool}
use Rattle.meaning.proofs.nothing_is_vacuous.Goals as goal
use Rattle.meaning.proofs.Examples.{all_fits, examples}

pub returns : goal.returns
returns c = record { all_fits = all_fits; examples = examples Bool }
