use Rattle.meaning.proofs.formulas_mean_runs.Goals as goal
use Rattle.meaning.proofs.Theorem.{false_is_wrong, wrong_is_false, told_lawfully}
use Rattle.meaning.proofs.Readings.{has_reading, true_is_right}
use Rattle.meaning.proofs.Costs.{at_most_t}

pub returns : goal.returns
returns g c =
    let V = g.C.Carrier.Value in
    record { false_is_wrong = false_is_wrong V; wrong_is_false = wrong_is_false V; has_reading = has_reading V; true_is_right = true_is_right V; told_lawfully = told_lawfully V; at_most_t = at_most_t }
