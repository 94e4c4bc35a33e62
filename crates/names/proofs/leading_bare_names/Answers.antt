use Rattle.std.proofs.Common.{ℕ, ◌∙◌, rules}
use Rattle.std.specs.List.{zip}
use Rattle.std.proofs.lemmas.Iterator.{YieldsList-from_slice, YieldsList-from_zip}
use Rattle.std.proofs.lemmas.Iterator.Consumers.{count_from_yields_List}
use Rattle.std.proofs.lemmas.Iterator.Search.{YieldsList-from_take_while}
use Rattle.std.proofs.lemmas.List.Folds.{length-prefix_len}
use Rattle.names.specs.Names.{is_bare_name}
use Rattle.names.proofs.Leads.{prefix_len-zip}
use Rattle.names.proofs.leading_bare_names.Goals as goal

pub returns : goal.returns
returns c =
    count_from_yields_List _ c.count.result c.count.ensures.ran
    (YieldsList-from_take_while _ (λ (n : ℕ × ℕ). is_bare_name (record { left = n.0; right = n.1 }))
    (YieldsList-from_zip (YieldsList-from_slice c.args.left.now cc) (YieldsList-from_slice c.args.right.now cc))
    c.take_while.ensures.closure c.take_while.ensures.done (λ x b q k. search rules))
    ∙ length-prefix_len _ (zip c.args.left.now c.args.right.now)
    ∙ prefix_len-zip is_bare_name c.args.left.now c.args.right.now
