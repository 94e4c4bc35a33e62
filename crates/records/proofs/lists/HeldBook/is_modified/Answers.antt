use Rattle.std.proofs.Common.{◌∙◌, rules, tests}
use Rattle.std.proofs.lemmas.Iterator.{YieldsList-from_slice}
use Rattle.std.proofs.lemmas.Iterator.Search.{any_from_yields_List}
use Rattle.records.specs.declared.lists.Clause.{Clause}
use Rattle.language.specs.Expressions.{has}
use Rattle.records.specs.Book.{modified_by}
use Rattle.records.specs.Held.{stated_in}
use Rattle.records.proofs.Finds.{has_any}
use Rattle.records.proofs.lists.HeldBook.is_modified.Goals as goal

pub returns : goal.returns
returns c =
    let f = modified_by c.args.procedure in
    let g = stated_in c.args.self.now.entries.now in
    let cs = c.args.self.now.clauses.now in
    any_from_yields_List (λ (d : Clause). has c.args.name (f (g d))) _ _ c.any.result c.any.ensures.ran (YieldsList-from_slice cs cc) (λ x b q k. search (rules, tests))
    ∙ has_any f g c.args.name cs
