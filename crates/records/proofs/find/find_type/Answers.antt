use Rattle.std.proofs.Common.{arith}
use Rattle.std.proofs.lemmas.List.{at_drop_more, at_drop_all}
use Rattle.std.proofs.lemmas.Bool.Decides.{nat_tests}
use Rattle.language.specs.Expressions.{type_of}
use Rattle.records.proofs.Steps.{no_entry}
use Rattle.records.proofs.find.find_type.Goals as goal

pub returns-then-entry-name : goal.returns-then-entry-name
returns-then-entry-name c = grind (arith, nat_tests, at_drop_more (type_of c.args.name) c.args.entries.now c.loop-entry.entry-index no_entry)

pub loop-entry-preserved : goal.loop-entry-preserved
loop-entry-preserved c = grind (arith, nat_tests, at_drop_more (type_of c.args.name) c.args.entries.now c.loop-entry.entry-index no_entry)

pub returns : goal.returns
returns c = grind (arith, nat_tests, at_drop_all (type_of c.args.name) c.args.entries.now c.loop-entry.entry-index)
