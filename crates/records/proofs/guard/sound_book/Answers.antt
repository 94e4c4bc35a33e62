use Rattle.std.proofs.Common.{◌∙◌, ◌≡◌, None, Some, ap, length, rules}
use Rattle.std.specs.Option.{option_map}
use Rattle.records.specs.Sizes.{none, surveyed}
use Rattle.records.specs.Sound.{shown}
use Rattle.records.proofs.Sized.{counts, held_by, no_survey}
use Rattle.records.proofs.guard.sound_book.Goals as goal

pub returns-in_err-totals : goal.returns-in_err-totals
returns-in_err-totals c =
    let e : None ≡ surveyed (length c.args.held.entries.now) none c.args.held.declarations.now = search rules in
    let r : c.from_residual.result ≡ None = search rules in
    ap (option_map shown) r ∙ no_survey c.args.held.entries.now c.args.held.clauses.now c.args.held.declarations.now e

pub returns-then-not-clauses_fit : goal.returns-then-not-clauses_fit
returns-then-not-clauses_fit c =
    let e : Some c.in_ok-totals.totals ≡ surveyed (length c.args.held.entries.now) none c.args.held.declarations.now = search rules in
    held_by c.args.held.entries.now c.args.held.clauses.now c.args.held.declarations.now c.in_ok-totals.totals e _ c.if-not-clauses_fit.ensures

pub invariant_of-result : goal.invariant_of-result
invariant_of-result c =
    let e : Some c.in_ok-totals.totals ≡ surveyed (length c.args.held.entries.now) none c.args.held.declarations.now = search rules in
    let n = counts c.args.held.entries.now c.args.held.clauses.now c.args.held.declarations.now c.in_ok-totals.totals e in
    record { constants_are = n.0; globals_are = n.1; procedures_are = n.2; within = n.3 }
