use Rattle.std.proofs.Common.{◌≡◌, []}
use Rattle.std.specs.Slice.Iter.{iter_rest}
use Rattle.page.specs.Pages.{paired}
use Rattle.language.specs.Checking.{after_entries}
use Rattle.expression.specs.Scopes.{scope_of}
use Rattle.expression.specs.Waits.{waiting_in}
use Rattle.expression.proofs.check.check_page.Given as goal

abbrev pub invariant-loop-i : goal.invariant-loop-i
invariant-loop-i l =
    after_entries (scope_of l.scope) l.i-iterator.count (paired (iter_rest l.i-iterator.iter.a) (iter_rest l.i-iterator.iter.b)) (waiting_in l.waiting)
    ≡ after_entries (scope_of l.scope) 0 (paired l.left l.right) []
