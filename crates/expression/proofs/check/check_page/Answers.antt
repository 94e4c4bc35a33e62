use Rattle.std.proofs.Common.{◌∙◌, arith, rules}
use Rattle.std.specs.Slice.Iter.{iter_rest}
use Rattle.page.specs.Pages.{paired}
use Rattle.expression.specs.Scopes.{scope_of}
use Rattle.expression.proofs.Walks.{ends_page, exact_of}
use Rattle.expression.proofs.check.check_page.Goals as goal

pub returns-in_err-map_err-clause-exact : goal.returns-in_err-map_err-clause-exact
returns-in_err-map_err-clause-exact c = exact_of (scope_of c.args.scope.now) (paired c.args.left.now c.args.right.now) _ (search rules)

pub returns-clause-is : goal.returns-clause-is
returns-clause-is c =
    c.check_end.ensures
    ∙ ends_page (scope_of c.args.scope.now) c.args.left.now c.args.right.now (iter_rest c.loop-i.i-iterator.iter.a) (iter_rest c.loop-i.i-iterator.iter.b) _ _ _
    c.loop-i.invariant (grind arith) c.min.ensures

pub returns-clause-exact : goal.returns-clause-exact
returns-clause-exact c = exact_of (scope_of c.args.scope.now) (paired c.args.left.now c.args.right.now) _ (returns-clause-is c)
