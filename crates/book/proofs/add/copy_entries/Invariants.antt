use Rattle.std.proofs.Common.{◌≡◌, ◌+◌, ◌++◌, length, take}
use Rattle.std.specs.Slice.Iter.{iter_rest}
use Rattle.page.specs.Pages.{paired}
use Rattle.book.proofs.add.copy_entries.Given as goal

abbrev pub invariant-loop-i : goal.invariant-loop-i
invariant-loop-i l =
    let it = l.i-iterator in
    (length l.into ≡ length l.fn.page.left.numbers.now)
    × (it.count + length (iter_rest it.iter.a) ≡ length l.fn.page.left.numbers.now)
    × (length (iter_rest it.iter.b) ≡ length (iter_rest it.iter.a))
    × (take it.count l.into ++ paired (iter_rest it.iter.a) (iter_rest it.iter.b) ≡ paired l.fn.page.left.numbers.now l.fn.page.right.numbers.now)
