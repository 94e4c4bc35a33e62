use Rattle.std.proofs.Common.{◌≡◌, ◌+◌, [], take, drop}
use Rattle.names.specs.NameGroups.{names_in}
use Rattle.names.specs.Names.{fresh}
use Rattle.names.proofs.NameGroup.leading_fresh.Given as goal

abbrev pub invariant-loop-i : goal.invariant-loop-i
invariant-loop-i l =
    l.i + fresh (names_in l.self l.book) (take l.i l.names) (drop l.i l.names)
    ≡ fresh (names_in l.self l.book) [] l.names
