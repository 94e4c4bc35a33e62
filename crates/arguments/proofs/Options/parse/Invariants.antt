use Rattle.std.specs.Vec.Iter.{into_iter_len}
use Rattle.arguments.proofs.Options.parse.Given as goal

-- The arguments that are left.
abbrev pub decreases-loop-argument : goal.decreases-loop-argument
decreases-loop-argument l = into_iter_len l.arguments
