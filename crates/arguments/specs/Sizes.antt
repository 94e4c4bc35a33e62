-- The sizes that the arguments set.
use Rattle.std.specs.Prelude.{ℕ}
use Rattle.arguments.specs.declared.SizeOption.{SizeOption}
use Rattle.arguments.specs.declared.SizeOption.TheVariants.{Records, Operands, Work}
use Rattle.arguments.specs.declared.Sizes.{Sizes}

-- One size is set, and the others stay.
abbrev pub sizes_with : SizeOption → ℕ → Sizes → Sizes
sizes_with Records n s = record { records = n; operands = s.operands; work = s.work }
sizes_with Operands n s = record { records = s.records; operands = n; work = s.work }
sizes_with Work n s = record { records = s.records; operands = s.operands; work = n }
