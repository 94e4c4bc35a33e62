-- The number of a procedure in a book within the limits.
use Rattle.std.proofs.Common.{◌≡◌, ℕ, Some, arith, Fits, w32}
use Rattle.std.proofs.lemmas.Bool.Decides.{nat_tests}
use Rattle.std.specs.Option.{option_map}
use Rattle.records.specs.declared.lists.Procedure.{Procedure}
use Rattle.records.specs.declared.sound.SoundBook.{SoundBook}
use Rattle.records.specs.Book.{procedure_named, procedures}
use Rattle.records.specs.Found.{numbered}
use Rattle.records.specs.Sound.{shown}
use Rattle.records.proofs.Finds.{numbered_below}

-- There are at most 64 procedures.
pub procedure_fits : (b : SoundBook) (name : ℕ) (q : Procedure) → option_map numbered (Some q) ≡ procedure_named name (shown b) → Fits w32 q.number
procedure_fits b name q e =
    let n = numbered_below 0 name (procedures (shown b)) (numbered q) e in
    let c = b.procedures_are in
    let w = b.within in
    grind (arith, nat_tests)
