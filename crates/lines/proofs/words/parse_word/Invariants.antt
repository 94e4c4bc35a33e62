use Rattle.std.proofs.Common.{◌≡◌, ◌≤◌, drop}
use Rattle.lines.specs.Words.{word_from}
use Rattle.lines.proofs.words.parse_word.Given as goal

-- What is left, behind the digits so far, gives what the whole word gives.
abbrev pub invariant-loop-byte : goal.invariant-loop-byte
invariant-loop-byte l = (l.value ≤ 4294967296) × (word_from l.value (drop l.byte-index l.word) ≡ word_from 0 l.word)
