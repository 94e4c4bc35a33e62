-- Which number a word of decimal digits stands for.
use Rattle.std.specs.Prelude.{ℕ, ◌+◌, ◌-◌, ◌*◌, Bool, cond, ◌&&◌, List, [], ◌∷◌, Ok, Err, Result, nat_le, nat_lt}
use Rattle.lines.specs.declared.errors.LineError.{LineError}
use Rattle.lines.specs.declared.errors.LineError.TheVariants.{NotNumber as LineNotNumber, TooLarge as LineTooLarge}
use Rattle.lines.specs.declared.words.WordError.{WordError}
use Rattle.lines.specs.declared.words.WordError.TheVariants.{NotNumber, TooLarge}

-- Is the byte one of the digits 0 to 9, which are the bytes 48 to 57?
abbrev pub is_digit : ℕ → Bool
is_digit b = nat_le 48 b && nat_le b 57

-- The digits before stand for n: each further digit counts ten times less. A number is below 2^32.
abbrev pub word_from : ℕ → List ℕ → Result ℕ WordError
word_from n [] = cond (nat_lt n 4294967296) (Ok n) (Err TooLarge)
word_from n (b ∷ bytes) = cond (is_digit b) (word_from (n * 10 + (b - 48)) bytes) (Err NotNumber)

-- At least one digit, and nothing else.
abbrev pub word_of : List ℕ → Result ℕ WordError
word_of [] = Err NotNumber
word_of (b ∷ bytes) = word_from 0 (b ∷ bytes)

-- What is wrong with a line whose word at this place is wrong.
abbrev pub error_at : ℕ → WordError → LineError
error_at word NotNumber = LineNotNumber word
error_at word TooLarge = LineTooLarge word
