-- A value at the limit stays there: a number too large may be cut to the limit at any digit.
use Rattle.std.proofs.Common.{◌≡◌, ℕ, ◌+◌, ◌-◌, ◌*◌, ◌<◌, min, true, cond, List, [], ◌∷◌, length, get_or, drop, Err, sym, ap, ◌∙◌, arith}
use Rattle.std.proofs.lemmas.List.{at_drop_more}
use Rattle.std.proofs.lemmas.Bool.Decides.{nat_tests}
use Rattle.std.specs.Char.{is_ascii_digit}
use Rattle.lines.specs.declared.words.WordError.TheVariants.{NotNumber}
use Rattle.lines.specs.Words.{is_digit, word_from}

pub capped : (n : ℕ) (bytes : List ℕ) → word_from (min n 4294967296) bytes ≡ word_from n bytes
capped n [] = grind (arith, nat_tests)
capped n (b ∷ bytes) =
    let e : min (min n 4294967296 * 10 + (b - 48)) 4294967296 ≡ min (n * 10 + (b - 48)) 4294967296 = omega arith in
    let r = sym (capped (min n 4294967296 * 10 + (b - 48)) bytes) ∙ (ap (λ m. word_from m bytes) e ∙ capped (n * 10 + (b - 48)) bytes) in
    ap (λ r. cond (is_digit b) r (Err NotNumber)) r

-- a digit
pub goes : (v w d : ℕ) (xs : List ℕ) (i : ℕ) → i < length xs → is_ascii_digit (get_or xs i 0) ≡ true → d ≡ get_or xs i 0 - 48 → w ≡ min (v * 10 + d) 4294967296 → word_from w (drop (i + 1) xs) ≡ word_from v (drop i xs)
goes v w d xs i h e g f =
    let n : ℕ = v * 10 + (get_or xs i 0 - 48) in
    let m : w ≡ min n 4294967296 = f ∙ ap (λ d. min (v * 10 + d) 4294967296) g in
    let step : word_from v (drop i xs) ≡ word_from n (drop (i + 1) xs) = at_drop_more (word_from v) xs i 0 h ∙ ap (λ t. cond t (word_from n (drop (i + 1) xs)) (Err NotNumber)) e in
    ap (λ w. word_from w (drop (i + 1) xs)) m ∙ (capped n (drop (i + 1) xs) ∙ sym step)
