-- Left and right numbers, entry by entry.
use Rattle.std.proofs.Common.{◌≡◌, ℕ, zero, suc, ◌<◌, min, List, [], ◌∷◌, length, get_or, refl, le_of_suc-le-suc, not-suc-le-zero, arith}
use Rattle.page.specs.declared.Entry.{Entry}
use Rattle.page.specs.Pages.{paired}

-- There are as many entries as numbers on both sides.
pub length-paired : (ls rs : List ℕ) → length (paired ls rs) ≡ min (length ls) (length rs)
length-paired [] rs = omega arith
length-paired (l ∷ ls) [] = omega arith
length-paired (l ∷ ls) (r ∷ rs) = let e = length-paired ls rs in omega arith

-- The entry at an index has the two numbers there.
pub get_or-paired : (ls rs : List ℕ) (i : ℕ) (d : Entry) → i < length ls → i < length rs
    → get_or (paired ls rs) i d ≡ record { left = get_or ls i 0; right = get_or rs i 0 }
get_or-paired [] rs i d h k = absurd (not-suc-le-zero h)
get_or-paired (l ∷ ls) [] i d h k = absurd (not-suc-le-zero k)
get_or-paired (l ∷ ls) (r ∷ rs) zero d h k = refl
get_or-paired (l ∷ ls) (r ∷ rs) (suc i) d h k = get_or-paired ls rs i d (le_of_suc-le-suc h) (le_of_suc-le-suc k)
