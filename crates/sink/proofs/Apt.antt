-- The test of a tell's operands, against what it says.
use Rattle.std.proofs.Common.{◌≡◌, ℕ, ◌<◌, true, ltb, List, [], ◌∷◌, length, Some, None, Option, refl}
use Rattle.std.specs.List.{AllByRecursion}
use Rattle.std.proofs.lemmas.Bool.{false≢true, eqb-true, eq-eqb, ltb-true, lt-ltb, and_parts, and_from}
use Rattle.world.specs.Tells.{Tell, arity}
use Rattle.sink.specs.Laws.{suits, below, apt}

-- What the test of the count says.
pub suits_some : (n : Option ℕ) (count : ℕ) → suits n count ≡ true → n ≡ Some count
suits_some None count h = absurd (false≢true h)
suits_some (Some n) count h = let e = eqb-true count n h in cc

-- The test of the count, from what it says.
pub some_suits : (n : Option ℕ) (count : ℕ) → n ≡ Some count → suits n count ≡ true
some_suits n count e = rw e (eq-eqb count count refl)

-- What the test of the entries says.
pub below_all : (n : ℕ) (xs : List ℕ) → below n xs ≡ true → AllByRecursion (λ x. x < n) xs
below_all n [] h = tt
below_all n (x ∷ xs) h = let p = and_parts (ltb x n) (below n xs) h in (ltb-true x n p.0, below_all n xs p.1)

-- The test of the entries, from what it says.
pub all_below : (n : ℕ) (xs : List ℕ) → AllByRecursion (λ x. x < n) xs → below n xs ≡ true
all_below n [] h = refl
all_below n (x ∷ xs) (h, k) = and_from (ltb x n) (below n xs) (lt-ltb x n h) (all_below n xs k)

-- What the whole test says of a tell.
pub apt_parts : (entries : ℕ) (t : Tell) → apt entries t ≡ true → (arity t.code ≡ Some (length t.operands)) × AllByRecursion (λ x. x < entries) t.operands
apt_parts entries t h =
    let p = and_parts (suits (arity t.code) (length t.operands)) (below entries t.operands) h in
    (suits_some (arity t.code) (length t.operands) p.0, below_all entries t.operands p.1)

-- The whole test, from what it says of a tell.
pub apt_from : (entries : ℕ) (t : Tell) → arity t.code ≡ Some (length t.operands) → AllByRecursion (λ x. x < entries) t.operands → apt entries t ≡ true
apt_from entries t e a =
    and_from (suits (arity t.code) (length t.operands)) (below entries t.operands) (some_suits (arity t.code) (length t.operands) e) (all_below entries t.operands a)
