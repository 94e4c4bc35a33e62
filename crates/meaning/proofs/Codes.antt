-- What the types of codes say of their telling.
use Rattle.std.proofs.Common.{◌≡◌, ℕ, true, false, eqb, List, [], ◌∷◌, length, Some, ap, arith}
use Rattle.std.proofs.lemmas.Bool.Decides.{nat_tests}
use Rattle.std.proofs.lemmas.Option.{none-some}
use Rattle.language.specs.declared.ValueType.{ValueType}
use Rattle.language.specs.Codes.{bool, unary_type, binary_type}
use Rattle.world.specs.Worlds.{result}
use Rattle.world.specs.Tells.{arity, is_logic}

-- A code that has a result on operands has that many operands.
pub result_arity : (c : ℕ) (ts : List ValueType) (t : ValueType) → result c ts ≡ Some t → arity c ≡ Some (length ts)
result_arity c [] t h = grind (arith, nat_tests)
result_arity c (u ∷ []) t h = grind (arith, nat_tests)
result_arity c (u ∷ v ∷ []) t h = grind (arith, nat_tests)
result_arity c (u ∷ v ∷ x ∷ ts) t h = absurd (none-some _ h)

-- It is not a symbol's.
pub result_no_symbol : (c : ℕ) (ts : List ValueType) (t : ValueType) → result c ts ≡ Some t → eqb c 7 ≡ false
result_no_symbol c [] t h = grind (arith, nat_tests)
result_no_symbol c (u ∷ []) t h = grind (arith, nat_tests)
result_no_symbol c (u ∷ v ∷ []) t h = grind (arith, nat_tests)
result_no_symbol c (u ∷ v ∷ x ∷ ts) t h = absurd (none-some _ h)

is_bool : (t : ValueType) → t.number ≡ 1 → t ≡ bool
is_bool t e = ap (λ (n : ℕ). record { number = n }) e

-- The operand of `not` is of type bool.
pub one_logic : (c : ℕ) (t u : ValueType) → unary_type c t ≡ Some u → is_logic c ≡ true → t ≡ bool
one_logic c t u h l = is_bool t (grind (arith, nat_tests))

-- And so are those of the other codes of logic.
pub two_logic : (c : ℕ) (t u v : ValueType) → binary_type c t u ≡ Some v → is_logic c ≡ true → (t ≡ bool) × (u ≡ bool)
two_logic c t u v h l = (is_bool t (grind (arith, nat_tests)), is_bool u (grind (arith, nat_tests)))
