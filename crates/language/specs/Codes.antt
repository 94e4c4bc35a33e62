-- The types of the language, and the type of a result from its code and the types of its operands.
use Rattle.std.specs.Prelude.{ℕ, Bool, cond, ◌&&◌, Some, None, Option, ◌==◌, nat_le}
use Rattle.language.specs.declared.ValueType.{ValueType}
use Rattle.language.specs.declared.Operands.{Operands}
use Rattle.language.specs.declared.Operands.TheVariants.{None as Nothing, One, Two}

abbrev pub bool : ValueType
bool = record { number = 1 }

abbrev pub int : ValueType
int = record { number = 2 }

abbrev pub ref : ValueType
ref = record { number = 3 }

abbrev pub name : ValueType
name = record { number = 4 }

abbrev pub alike : ValueType → ValueType → Bool
alike s t = s.number == t.number

abbrev pub between : ℕ → ℕ → ℕ → Bool
between low high n = nat_le low n && nat_le n high

-- 1 false, 2 true, 3 null
abbrev pub word_type : ℕ → Option ValueType
word_type code = cond (between 1 2 code) (Some bool) (cond (code == 3) (Some ref) None)

-- 4 is an integer literal.
abbrev pub leaf_type : ℕ → Option ValueType
leaf_type code = cond (code == 4) (Some int) (word_type code)

-- 12 not, 13 minus
abbrev pub unary_type : ℕ → ValueType → Option ValueType
unary_type code x =
    cond (code == 12 && alike x bool) (Some bool)
    (cond (code == 13 && alike x int) (Some int) None)

-- 14 = and 15 ≠ on one type; 16 < to 19 > on int; 20 <: on name; 21 + to 25 % on int; 26 and, 27 or, 28 implies, 29 equivalence on bool
abbrev pub binary_type : ℕ → ValueType → ValueType → Option ValueType
binary_type code x y =
    cond (between 14 15 code && alike x y) (Some bool)
    (cond (between 16 19 code && (alike x int && alike y int)) (Some bool)
    (cond (code == 20 && (alike x name && alike y name)) (Some bool)
    (cond (between 21 25 code && (alike x int && alike y int)) (Some int)
    (cond (between 26 29 code && (alike x bool && alike y bool)) (Some bool) None))))

abbrev pub result_of : ℕ → Operands → Option ValueType
result_of code Nothing = leaf_type code
result_of code (One x) = unary_type code x
result_of code (Two x y) = binary_type code x y
