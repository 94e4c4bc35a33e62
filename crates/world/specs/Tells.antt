-- Tells: what a sink is handed, and what each means in a reading.
use Rattle.std.specs.Prelude.{◌≡◌, ℕ, Bool, true, cond, ◌||◌, List, [], ◌∷◌, Some, None, Option, ◌==◌}
use Rattle.language.specs.Codes.{between}
use Rattle.world.specs.Worlds.{Reading}

-- A code, an argument and operands.
pub record Tell : Type 0 where
  pub code : ℕ
  pub argument : ℕ
  pub operands : List ℕ

-- How many operands a told code has: false, true, null, literals, constants (5, by number) and symbols (7, by number) have none,
-- not and minus one, the other operators two. Other codes are never told.
abbrev pub arity : ℕ → Option ℕ
arity code =
    cond (between 1 5 code || code == 7) (Some 0)
    (cond (between 12 13 code) (Some 1)
    (cond (between 14 29 code) (Some 2) None))

-- What a reading gives for a code, an argument and operand values.
abbrev pub meant : {V : Type 0} → Reading V → ℕ → ℕ → List V → V
meant q code argument vs = cond (code == 7) (q.symbol argument) (q.world.operate code argument vs)

-- The codes of logic: not, and, or, implies, equivalence.
abbrev pub is_logic : ℕ → Bool
is_logic code = code == 12 || between 26 29 code

-- Each of these is a truth value.
abbrev pub Truths : {V : Type 0} → Reading V → List V → Type 0
Truths q [] = Unit {0}
Truths q (v ∷ vs) = ((b : Bool) × (v ≡ q.world.truth b)) × Truths q vs

-- Where the reading binds what is told: logic on truth values only, other codes always.
abbrev pub Binds : {V : Type 0} → Reading V → ℕ → List V → Type 0
Binds q code vs = is_logic code ≡ true → Truths q vs
