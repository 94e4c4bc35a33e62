-- Worlds and readings over a carrier V.
use Rattle.std.specs.Prelude.{◌≡◌, ℕ, Bool, true, false, not, ◌&&◌, ◌||◌, List, [], ◌∷◌, Some, None, Option}
use Rattle.std.specs.Bool.{beq}
use Rattle.language.specs.declared.ValueType.{ValueType}
use Rattle.language.specs.Codes.{bool, leaf_type, unary_type, binary_type}
use Rattle.language.specs.Lists.{Alike}

-- The type of a result, from its code and the types of its operands.
abbrev pub result : ℕ → List ValueType → Option ValueType
result code [] = leaf_type code
result code (x ∷ []) = unary_type code x
result code (x ∷ y ∷ []) = binary_type code x y
result code (x ∷ y ∷ z ∷ ts) = None

-- A world says which values belong to each type, and gives each constant (code 5, by its number), literal and operator a value.
-- Every type has a value, bool has just two, and what an operator gives is of the right type where its operands are.
-- Logic is fixed on truth values, and equality everywhere.
pub record World (V : Type 0) : Type 0 where
  pub belongs : ValueType → V → Bool
  pub truth : Bool → V
  pub same : V → V → Bool
  -- the value of a code at its argument and its operands' values
  pub operate : ℕ → ℕ → List V → V
  pub non_empty : (t : ValueType) → (v : V) × (belongs t v ≡ true)
  pub bool_has : (b : Bool) → belongs bool (truth b) ≡ true
  pub bool_only : (v : V) → belongs bool v ≡ true → (b : Bool) × (v ≡ truth b)
  pub apart : (a b : Bool) → truth a ≡ truth b → a ≡ b
  pub same_self : (v : V) → same v v ≡ true
  pub same_only : (v u : V) → same v u ≡ true → v ≡ u
  pub typed : (code argument : ℕ) (t : ValueType) (ts : List ValueType) (vs : List V) → result code ts ≡ Some t → Alike (λ s v. belongs s v ≡ true) ts vs → belongs t (operate code argument vs) ≡ true
  pub false_is : operate 1 0 [] ≡ truth false
  pub true_is : operate 2 0 [] ≡ truth true
  pub not_is : (a : Bool) → operate 12 0 (truth a ∷ []) ≡ truth (not a)
  pub equal_is : (v u : V) → operate 14 0 (v ∷ u ∷ []) ≡ truth (same v u)
  pub unequal_is : (v u : V) → operate 15 0 (v ∷ u ∷ []) ≡ truth (not (same v u))
  pub and_is : (a b : Bool) → operate 26 0 (truth a ∷ truth b ∷ []) ≡ truth (a && b)
  pub or_is : (a b : Bool) → operate 27 0 (truth a ∷ truth b ∷ []) ≡ truth (a || b)
  pub implies_is : (a b : Bool) → operate 28 0 (truth a ∷ truth b ∷ []) ≡ truth (not a || b)
  pub equivalent_is : (a b : Bool) → operate 29 0 (truth a ∷ truth b ∷ []) ≡ truth (beq a b)

-- A reading is a world with a value for each symbol number.
pub record Reading (V : Type 0) : Type 0 where
  pub world : World V
  pub symbol : ℕ → V

-- Values that are of given types.
abbrev pub OfTypes : {V : Type 0} → World V → List ValueType → List V → Type 0
OfTypes w ts vs = Alike (λ t v. w.belongs t v ≡ true) ts vs
