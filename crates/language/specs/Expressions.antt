-- Expressions, their postfix form, and their types.
use Rattle.std.specs.Prelude.{◌≡◌, ℕ, Bool, cond, List, [], ◌∷◌, ◌++◌, is_some, Some, None, Option, ◌==◌}
use Rattle.page.specs.declared.Entry.{Entry}
use Rattle.language.specs.declared.ValueType.{ValueType}
use Rattle.language.specs.Codes.{int, word_type, unary_type, binary_type}

-- An expression with its names as they are written. A word is false, true or null; operators go by their codes.
pub data Expression : Type 0 where
  word : ℕ → Expression
  literal : ℕ → Expression
  identifier : ℕ → Expression
  old : ℕ → Expression
  unary : ℕ → Expression → Expression
  binary : ℕ → Expression → Expression → Expression

abbrev pub entry : ℕ → ℕ → Entry
entry code argument = record { left = code; right = argument }

-- The entries of an expression: operands in their order, then the code.
abbrev pub postfix : Expression → List Entry
postfix (word code) = entry code 0 ∷ []
postfix (literal value) = entry 4 value ∷ []
postfix (identifier name) = entry 5 name ∷ []
postfix (old name) = entry 8 name ∷ []
postfix (unary code e) = postfix e ++ (entry code 0 ∷ [])
postfix (binary code e f) = postfix e ++ (postfix f ++ (entry code 0 ∷ []))

-- What names mean in a place. An entry is a name and the number of its type.
pub record Scope : Type 0 where
  -- those of identifiers, in the order of look-up
  pub names : List Entry
  -- the globals that `old` may name, where it may stand at all
  pub olds : Option (List Entry)

-- The type of the first of that name.
abbrev pub type_of : ℕ → List Entry → Option ValueType
type_of name [] = None
type_of name (e ∷ es) = cond (e.left == name) (Some (record { number = e.right })) (type_of name es)

-- Do these entries have that name?
abbrev pub has : ℕ → List Entry → Bool
has name entries = is_some (type_of name entries)

abbrev pub old_type : ℕ → Option (List Entry) → Option ValueType
old_type name None = None
old_type name (Some globals) = type_of name globals

-- The expression is rightly typed in the scope, and of that type.
pub data Typed (sc : Scope) : Expression → ValueType → Type 0 where
  a_word : (code : ℕ) {t : ValueType} → word_type code ≡ Some t → Typed sc (word code) t
  a_literal : (value : ℕ) → Typed sc (literal value) int
  an_identifier : (name : ℕ) {t : ValueType} → type_of name sc.names ≡ Some t → Typed sc (identifier name) t
  an_old : (name : ℕ) {t : ValueType} → old_type name sc.olds ≡ Some t → Typed sc (old name) t
  a_unary : (code : ℕ) {e : Expression} {x t : ValueType} → Typed sc e x → unary_type code x ≡ Some t → Typed sc (unary code e) t
  a_binary : (code : ℕ) {e f : Expression} {x y t : ValueType} → Typed sc e x → Typed sc f y → binary_type code x y ≡ Some t → Typed sc (binary code e f) t

-- The entries are the postfix form of a rightly typed expression of that type.
pub record Postfix (sc : Scope) (entries : List Entry) (t : ValueType) : Type 0 where
  pub expression : Expression
  pub written : entries ≡ postfix expression
  pub typed : Typed sc expression t
