-- Look-ups through joined lists.
use Rattle.std.proofs.Common.{◌≡◌, ℕ, List, ◌++◌, Some, None, Option, ◌≢◌, refl}
use Rattle.page.specs.declared.Entry.{Entry}
use Rattle.language.specs.declared.ValueType.{ValueType}
use Rattle.language.specs.Expressions.{type_of}
use Rattle.records.specs.Found.{or_else}
use Rattle.records.proofs.Finds.{type_of-append}

-- What is not in the first list is looked up in the second.
pub found_later : (name : ℕ) (xs ys : List Entry) → type_of name xs ≡ None → type_of name (xs ++ ys) ≡ type_of name ys
found_later name xs ys e = rw (type_of-append name xs ys, e) refl

pub found_first : (name : ℕ) (xs ys : List Entry) → type_of name xs ≢ None → type_of name (xs ++ ys) ≡ type_of name xs
found_first name xs ys f = rw (type_of-append name xs ys) (either (type_of name xs) f)
  where
    either : (o : Option ValueType) → o ≢ None → or_else o (type_of name ys) ≡ o
    either None n = absurd (n refl)
    either (Some t) n = refl
